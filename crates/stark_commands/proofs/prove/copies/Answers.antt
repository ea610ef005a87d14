use Rattle.std.proofs.Common.{◌≡◌, ◌++◌, ◌∷◌, ◌∙◌, [], ap, sym, take, List, Vec, Global}
use Rattle.std.proofs.lemmas.List.{map-append, take_all, take_more}
use Rattle.circle_commands.specs.Rows.{lists}
use Rattle.circle_field.specs.declared.mersenne31.Mersenne31.{Mersenne31}
use Rattle.stark_commands.proofs.prove.copies.Goals as goal

pub loop-column-preserved : goal.loop-column-preserved
loop-column-preserved c =
    let columns = c.args.columns.now in
    let i = c.loop-column.column-index in
    let m = c.column-item.result in
    let copy = c.in_ok-from_slice.field-0 in
    let same : copy.items ≡ m.items = c.in_ok-from_slice.ensures.items ∙ c.deref.ensures.value in
    ap lists c.in_ok-push.ensures.items
    ∙ map-append (λ (r : Vec Mersenne31 Global). r.items) c.loop-column.copies.items (copy ∷ [])
    ∙ ap (λ (before : List (List Mersenne31)). before ++ copy.items ∷ []) c.loop-column.invariant
    ∙ ap (λ (last : List Mersenne31). lists (take i columns) ++ last ∷ []) same
    ∙ sym
    (ap lists (take_more columns i m c.loop-column-test.true
    ∙ ap (λ (x : Vec Mersenne31 Global). take i columns ++ x ∷ []) (sym c.column-item.is))
    ∙ map-append (λ (r : Vec Mersenne31 Global). r.items) (take i columns) (m ∷ []))

pub loop-column-init : goal.loop-column-init
loop-column-init c = ap lists c.in_ok-copies.ensures.items

pub returns : goal.returns
returns c =
    c.loop-column.invariant
    ∙ ap lists (take_all c.loop-column.column-index c.args.columns.now c.loop-column-test.false)
