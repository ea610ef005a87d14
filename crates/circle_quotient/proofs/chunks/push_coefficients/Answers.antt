use Rattle.std.proofs.Common.{◌≡◌, ◌++◌, ◌+◌, ◌∙◌, [], ◌∷◌, sym, ap, arith, take, append_assoc}
use Rattle.std.proofs.lemmas.List.{take_all, take_more}
use Rattle.std.proofs.lemmas.Option.{get_or_from_slice_get}
use Rattle.circle_quotient.proofs.chunks.push_coefficients.Goals as goal

pub loop-i-preserved : goal.loop-i-preserved
loop-i-preserved g c =
    let cs = g.EF.ExtensionField.coefficients c.args.element in
    let old = c.args.coefficients.now.items in
    let i = c.loop-i.i in
    let x = c.coefficient.result in
    let count = g.met.EF.ExtensionField.are_coefficients.count c.args.element in
    let split : take (i + 1) cs ≡ take i cs ++ x ∷ [] =
    take_more cs i x (omega (arith, c.loop-i-test.true, count))
    ∙ ap (λ y. take i cs ++ y ∷ []) (get_or_from_slice_get cs i x x c.coefficient.ensures) in
    c.in_ok-push.ensures.items
    ∙ ap (λ before. before ++ x ∷ []) c.loop-i.invariant
    ∙ append_assoc old (take i cs) (x ∷ []) ∙ ap (λ more. old ++ more) (sym split)

pub returns : goal.returns
returns g c =
    let cs = g.EF.ExtensionField.coefficients c.args.element in
    let count = g.met.EF.ExtensionField.are_coefficients.count c.args.element in
    c.loop-i.invariant
    ∙ ap (λ more. c.args.coefficients.now.items ++ more)
    (take_all c.loop-i.i cs (omega (arith, c.loop-i-test.false, count)))
