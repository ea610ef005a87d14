use Rattle.std.proofs.Common.{◌≡◌, ◌<◌, ◌∙◌, sym, ap, subst, length, slice_index_or, slice_set}
use Rattle.std.proofs.Common.{arith}
use Rattle.circle_commit.proofs.Written.{written, written-read, written-more, written-all}
use Rattle.circle_commit.proofs.Written.{length-pairwise, pairwise-read}
use Rattle.circle_commit.specs.DotProduct.{pairwise}
use Rattle.circle_folding.proofs.folding.add_each.Goals as goal

pub bounds-others-i : goal.bounds-others-i
bounds-others-i g c = omega (arith, c.loop-i-test.true, c.requires)

pub offset_bounds-others-i : goal.offset_bounds-others-i
offset_bounds-others-i g c = omega (arith, c.loop-i-test.true, c.requires)

pub loop-i-preserved : goal.loop-i-preserved
loop-i-preserved g c =
    let k = g.E.Operations.ops in
    let old = c.args.values.now in
    let others = c.args.others.now in
    let i = c.loop-i.i in
    let new = pairwise k.add old others in
    let v = slice_index_or c.loop-i.values i c.index-values-i.result in
    let o = c.index-others-i.result in
    let sum = c.add.result in
    let long : length new ≡ length old = length-pairwise k.add old others (sym c.requires) in
    let of_others : i < length others = subst (λ n. i < n) (sym c.requires) c.loop-i-test.true in
    let read : v ≡ slice_index_or old i c.index-values-i.result =
    ap (λ xs. slice_index_or xs i c.index-values-i.result) c.loop-i.invariant
    ∙ written-read i new old c.index-values-i.result long in
    let made : sum ≡ slice_index_or new i sum =
    g.met.E.Field.add_law _ _ _ c.add.ensures ∙ ap (λ a. k.add a o) read
    ∙ ap (k.add (slice_index_or old i c.index-values-i.result)) c.index-others-i.is
    ∙ sym (pairwise-read k.add old others i c.index-values-i.result o sum c.loop-i-test.true
    of_others) in
    ap (λ xs. slice_set xs i sum) c.loop-i.invariant
    ∙ ap (slice_set (written i new old) i) made
    ∙ written-more i new old sum long c.loop-i-test.true

pub returns : goal.returns
returns g c =
    let k = g.E.Operations.ops in
    let old = c.args.values.now in
    let others = c.args.others.now in
    let new = pairwise k.add old others in
    let long : length new ≡ length old = length-pairwise k.add old others (sym c.requires) in
    c.loop-i.invariant ∙ written-all c.loop-i.i new old long c.loop-i-test.false
