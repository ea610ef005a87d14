use Rattle.std.proofs.Common.{◌≡◌, ◌<◌, ◌∙◌, sym, ap, arith, length, slice_index_or, slice_set}
use Rattle.circle_commit.proofs.Written.{written, written-read, written-more, written-all}
use Rattle.circle_commit.proofs.Written.{length-pairwise, pairwise-read}
use Rattle.circle_commit.specs.DotProduct.{pairwise}
use Rattle.circle_codewords.proofs.ratios.multiply_each.Goals as goal

pub loop-i-preserved : goal.loop-i-preserved
loop-i-preserved g c =
    let k = g.F.Operations.ops in
    let xs = c.args.entries.now in
    let ys = c.args.factors.now in
    let i = c.loop-i.i in
    let a = c.index-entries-i.result in
    let b = c.index-factors-i.result in
    let u = c.mul.result in
    let in_ys : i < length ys = c.loop-i-test.true in
    let in_xs : i < length xs = omega (arith, in_ys, c.requires) in
    let long = length-pairwise k.mul xs ys c.requires in
    let read_a : slice_index_or xs i a ≡ a =
    sym (c.index-entries-i.is ∙ ap (λ zs. slice_index_or zs i a) c.loop-i.invariant
    ∙ written-read i (pairwise k.mul xs ys) xs a long) in
    let is : u ≡ slice_index_or (pairwise k.mul xs ys) i u =
    g.met.F.Field.mul_law _ _ _ c.mul.ensures
    ∙ ap (λ x. k.mul x b) (sym read_a) ∙ ap (k.mul (slice_index_or xs i a)) c.index-factors-i.is
    ∙ sym (pairwise-read k.mul xs ys i a b u in_xs in_ys) in
    ap (λ zs. slice_set zs i u) c.loop-i.invariant
    ∙ ap (slice_set (written i (pairwise k.mul xs ys) xs) i) is
    ∙ written-more i (pairwise k.mul xs ys) xs u long in_xs

pub returns : goal.returns
returns g c =
    let k = g.F.Operations.ops in
    let xs = c.args.entries.now in
    let ys = c.args.factors.now in
    c.loop-i.invariant ∙ written-all c.loop-i.i (pairwise k.mul xs ys) xs
    (length-pairwise k.mul xs ys c.requires) (omega (arith, c.loop-i-test.false, c.requires))
