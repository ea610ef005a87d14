use Rattle.std.proofs.Common.{◌≡◌, ◌<◌, ◌∙◌, sym, ap, arith, length, slice_index_or, slice_set}
use Rattle.circle_commit.proofs.Written.{written, written-read, written-more, written-all}
use Rattle.circle_commit.proofs.Written.{length-pairwise, pairwise-read}
use Rattle.circle_commit.specs.DotProduct.{pairwise}
use Rattle.circle_quotient.proofs.sums.add_multiple.Goals as goal

pub loop-i-preserved : goal.loop-i-preserved
loop-i-preserved g c =
    let k = g.F.Operations.ops in
    let w = c.args.weight in
    let f = λ (a : g.row.F.Denot) (x : g.row.F.Denot). k.add a (k.mul x w) in
    let xs = c.args.sums.now in
    let ys = c.args.elements.now in
    let i = c.loop-i.i in
    let a = c.index-sums-i.result in
    let b = c.index-elements-i.result in
    let u = c.add.result in
    let in_ys : i < length ys = c.loop-i-test.true in
    let in_xs : i < length xs = omega (arith, in_ys, c.requires) in
    let long = length-pairwise f xs ys c.requires in
    let read_a : slice_index_or xs i a ≡ a =
    sym (c.index-sums-i.is ∙ ap (λ zs. slice_index_or zs i a) c.loop-i.invariant
    ∙ written-read i (pairwise f xs ys) xs a long) in
    let is : u ≡ slice_index_or (pairwise f xs ys) i u =
    g.met.F.Field.add_law _ _ _ c.add.ensures
    ∙ ap (k.add a) (g.met.F.Field.mul_law _ _ _ c.mul.ensures)
    ∙ ap (λ x. f x b) (sym read_a) ∙ ap (f (slice_index_or xs i a)) c.index-elements-i.is
    ∙ sym (pairwise-read f xs ys i a b u in_xs in_ys) in
    ap (λ zs. slice_set zs i u) c.loop-i.invariant
    ∙ ap (slice_set (written i (pairwise f xs ys) xs) i) is
    ∙ written-more i (pairwise f xs ys) xs u long in_xs

pub returns : goal.returns
returns g c =
    let k = g.F.Operations.ops in
    let f = λ (a : g.row.F.Denot) (x : g.row.F.Denot). k.add a (k.mul x c.args.weight) in
    let xs = c.args.sums.now in
    let ys = c.args.elements.now in
    c.loop-i.invariant
    ∙ written-all c.loop-i.i (pairwise f xs ys) xs (length-pairwise f xs ys c.requires)
    (omega (arith, c.loop-i-test.false, c.requires))
