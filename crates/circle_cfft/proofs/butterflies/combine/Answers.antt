use Rattle.std.proofs.Common.{◌≡◌, ◌<◌, sym, ◌∙◌, ap, arith, length, slice_index_or, slice_set}
use Rattle.circle_commit.proofs.Written.{written, written-read, written-more, written-all}
use Rattle.circle_commit.proofs.Written.{length-pairwise, pairwise-read}
use Rattle.circle_commit.specs.DotProduct.{pairwise}
use Rattle.circle_cfft.proofs.butterflies.combine.Goals as goal

pub loop-i-preserved : goal.loop-i-preserved
loop-i-preserved g c =
    let low = g.B.Butterfly.lower c.args.factor in
    let high = g.B.Butterfly.upper c.args.factor in
    let xs = c.args.lows.now in
    let ys = c.args.highs.now in
    let i = c.loop-i.i in
    let a = c.index-lows-i.result in
    let b = c.index-highs-i.result in
    let u = c.apply-low.result.0 in
    let v = c.apply-low.result.1 in
    let in_xs : i < length xs = omega (arith, c.loop-i-test.true) in
    let in_ys : i < length ys = omega (arith, c.loop-i-test.true, c.requires) in
    let lows_long = length-pairwise low xs ys c.requires in
    let highs_long = length-pairwise high xs ys c.requires ∙ c.requires in
    let read_a : slice_index_or xs i a ≡ a =
    sym (c.index-lows-i.is ∙ ap (λ zs. slice_index_or zs i a) c.loop-i.invariant.low
    ∙ written-read i (pairwise low xs ys) xs a lows_long) in
    let read_b : slice_index_or ys i b ≡ b =
    sym (c.index-highs-i.is ∙ ap (λ zs. slice_index_or zs i b) c.loop-i.invariant.high
    ∙ written-read i (pairwise high xs ys) ys b highs_long) in
    let low_is : u ≡ slice_index_or (pairwise low xs ys) i u =
    c.apply-low.ensures.low ∙ ap (λ x. low x b) (sym read_a)
    ∙ ap (low (slice_index_or xs i a)) (sym read_b)
    ∙ sym (pairwise-read low xs ys i a b u in_xs in_ys) in
    let high_is : v ≡ slice_index_or (pairwise high xs ys) i v =
    c.apply-low.ensures.high ∙ ap (λ x. high x b) (sym read_a)
    ∙ ap (high (slice_index_or xs i a)) (sym read_b)
    ∙ sym (pairwise-read high xs ys i a b v in_xs in_ys) in
    record {
      low = ap (λ zs. slice_set zs i u) c.loop-i.invariant.low
          ∙ ap (slice_set (written i (pairwise low xs ys) xs) i) low_is
          ∙ written-more i (pairwise low xs ys) xs u lows_long in_xs;
      high = ap (λ zs. slice_set zs i v) c.loop-i.invariant.high
          ∙ ap (slice_set (written i (pairwise high xs ys) ys) i) high_is
          ∙ written-more i (pairwise high xs ys) ys v highs_long in_ys;
    }

pub returns-clause-low : goal.returns-clause-low
returns-clause-low g c =
    let f = g.B.Butterfly.lower c.args.factor in
    let xs = c.args.lows.now in
    let ys = c.args.highs.now in
    c.loop-i.invariant.low
    ∙ written-all c.loop-i.i (pairwise f xs ys) xs (length-pairwise f xs ys c.requires)
    (omega (arith, c.loop-i-test.false))

pub returns-clause-high : goal.returns-clause-high
returns-clause-high g c =
    let f = g.B.Butterfly.upper c.args.factor in
    let xs = c.args.lows.now in
    let ys = c.args.highs.now in
    c.loop-i.invariant.high
    ∙ written-all c.loop-i.i (pairwise f xs ys) ys (length-pairwise f xs ys c.requires
    ∙ c.requires) (omega (arith, c.loop-i-test.false, c.requires))
