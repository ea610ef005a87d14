use Rattle.std.proofs.Common.{◌≡◌, ◌<◌, ◌≤◌, ◌^◌, ◌∙◌, ℕ, sym, ap, arith, length, map, take}
use Rattle.std.proofs.Common.{slice_index_or}
use Rattle.std.proofs.lemmas.List.{take_all, length-map, get_or-map, get_or_default}
use Rattle.std.proofs.lemmas.List.FromFn.{length-map-range_with_len, get_or-map-range_with_len}
use Rattle.circle_commit.specs.DotProduct.{dot}
use Rattle.circle_domain.specs.Ordering.{cfft_index, reordered}
use Rattle.circle_commit.proofs.ColumnSums.{dot-more}
use Rattle.circle_domain.proofs.lagrange.reordered_dot_product.Goals as goal

pub loop-i-preserved : goal.loop-i-preserved
loop-i-preserved g c =
    let l = g.EF.Operations.ops in
    let m = g.EF.ExtensionField.embed in
    let z = g.F.Operations.ops.zero in
    let n = c.args.log_n in
    let evals = c.args.evals.now in
    let ws = c.args.shares.now in
    let entry = λ (i : ℕ). slice_index_or evals (cfft_index n i) z in
    let there = reordered z n evals in
    let values = map m there in
    let i = c.loop-i.i in
    let w = c.index-shares-i.result in
    let below : i < 2 ^ n = omega (arith, c.loop-i-test.true, c.requires.shares) in
    let long : length there ≡ 2 ^ n = length-map-range_with_len entry 0 (2 ^ n) in
    let j = c.cfft_permute_index.result in
    let v = c.index-evals-cfft_permute_index.result in
    let in_evals : j < length evals =
    omega (arith, c.cfft_permute_index.ensures.below, c.requires.size) in
    let read : v ≡ entry i =
    c.index-evals-cfft_permute_index.is ∙ get_or_default evals j v z in_evals
    ∙ ap (λ p. slice_index_or evals p z) c.cfft_permute_index.ensures.value in
    let up : m v ≡ slice_index_or values i (m v) =
    ap m (read ∙ sym (get_or-map-range_with_len entry 0 (2 ^ n) i i z below (omega arith)))
    ∙ sym (get_or-map m there i z (m v) (omega (arith, below, long))) in
    g.met.EF.Field.add_law _ _ _ c.add-sum.ensures
    ∙ ap (λ s. l.add s c.times_base.result) c.loop-i.invariant
    ∙ ap (l.add (dot l (take i ws) (take i values)))
    (c.times_base.ensures ∙ g.EF.Operations.laws.ring.mul_comm (m v) w)
    ∙ sym
    (dot-more l m g.EF.Operations.laws.ring i ws values w (m v) c.loop-i-test.true
    (omega (arith, below, long, length-map there m)) c.index-shares-i.is up)

pub returns : goal.returns
returns g c =
    let l = g.EF.Operations.ops in
    let m = g.EF.ExtensionField.embed in
    let z = g.F.Operations.ops.zero in
    let n = c.args.log_n in
    let evals = c.args.evals.now in
    let entry = λ (i : ℕ). slice_index_or evals (cfft_index n i) z in
    let values = map m (reordered z n evals) in
    let end : length c.args.shares.now ≤ c.loop-i.i = omega (arith, c.loop-i-test.false) in
    c.loop-i.invariant
    ∙ ap (λ ws. dot l ws (take c.loop-i.i values)) (take_all c.loop-i.i c.args.shares.now end)
    ∙ ap (dot l c.args.shares.now)
    (take_all c.loop-i.i values
    (omega (
      arith,
      end,
      c.requires.shares,
      length-map (reordered z n evals) m,
      length-map-range_with_len entry 0 (2 ^ n),
    )))
