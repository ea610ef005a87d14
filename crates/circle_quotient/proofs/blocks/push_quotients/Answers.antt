use Rattle.std.proofs.Common.{◌≡◌, ℕ, ◌+◌, ◌<◌, ◌++◌, [], ◌∷◌, ◌∙◌, sym, ap, arith, length, map}
use Rattle.std.proofs.Common.{append_assoc}
use Rattle.std.specs.List.{range_with_len}
use Rattle.std.proofs.lemmas.List.{get_or_default}
use Rattle.circle_commit.proofs.Written.{range-more}
use Rattle.circle_air.specs.Values.{entry}
use Rattle.circle_quotient.proofs.blocks.push_quotients.Goals as goal

pub lane_sum-requires-clause-degree : goal.lane_sum-requires-clause-degree
lane_sum-requires-clause-degree g c = c.requires.all

pub lane_sum-requires-clause-lane : goal.lane_sum-requires-clause-lane
lane_sum-requires-clause-lane g c = λ i d lt.
    let long = c.requires.each i d lt in
    omega (arith, long, c.loop-lane-test.true)

pub loop-lane-preserved : goal.loop-lane-preserved
loop-lane-preserved g c = λ sum is.
    let k = g.F.Operations.ops in
    let l = g.EF.Operations.ops in
    let m = g.EF.ExtensionField.embed in
    let inverses = c.args.inverses.now in
    let lane = c.loop-lane.lane in
    let below : lane < length inverses = c.loop-lane-test.true in
    let f = λ (r : ℕ). l.mul (m (entry k inverses r)) (sum r) in
    let old = c.args.values.now.items in
    let v = c.times_base.result in
    let here : c.lane_sum.result ≡ sum lane =
    g.met.EF.ExtensionField.are_coefficients.determined c.lane_sum.result (sum lane)
    (c.lane_sum.ensures ∙ is lane below) in
    let same : 0 + lane ≡ lane = omega arith in
    let value : v ≡ f (0 + lane) =
    c.times_base.ensures
    ∙ ap (l.mul (m c.index-inverses-lane.result)) here
    ∙ ap (λ x. l.mul (m x) (sum lane))
    (c.index-inverses-lane.is
    ∙ get_or_default inverses lane c.index-inverses-lane.result k.zero below)
    ∙ ap f (sym same) in
    c.in_ok-push.ensures.items
    ∙ ap (λ xs. xs ++ v ∷ []) (c.loop-lane.invariant sum is)
    ∙ append_assoc old (map f (range_with_len 0 lane)) (v ∷ [])
    ∙ ap (λ x. old ++ (map f (range_with_len 0 lane) ++ x ∷ [])) value
    ∙ ap (λ rest. old ++ rest) (sym (range-more f 0 lane))

pub returns : goal.returns
returns g c = λ sum is.
    let k = g.F.Operations.ops in
    let l = g.EF.Operations.ops in
    let m = g.EF.ExtensionField.embed in
    let inverses = c.args.inverses.now in
    let f = λ (r : ℕ). l.mul (m (entry k inverses r)) (sum r) in
    let end : c.loop-lane.lane ≡ length inverses =
    omega (arith, c.loop-lane-test.false, c.loop-lane.auto.lane-end) in
    c.loop-lane.invariant sum is
    ∙ ap (λ n. c.args.values.now.items ++ map f (range_with_len 0 n)) end
