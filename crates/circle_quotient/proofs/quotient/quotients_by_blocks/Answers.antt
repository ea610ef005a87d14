use Rattle.std.proofs.Common.{◌≡◌, ℕ, ◌+◌, ◌-◌, ◌*◌, ◌%◌, ◌^◌, ◌<◌, ◌≤◌, ◌∙◌, sym, ap, subst, arith}
use Rattle.std.proofs.Common.{List, length, map, get_or, drop, take}
use Rattle.std.specs.List.{range_with_len}
use Rattle.std.specs.Vec.{with_items}
use Rattle.std.proofs.lemmas.List.{with_items_is}
use Rattle.circle_commit.specs.PeriodicLdeTable.{columns_of}
use Rattle.circle_air.specs.Air.{air_of}
use Rattle.circle_air.specs.Lanes.{lane}
use Rattle.circle_air.specs.Valid.{valid}
use Rattle.circle_air.specs.Values.{values}
use Rattle.circle_quotient.specs.Blocks.{quotient_of_place, selectors_at_place}
use Rattle.circle_quotient.specs.Lanes.{HaveLanes, lane_of}
use Rattle.circle_quotient.specs.Terms.{terms, weighted, window_of_place}
use Rattle.circle_quotient.proofs.PlaceRanges.{block-made, block-of, blocks-whole, node-within}
use Rattle.circle_quotient.proofs.PlaceRanges.{slice-length}
use Rattle.circle_quotient.proofs.quotient.quotients_by_blocks.Goals as goal

pub overflow_mul-start : goal.overflow_mul-start
overflow_mul-start g c =
    let log = c.args.trace.now.log_n + c.args.trace.now.log_num_chunks in
    let b = c.min-log_lanes.result in
    let here = block-of log b c.loop-block.block c.requires.small
    (omega (arith, c.min-log_lanes.ensures)) c.loop-block-test.true in
    omega (arith, here.within, here.small)

pub write-requires-clause-start : goal.write-requires-clause-start
write-requires-clause-start g c =
    let log = c.args.trace.now.log_n + c.args.trace.now.log_num_chunks in
    let b = c.min-log_lanes.result in
    let here = block-of log b c.loop-block.block c.requires.small
    (omega (arith, c.min-log_lanes.ensures)) c.loop-block-test.true in
    omega (arith, here.within, here.some, c.args.trace.now.height)

pub write_sums-requires-clause-places : goal.write_sums-requires-clause-places
write_sums-requires-clause-places g c =
    let log = c.args.trace.now.log_n + c.args.trace.now.log_num_chunks in
    let b = c.min-log_lanes.result in
    let here = block-of log b c.loop-block.block c.requires.small
    (omega (arith, c.min-log_lanes.ensures)) c.loop-block-test.true in
    let within = here.within in
    let terms = c.requires.terms in
    let long = ap length c.deref_mut-in-loop-block.ensures.value
    ∙ c.loop-block.invariant.products in record {
      first = omega (arith, within, long, terms.first);
      last = omega (arith, within, long, terms.last);
      transition = omega (arith, within, long, terms.transition);
    }

pub write_sums-requires-clause-nodes : goal.write_sums-requires-clause-nodes
write_sums-requires-clause-nodes g c = λ i d lt.
    let air = c.args.air.now in
    let p = air_of air in
    let same = c.requires.terms.constraints in
    let inv = c.loop-block.invariant in
    let lanes = 1 * 2 ^ c.min-log_lanes.result % 2 ^ 64 in
    let node = (get_or c.args.terms.now.constraints.now i d).node in
    let earlier : node < length p.nodes =
    subst (λ cs. (get_or cs i d).node < length p.nodes) (sym same)
    ((valid p air.valid).constraint_nodes i d (omega (arith, lt, ap length same))) in
    let long : length c.deref_mut-in-loop-block.result.now ≡ lanes =
    ap length c.deref_mut-in-loop-block.ensures.value ∙ inv.products in
    let values : length c.deref-in-loop-block.result.now ≡ length p.nodes * lanes =
    ap length c.deref-in-loop-block.ensures.value ∙ c.write.ensures.room.values
    ∙ ap (λ n. length p.nodes * n) (c.write.ensures.lanes ∙ inv.lanes) in
    subst (λ n. (node + 1) * n ≤ length c.deref-in-loop-block.result.now) (sym long)
    (subst (λ m. (node + 1) * lanes ≤ m) (sym values)
    (node-within (length p.nodes) lanes node earlier))

pub overflow_add-inverses : goal.overflow_add-inverses
overflow_add-inverses g c =
    let log = c.args.trace.now.log_n + c.args.trace.now.log_num_chunks in
    let b = c.min-log_lanes.result in
    let here = block-of log b c.loop-block.block c.requires.small
    (omega (arith, c.min-log_lanes.ensures)) c.loop-block-test.true in
    omega (arith, here.within, here.small)

pub offset_bounds-deref-start : goal.offset_bounds-deref-start
offset_bounds-deref-start g c =
    let log = c.args.trace.now.log_n + c.args.trace.now.log_num_chunks in
    let b = c.min-log_lanes.result in
    let here = block-of log b c.loop-block.block c.requires.small
    (omega (arith, c.min-log_lanes.ensures)) c.loop-block-test.true in
    let long = ap length c.deref-in-loop-block-2.ensures.value ∙ c.requires.terms.inverses in
    omega (arith, here.within, here.small, long)

pub slice_bounds-inverses-end : goal.slice_bounds-inverses-end
slice_bounds-inverses-end g c =
    let log = c.args.trace.now.log_n + c.args.trace.now.log_num_chunks in
    let b = c.min-log_lanes.result in
    let here = block-of log b c.loop-block.block c.requires.small
    (omega (arith, c.min-log_lanes.ensures)) c.loop-block-test.true in
    let long = ap length c.deref-in-loop-block-2.ensures.value ∙ c.requires.terms.inverses in
    omega (arith, here.within, here.small, long)

pub push_quotients-requires : goal.push_quotients-requires
push_quotients-requires g c =
    let log = c.args.trace.now.log_n + c.args.trace.now.log_num_chunks in
    let b = c.min-log_lanes.result in
    let lanes = 1 * 2 ^ b % 2 ^ 64 in
    let start = c.loop-block.block * lanes in
    let here = block-of log b c.loop-block.block c.requires.small
    (omega (arith, c.min-log_lanes.ensures)) c.loop-block-test.true in
    let inverses = c.deref-in-loop-block-2.result.now in
    let listed = ap length c.deref-in-loop-block-2.ensures.value ∙ c.requires.terms.inverses in
    let degree = g.EF.ExtensionField.DEGREE in
    let new = c.write_sums.new.coefficients in
    let long : length c.deref_mut-in-loop-block.result.now ≡ lanes =
    ap length c.deref_mut-in-loop-block.ensures.value ∙ c.loop-block.invariant.products in
    let same : c.deref-in-loop-block-3.result.now ≡ new =
    c.deref-in-loop-block-3.ensures.value ∙ with_items_is c.loop-block.coefficients new
    (c.write_sums.auto.coefficients ∙ c.deref_mut.ensures.len) in
    subst (λ n. HaveLanes degree n c.deref-in-loop-block-3.result.now)
    (sym (slice-length inverses start lanes (omega (arith, here.within, listed))))
    (subst (HaveLanes degree lanes) (sym same)
    (subst (λ n. HaveLanes degree n new) long c.write_sums.ensures.lanes))

pub loop-block-preserved : goal.loop-block-preserved
loop-block-preserved g c =
    let k = g.F.Operations.ops in
    let l = g.EF.Operations.ops in
    let m = g.EF.ExtensionField.embed in
    let coefficients = g.EF.ExtensionField.coefficients in
    let degree = g.EF.ExtensionField.DEGREE in
    let inv = c.loop-block.invariant in
    let trace = c.args.trace.now in
    let rows = g.M.Matrix.rows trace.rows.now in
    let kk = trace.log_num_chunks in
    let public = trace.public_values.now in
    let log = trace.log_n + kk in
    let b = c.min-log_lanes.result in
    let lanes = 1 * 2 ^ b % 2 ^ 64 in
    let block = c.loop-block.block in
    let start = block * lanes in
    let here = block-of log b block c.requires.small (omega (arith, c.min-log_lanes.ensures))
    c.loop-block-test.true in
    let p = air_of c.args.air.now in
    let t = c.args.terms.now in
    let inverses = t.selectors.inv_vanishing.items in
    let weights = t.weights.items in
    let new = c.write_sums.new.coefficients in
    let long : length c.deref_mut-in-loop-block.result.now ≡ lanes =
    ap length c.deref_mut-in-loop-block.ensures.value ∙ inv.products in
    let written : (with_items c.loop-block.coefficients new).items ≡ new =
    with_items_is c.loop-block.coefficients new
    (c.write_sums.auto.coefficients ∙ c.deref_mut.ensures.len) in
    let read : c.deref-in-loop-block-3.result.now ≡ new =
    c.deref-in-loop-block-3.ensures.value ∙ written in
    let slice = take (start + lanes - start) (drop start c.deref-in-loop-block-2.result.now) in
    let is : slice ≡ take (start + lanes - start) (drop start inverses) =
    ap (λ (xs : List g.row.F.Denot). take (start + lanes - start) (drop start xs))
    c.deref-in-loop-block-2.ensures.value in
    let room : start + lanes ≤ length inverses =
    omega (arith, here.within, c.requires.terms.inverses) in
    let nodes_at = λ (i : ℕ). values k (λ x. x) p.nodes
    (window_of_place k rows (2 ^ kk) (columns_of t.periodic.items) public i) in
    let sum_at = λ (i : ℕ). weighted k l m weights
    (terms k p.constraints (nodes_at i) (selectors_at_place k t i)) in
    let count : length slice ≡ lanes =
    ap length is ∙ slice-length inverses start lanes room in
    let sums : (r : ℕ) → r < length slice →
    lane_of k c.deref-in-loop-block-3.result.now r ≡ coefficients (sum_at (start + r)) =
    λ r lt.
    let s = selectors_at_place k t (start + r) in
    let below : r < lanes = omega (arith, lt, count) in
    let evaluated : lane k (length c.deref_mut-in-loop-block.result.now) r
    c.deref-in-loop-block.result.now ≡ nodes_at (start + r) =
    ap (λ n. lane k n r c.deref-in-loop-block.result.now) (long ∙ sym inv.lanes)
    ∙ ap (lane k c.loop-block.nodes.lanes r) c.deref-in-loop-block.ensures.value
    ∙ c.write.ensures.values r (omega (arith, below, inv.lanes))
    ∙ ap (λ ps. values k (λ x. x) p.nodes
    (window_of_place k rows (2 ^ kk) (columns_of ps) public (start + r))) c.deref.ensures.value in
    ap (λ vs. lane_of k vs r) read
    ∙ c.write_sums.ensures.sums r (omega (arith, below, long))
    ∙ ap (λ ns. coefficients (weighted k l m weights (terms k t.constraints.now ns s))) evaluated
    ∙ ap (λ cs. coefficients (weighted k l m weights (terms k cs (nodes_at (start + r)) s)))
    c.requires.terms.constraints in record {
      lanes = c.write.ensures.lanes ∙ inv.lanes;
      products = ap length (with_items_is c.loop-block.products c.write_sums.new.products
          (c.write_sums.auto.products ∙ c.deref_mut-in-loop-block.ensures.len))
          ∙ c.write_sums.auto.products ∙ long;
      sums = subst (HaveLanes degree lanes) (sym written)
          (subst (λ n. HaveLanes degree n new) long c.write_sums.ensures.lanes);
      room = c.write.ensures.room;
      made = block-made k (λ x i. l.mul (m x) (sum_at i)) inverses block lanes room slice is
          c.loop-block.values.items c.push_quotients.new.values.items inv.made
          (c.in_ok-push_quotients.ensures (λ r. sum_at (start + r)) sums);
    }

pub returns : goal.returns
returns g c =
    let trace = c.args.trace.now in
    let log = trace.log_n + trace.log_num_chunks in
    let b = c.min-log_lanes.result in
    let le : b ≤ log = omega (arith, c.min-log_lanes.ensures) in
    let f = quotient_of_place g.F.Operations.ops g.EF.Operations.ops g.EF.ExtensionField.embed
    (air_of c.args.air.now) (g.M.Matrix.rows trace.rows.now) trace.log_num_chunks
    trace.public_values.now c.args.terms.now in
    let lanes = 1 * 2 ^ b % 2 ^ 64 in
    let end : c.loop-block.block ≡ 1 * 2 ^ (log - b) % 2 ^ 64 =
    omega (arith, c.loop-block-test.false, c.loop-block.auto.block-end) in
    c.loop-block.invariant.made
    ∙ ap (λ n. map f (range_with_len 0 n)) (ap (λ m. m * lanes) end
    ∙ blocks-whole log b c.requires.small le)
