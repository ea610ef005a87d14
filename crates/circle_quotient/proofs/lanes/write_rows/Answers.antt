use Rattle.std.proofs.Common.{◌≡◌, ◌≢◌, ◌+◌, ◌%◌, ◌<◌, [], List, ◌∙◌, sym, ap, subst, arith}
use Rattle.std.proofs.Common.{All, length, get_or, below_more}
use Rattle.std.proofs.lemmas.List.{length-map}
use Rattle.std.proofs.lemmas.Option.{get_or_from_slice_get}
use Rattle.circle_commit.specs.PeriodicLdeTable.{columns_of}
use Rattle.circle_air.proofs.Cycles.{place_more}
use Rattle.circle_quotient.specs.Lanes.{lane_of}
use Rattle.circle_quotient.proofs.LaneLists.{at_lane, lane-columns, vec-each, written-lane}
use Rattle.circle_quotient.proofs.LaneLists.{other-lane, written-lanes}
use Rattle.circle_quotient.proofs.lanes.write_rows.Goals as goal

pub write_row-requires-clause-lane : goal.write_row-requires-clause-lane
write_row-requires-clause-lane g c = λ i v lt.
    let long = vec-each (λ (xs : List g.row.F.Denot). length xs ≡ c.args.lanes)
    c.loop-lane.columns c.loop-lane.invariant.lanes i v lt in
    omega (arith, long, c.loop-lane-test.true)

pub loop-lane-preserved : goal.loop-lane-preserved
loop-lane-preserved g c =
    let k = g.F.Operations.ops in
    let inv = c.loop-lane.invariant in
    let matrix = c.args.rows.now in
    let rows = g.M.Matrix.rows matrix in
    let lane = c.loop-lane.lane in
    let at = c.loop-lane.row in
    let row = c.row.result.now in
    let old = c.loop-lane.columns in
    let new = c.write_row.new.columns in
    let high : c.height.result ≡ length rows =
    c.height.ensures ∙ sym (g.met.M.Matrix.height_law matrix) in
    let here : get_or rows at [] ≡ row = get_or_from_slice_get rows at row [] c.row.ensures in
    let wide : length row ≡ g.M.MatrixShape.width matrix =
    ap length (sym here) ∙ g.met.M.Matrix.width_law matrix at [] inv.below in
    let count : length (columns_of old) ≡ length row =
    length-map old (λ v. v.items) ∙ inv.width ∙ c.requires.width ∙ sym wide in
    let room : All (λ (column : List g.row.F.Denot). lane < length column) (columns_of old) =
    λ i d lt. let long = inv.lanes i d lt in omega (arith, long, c.loop-lane-test.true) in
    let is = c.write_row.ensures in
    record {
      width = c.write_row.auto.columns ∙ inv.width;
      lanes = subst (All (λ (column : List g.row.F.Denot). length column ≡ c.args.lanes)) (sym is)
          (written-lanes k lane c.args.lanes (columns_of old) row count inv.lanes);
      at = place_more c.args.first lane (length rows) at c.following-row.result inv.at
          (c.following-row.ensures.next ∙ ap (λ n. (at + 1) % n) high);
      below = omega (arith, c.following-row.ensures.below, high);
      rows = below_more
          (λ r. lane_of k new r ≡ get_or rows ((c.args.first + r) % length rows) []) lane
          (λ r lt.
          let apart : r ≢ lane = omega (arith, lt) in
          lane-columns k new r ∙ ap (λ xs. at_lane k xs r) is
          ∙ other-lane k lane r apart (columns_of old) row count
          ∙ sym (lane-columns k old r) ∙ inv.rows r lt)
          (lane-columns k new lane ∙ ap (λ xs. at_lane k xs lane) is
          ∙ written-lane k lane (columns_of old) row count room
          ∙ sym here ∙ ap (λ n. get_or rows n []) inv.at);
    }
