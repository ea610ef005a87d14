use Rattle.std.proofs.Common.{◌≡◌, ◌*◌, length, map}
use Rattle.std.specs.List.{range_with_len}
use Rattle.circle_air.specs.Air.{air_of}
use Rattle.circle_quotient.specs.Blocks.{quotient_of_place}
use Rattle.circle_quotient.specs.Lanes.{HaveLanes}
use Rattle.circle_quotient.specs.NodeLanes.{HasRoom}
use Rattle.circle_quotient.proofs.quotient.quotients_by_blocks.Given as goal

abbrev pub invariant-loop-block : goal.invariant-loop-block
invariant-loop-block g l =
    let p = air_of l.air in record {
      lanes : l.nodes.lanes ≡ l.lanes;
      products : length l.products.items ≡ l.lanes;
      sums : HaveLanes g.EF.ExtensionField.DEGREE l.lanes l.coefficients.items;
      room : HasRoom p l.nodes;
      made : l.values.items ≡ map (quotient_of_place g.F.Operations.ops g.EF.Operations.ops
          g.EF.ExtensionField.embed p (g.M.Matrix.rows l.trace.rows.now) l.trace.log_num_chunks
          l.trace.public_values.now l.terms) (range_with_len 0 (l.block * l.lanes));
    }
