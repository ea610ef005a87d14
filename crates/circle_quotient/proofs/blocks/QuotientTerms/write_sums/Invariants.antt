use Rattle.std.proofs.Common.{◌≡◌, ℕ, ◌+◌, ◌<◌, map, take}
use Rattle.circle_air.specs.Lanes.{lane}
use Rattle.circle_commit.specs.DotProduct.{dot}
use Rattle.circle_quotient.specs.Blocks.{selectors_at_place}
use Rattle.circle_quotient.specs.Lanes.{HaveLanes, lane_of}
use Rattle.circle_quotient.specs.Terms.{terms}
use Rattle.circle_quotient.proofs.blocks.QuotientTerms.write_sums.Given as goal

abbrev pub invariant-loop-j : goal.invariant-loop-j
invariant-loop-j g l =
    let k = g.F.Operations.ops in
    let t = l.self in record {
      room : HaveLanes g.EF.ExtensionField.DEGREE l.lanes l.coefficients;
      sums : (r : ℕ) → r < l.lanes → lane_of k l.coefficients r
          ≡ g.EF.ExtensionField.coefficients (dot g.EF.Operations.ops
          (take l.j (map g.EF.ExtensionField.embed (terms k t.constraints.now
          (lane k l.lanes r l.nodes) (selectors_at_place k t (l.start + r)))))
          (take l.j t.weights.items));
    }
