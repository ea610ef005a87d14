use Rattle.std.proofs.Common.{◌≡◌, ℕ, ◌<◌, ◌++◌, length, map}
use Rattle.std.specs.List.{range_with_len}
use Rattle.circle_air.specs.Values.{entry}
use Rattle.circle_quotient.specs.Lanes.{lane_of}
use Rattle.circle_quotient.proofs.blocks.push_quotients.Given as goal

abbrev pub invariant-loop-lane : goal.invariant-loop-lane
invariant-loop-lane g l =
    let k = g.F.Operations.ops in
    (sum : ℕ → g.row.EF.Denot) → ((r : ℕ) → r < length l.inverses →
    lane_of k l.sums r ≡ g.EF.ExtensionField.coefficients (sum r)) →
    l.values.items ≡ l.fn.values.items
    ++ map (λ r. g.EF.Operations.ops.mul (g.EF.ExtensionField.embed (entry k l.inverses r)) (sum r))
    (range_with_len 0 l.lane)
