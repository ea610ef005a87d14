use Rattle.std.proofs.Common.{◌≡◌, map, take}
use Rattle.circle_folding.specs.Chain.{round_twiddle}
use Rattle.circle_folding.proofs.query.first_x_twiddles.Given as goal

abbrev pub invariant-loop-index : goal.invariant-loop-index
invariant-loop-index g l = l.twiddles.items
    ≡ take l.index-index
    (map (round_twiddle g.F.Operations.ops g.F.ComplexExtendable.generators l.log_max_height 0)
    l.indices)
