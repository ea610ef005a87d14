use Rattle.std.proofs.Common.{◌≡◌, ◌+◌}
use Rattle.circle_cfft.specs.Butterflies.{count_of}
use Rattle.circle_cfft.proofs.LaneWrites.{PairedRows}
use Rattle.circle_cfft.proofs.groups.combine_lanes.Given as goal

abbrev pub invariant-loop-lane : goal.invariant-loop-lane
invariant-loop-lane g l =
    let r = l.group in
    record {
      rows : PairedRows g.F.Operations.ops.zero g.B.Butterfly.lower g.B.Butterfly.upper l.factor
          r.offset r.width r.stride l.half l.initial.lows l.initial.highs l.lane l.lows l.highs;
      count : count_of l.butterflies ≡ count_of l.fn.butterflies + l.lane;
    }
