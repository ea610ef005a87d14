use Rattle.std.proofs.Common.{◌≡◌, ◌+◌, ◌*◌}
use Rattle.circle_cfft.specs.Butterflies.{count_of}
use Rattle.circle_cfft.proofs.LaneWrites.{LayeredRows}
use Rattle.circle_cfft.proofs.groups.combine_parts.Given as goal

abbrev pub invariant-loop-i : goal.invariant-loop-i
invariant-loop-i g l =
    let r = l.group in
    record {
      rows : LayeredRows g.F.Operations.ops.zero g.B.Butterfly.lower g.B.Butterfly.upper r.offset
          r.width r.stride l.half l.factors l.fn.block l.i l.block;
      count : count_of l.butterflies ≡ count_of l.fn.butterflies + l.i * l.half;
    }
