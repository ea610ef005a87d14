use Rattle.circle_cfft.proofs.LaneWrites.{WrittenRows, mapped_column}
use Rattle.circle_cfft.proofs.groups.scale_group.Given as goal

abbrev pub invariant-loop-lane : goal.invariant-loop-lane
invariant-loop-lane g l =
    let k = g.F.Operations.ops in
    let r = l.group in
    WrittenRows k.zero r.offset r.width r.stride l.lanes l.lane
    (mapped_column k.zero (λ a. k.mul a l.factor) r.offset r.width r.stride l.lanes l.fn.block)
    l.fn.block l.block
