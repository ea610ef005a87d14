use Rattle.std.proofs.Common.{◌≡◌, ◌*◌, ◌++◌, take, drop}
use Rattle.circle_cfft.proofs.BlockWhole.{size, ascend_from}
use Rattle.circle_cfft.proofs.passes.ascend_parts.Given as goal

abbrev pub invariant-loop-part : goal.invariant-loop-part
invariant-loop-part g l =
    let done = l.part * size l.width l.twiddles in
    let from = ascend_from l.width l.twiddles g.B.Butterfly.lower g.B.Butterfly.upper in
    take done l.entries ++ from l.part (drop done l.entries) ≡ from 0 l.fn.entries
