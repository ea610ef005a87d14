use Rattle.std.proofs.Common.{◌≡◌, ◌+◌, ◌*◌, map, take, drop, ◌++◌}
use Rattle.circle_cfft.proofs.PairBlocks.{ascend_rest}
use Rattle.circle_cfft.proofs.layers.ascend_pair.Given as goal

abbrev pub invariant-loop-i : goal.invariant-loop-i
invariant-loop-i g l =
    let rest = ascend_rest g.B.Butterfly.lower g.B.Butterfly.upper l.quarter l.uppers l.lowers in
    let fin = map (g.S.Finish.finished l.finish) in
    let done = l.i * ((l.quarter + l.quarter) + (l.quarter + l.quarter)) in
    take done l.values ++ fin (rest l.i (drop done l.values)) ≡ fin (rest 0 l.fn.values)
