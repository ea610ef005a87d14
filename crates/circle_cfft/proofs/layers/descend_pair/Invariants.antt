use Rattle.std.proofs.Common.{◌≡◌, ◌+◌, ◌*◌, take, drop, ◌++◌}
use Rattle.circle_cfft.proofs.PairBlocks.{descend_rest}
use Rattle.circle_cfft.proofs.layers.descend_pair.Given as goal

abbrev pub invariant-loop-i : goal.invariant-loop-i
invariant-loop-i g l =
    let rest = descend_rest g.B.Butterfly.lower g.B.Butterfly.upper l.quarter l.uppers l.lowers in
    let done = l.i * ((l.quarter + l.quarter) + (l.quarter + l.quarter)) in
    take done l.values ++ rest l.i (drop done l.values) ≡ rest 0 l.fn.values
