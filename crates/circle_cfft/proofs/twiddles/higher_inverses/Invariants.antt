use Rattle.std.proofs.Common.{◌≡◌, ◌*◌, ◌++◌, map, take, drop}
use Rattle.circle_cfft.proofs.twiddles.higher_inverses.Given as goal

abbrev pub invariant-loop-j : goal.invariant-loop-j
invariant-loop-j g l =
    l.inverses.items ≡ take (4 * l.j) l.factors
    ++ map g.F.Operations.ops.inv (drop (4 * l.j) l.factors)
