use Rattle.std.proofs.Common.{◌≡◌, ◌++◌, ◌*◌, map, drop}
use Rattle.circle_point.specs.Basis.{doubled_x}
use Rattle.circle_domain.specs.Layers.{every_second}
use Rattle.circle_domain.proofs.factors.every_second_doubled.Given as goal

abbrev pub invariant-loop-i : goal.invariant-loop-i
invariant-loop-i g l =
    let f = doubled_x g.F.Operations.ops in
    l.doubled.items ++ map f (every_second (drop (2 * l.i) l.abscissas))
    ≡ map f (every_second l.abscissas)
