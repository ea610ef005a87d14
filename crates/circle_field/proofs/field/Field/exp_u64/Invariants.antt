use Rattle.std.proofs.Common.{◌≡◌}
use Rattle.circle_field.specs.Field.{nth_power}
use Rattle.circle_field.proofs.field.Field.exp_u64.Given as goal

abbrev pub invariant-loop-rest : goal.invariant-loop-rest
invariant-loop-rest g l =
    let k = g.Self.Operations.ops in
    k.mul l.result (nth_power k l.base l.rest) ≡ nth_power k l.self l.power

abbrev pub decreases-loop-rest : goal.decreases-loop-rest
decreases-loop-rest g l = l.rest
