use Rattle.std.proofs.Common.{◌≡◌, map}
use Rattle.std.specs.List.{range_with_len}
use Rattle.circle_field.specs.Field.{nth_power}
use Rattle.circle_field.proofs.field.Field.powers.Given as goal

abbrev pub invariant-loop : goal.invariant-loop
invariant-loop g l =
    let k = g.Self.Operations.ops in
    record {
      made : l.powers.items ≡ map (λ i. nth_power k l.base i) (range_with_len 0 l.counter);
      next : l.power ≡ nth_power k l.base l.counter;
    }
