use Rattle.std.proofs.Common.{◌≡◌, map}
use Rattle.circle_field.specs.Field.{sub}
use Rattle.circle_point.specs.Point.{coordinates}
use Rattle.circle_quotient.proofs.selectors.differences_and_heights.Given as goal

abbrev pub invariant-loop-point : goal.invariant-loop-point
invariant-loop-point g l = record {
  differences : l.differences.items
      ≡ map (λ p. sub g.F.Operations.ops l.x (coordinates p).x) l.yielded;
  heights : l.heights.items ≡ map (λ p. (coordinates p).y) l.yielded;
}
