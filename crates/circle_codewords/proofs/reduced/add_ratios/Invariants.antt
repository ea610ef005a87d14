use Rattle.std.proofs.Common.{map, take, All}
use Rattle.circle_point.specs.Point.{coordinates}
use Rattle.circle_codewords.specs.Ratios.{AreRatiosOf, HasRatios}
use Rattle.circle_codewords.proofs.reduced.add_ratios.Given as goal

abbrev pub invariant-loop-point : goal.invariant-loop-point
invariant-loop-point g l = record {
  right : All (AreRatiosOf g.EF.Operations.ops g.EF.ExtensionField.embed (map coordinates l.domain))
      l.all.items;
  known : All (λ p. HasRatios l.all.items p.coordinate) (take l.point-index l.points);
  kept : (t : _) → HasRatios l.fn.all.items t → HasRatios l.all.items t;
}
