-- Points that matrices are opened at, as clauses see them.
use Rattle.std.specs.Prelude.{List, map}
use Rattle.circle_codewords.specs.declared.points.OpeningPoint.{OpeningPoint}

-- their coordinates on the projective line
abbrev pub coordinates_of : {E : Type 0} {g : _} → List (OpeningPoint E g) → List E
coordinates_of points = map (λ p. p.coordinate) points
