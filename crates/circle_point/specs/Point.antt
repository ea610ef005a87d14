-- What a point is to contracts: its coordinates.
use Rattle.circle_field.specs.Circle.{Coordinates, at}
use Rattle.circle_point.specs.declared.point.Point.{Point}

-- the coordinates of a point
abbrev pub coordinates : {F : Type 0} {g : _} → Point F g → Coordinates F
coordinates p = at p.x p.y
