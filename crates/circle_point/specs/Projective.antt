-- The projective line as coordinates of the circle.
-- Circle STARKs (ePrint 2024/278), section 3, Lemma 1.
use Rattle.std.specs.Prelude.{Bool}
use Rattle.circle_field.specs.Field.{FieldOps, sub}
use Rattle.circle_field.specs.Circle.{Coordinates, at, plus, opposite, lifted}

module _ {F : Type 0} (k : FieldOps F) where
  -- 1 + t^2
  abbrev pub line_norm : F → F
  line_norm t = k.add k.one (k.mul t t)

  -- the point ((1 - t^2) / (1 + t^2), 2 t / (1 + t^2))
  abbrev pub from_line : F → Coordinates F
  from_line t =
      at (k.mul (sub k k.one (k.mul t t)) (k.inv (line_norm t)))
      (k.mul (k.add t t) (k.inv (line_norm t)))

  -- the coordinate y / (x + 1)
  abbrev pub to_line : Coordinates F → F
  to_line p = k.mul p.y (k.inv (k.add p.x k.one))

  -- the half turn (-1, 0)
  abbrev pub half_turn : Coordinates F
  half_turn = at (k.neg k.one) k.zero

module _ {F E : Type 0} (l : FieldOps E) (embed : F → E) where
  -- the difference q - p of a point of an extension and one of its field
  abbrev pub minus : Coordinates E → Coordinates F → Coordinates E
  minus q p = plus l q (opposite l (lifted embed p))

  -- the difference p - z of a point of a field and one of its extension
  abbrev pub difference_from : Coordinates F → Coordinates E → Coordinates E
  difference_from p z = plus l (opposite l z) (lifted embed p)

-- whether a coordinate of the projective line belongs to no point: t^2 = -1
abbrev pub is_at_infinity : {E : Type 0} → (E → E → Bool) → FieldOps E → E → Bool
is_at_infinity eq k t = eq (k.mul t t) (k.neg k.one)
