-- The quotient of claimed values at a point of the circle: Circle STARKs (ePrint 2024/278), section
-- 6, Remark 21.
use Rattle.std.specs.Prelude.{◌≡◌, List, length, map}
use Rattle.std.specs.List.{range_with_len}
use Rattle.circle_field.specs.Field.{FieldOps, sub, nth_power}
use Rattle.circle_field.specs.Circle.{Coordinates}
use Rattle.circle_point.specs.Projective.{difference_from}
use Rattle.circle_commit.specs.DotProduct.{dot, pairwise}

-- 1, alpha, alpha^2, ..
abbrev pub ArePowers : {E : Type 0} → FieldOps E → E → List E → Type 0
ArePowers l alpha powers = powers ≡ map (nth_power l alpha) (range_with_len 0 (length powers))

module _ {F E : Type 0} (l : FieldOps E) (embed : F → E) where
  -- the real and the imaginary part of the vanishing function of z at x: 1 - d.x and -d.y, where d
  -- is x - z
  abbrev pub real_part : Coordinates F → Coordinates E → E
  real_part x z = sub l l.one (difference_from l embed x z).x

  abbrev pub imaginary_part : Coordinates F → Coordinates E → E
  imaginary_part x z = l.neg (difference_from l embed x z).y

  -- the entries of a row less the claimed values
  abbrev pub differences : List F → List E → List E
  differences row values = pairwise (λ r c. sub l (embed r) c) row values

  -- (re - top * im) / (2 re) times the sum of the differences, each times its weight
  abbrev pub weighted_quotient : E → List E → Coordinates F → Coordinates E → List F → List E → E
  weighted_quotient top weights x z row values =
      l.mul (l.mul (sub l (real_part x z) (l.mul top (imaginary_part x z)))
      (l.inv (l.add (real_part x z) (real_part x z)))) (dot l weights (differences row values))

  -- the quotient at x of a row under values claimed at z: the weights are 1, alpha, alpha^2, ..,
  -- and the top one is alpha to the row's width
  abbrev pub claim_quotient : E → Coordinates F → Coordinates E → List F → List E → E
  claim_quotient alpha x z row values =
      weighted_quotient (nth_power l alpha (length row))
      (map (nth_power l alpha) (range_with_len 0 (length row))) x z row values

  -- q is that quotient under any alpha with this top power and these powers
  abbrev pub IsQuotientBy :
      E → List E → Coordinates F → Coordinates E → List F → List E → E → Type 0
  IsQuotientBy top powers x z row values q =
      (alpha : E) → top ≡ nth_power l alpha (length row) → ArePowers l alpha powers →
      q ≡ claim_quotient alpha x z row values
