-- What all claims at one point share, at the points of a domain.
use Rattle.std.specs.Prelude.{◌≡◌, ℕ, ◌+◌, List, map}
use Rattle.std.specs.List.{Any}
use Rattle.circle_field.specs.Field.{FieldOps, sub}
use Rattle.circle_field.specs.Circle.{Coordinates}
use Rattle.circle_point.specs.Projective.{from_line}
use Rattle.circle_commit.specs.DotProduct.{pairwise}
use Rattle.circle_domain.specs.Order.{cfft_order}
use Rattle.circle_folding.specs.Quotient.{real_part, imaginary_part}
use Rattle.circle_codewords.specs.declared.ratios.PointRatios.{PointRatios}

-- the points of the standard domain of 2^h points, in the transform's order
abbrev pub points_of_height : {F : Type 0} → FieldOps F → (ℕ → Coordinates F) → ℕ
    → List (Coordinates F)
points_of_height k gen h = cfft_order k gen h (gen (h + 1))

module _ {F E : Type 0} (l : FieldOps E) (embed : F → E) where
  -- the imaginary part of the vanishing function of z at x over its real part
  abbrev pub vanishing_ratio : Coordinates E → Coordinates F → E
  vanishing_ratio z x = l.mul (imaginary_part l embed x z) (l.inv (real_part l embed x z))

  -- those of a point given by its coordinate on the projective line
  abbrev pub AreRatiosOf : List (Coordinates F) → PointRatios E → Type 0
  AreRatiosOf points r =
      r.ratios.items ≡ map (vanishing_ratio (from_line l r.point)) points

-- those of a point, by its coordinate, were made
abbrev pub HasRatios : {E : Type 0} → List (PointRatios E) → E → Type 0
HasRatios all t = Any (λ r. r.point ≡ t) all

module _ {E : Type 0} (l : FieldOps E) where
  -- to each sum (half - top * t) * (c - claimed), with t a ratio and c a combined row
  abbrev pub with_quotients : E → E → E → List E → List E → List E → List E
  with_quotients half top claimed ratios combined sums =
      pairwise l.add sums
      (pairwise (λ t c. l.mul (sub l half (l.mul top t)) (sub l c claimed)) ratios combined)
