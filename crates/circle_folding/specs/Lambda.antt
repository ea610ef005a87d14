-- The multiple of the vanishing polynomial in a codeword: Circle STARKs (ePrint 2024/278), section
-- 4.3, Lemma 6.
use Rattle.std.specs.Prelude.{ℕ, ◌+◌, ◌-◌, List, map}
use Rattle.circle_field.specs.Field.{FieldOps, sub, two, nth_power}
use Rattle.circle_field.specs.Circle.{Coordinates}
use Rattle.circle_point.specs.Basis.{vanishing}
use Rattle.circle_commit.specs.DotProduct.{dot, pairwise}
use Rattle.circle_domain.specs.Order.{cfft_order}

module _ {F E : Type 0} (k : FieldOps F) (gen : ℕ → Coordinates F)
    (l : FieldOps E) (embed : F → E) where
  -- v_n at the points of the standard domain of 2^m points in the transform's order, where n is m
  -- less the blowup's logarithm
  abbrev pub vanishing_values : ℕ → ℕ → List E
  vanishing_values blowup m =
      map (λ p. embed (vanishing k (m - blowup) p)) (cfft_order k gen m (gen (m + 1)))

  -- the sum of a codeword of 2^m entries times v_n, divided by 2^(m - 1)
  abbrev pub lambda_of : ℕ → ℕ → List E → E
  lambda_of blowup m word =
      l.mul (dot l word (vanishing_values blowup m)) (l.inv (nth_power l (two l) (m - 1)))

  -- a codeword less lambda times v_n
  abbrev pub remainder_of : ℕ → ℕ → E → List E → List E
  remainder_of blowup m lambda word =
      pairwise (λ a v. sub l a (l.mul lambda v)) word (vanishing_values blowup m)
