-- From values at the points of a block to coefficients: the factors of the blocks, and the halves
-- of each block combined by its factor.
use Rattle.std.specs.Prelude.{ℕ, ◌+◌, ◌-◌, ◌^◌, List, [], ◌∷◌, ◌++◌}
use Rattle.std.specs.Prelude.{map, take, drop, slice_index_or}
use Rattle.std.proofs.Common.{zero, suc}
use Rattle.circle_field.specs.Field.{FieldOps, sub}
use Rattle.circle_field.specs.Circle.{Coordinates}
use Rattle.circle_point.specs.Basis.{iterated_x}
use Rattle.circle_commit.specs.DotProduct.{pairwise}
use Rattle.circle_domain.specs.Order.{coset}

module _ {F : Type 0} (k : FieldOps F) where
  -- the factor of the upper half of the coefficients at the first of 2^m points, from the points' x
  -- coordinates, and then those of both halves of the points
  abbrev pub block_factors : ℕ → List F → List F
  block_factors zero xs = []
  block_factors (suc m) xs =
      iterated_x k m (slice_index_or xs 0 k.zero)
      ∷ (block_factors m (take (2 ^ m) xs) ++ block_factors m (drop (2 ^ m) xs))

  -- those of the points at whose x coordinates the entries of a codeword of 2^n entries stand
  abbrev pub factors_of : (ℕ → Coordinates F) → ℕ → List F
  factors_of gen n = block_factors n (map (λ p. p.x) (coset k gen n (gen (n + 2))))

module _ {F E : Type 0} (l : FieldOps E) (embed : F → E) where
  -- 2^m times the coefficients of the polynomial with these values, where the factors have these
  -- inverses
  abbrev pub multiples : ℕ → List F → List E → List E
  multiples zero inverses ws = ws
  multiples (suc m) [] ws = ws
  multiples (suc m) (i ∷ is) ws =
      pairwise l.add (multiples m (take (2 ^ m - 1) is) (take (2 ^ m) ws))
      (multiples m (drop (2 ^ m - 1) is) (drop (2 ^ m) ws))
      ++ pairwise (λ a b. l.mul (embed i) (sub l a b))
      (multiples m (take (2 ^ m - 1) is) (take (2 ^ m) ws))
      (multiples m (drop (2 ^ m - 1) is) (drop (2 ^ m) ws))
