-- A quotient put together from its chunks, at a point where the vanishing polynomial of the trace's
-- domain has a value.
use Rattle.std.specs.Prelude.{◌≡◌, ℕ, ◌+◌, ◌^◌, List, [], ◌∷◌, length, map, remove, slice_index_or}
use Rattle.std.specs.Prelude.{take}
use Rattle.std.specs.List.{range_with_len}
use Rattle.circle_field.specs.Field.{FieldOps, sub}
use Rattle.circle_field.specs.Circle.{Coordinates}
use Rattle.circle_commit.specs.DotProduct.{dot}
use Rattle.circle_point.specs.Basis.{vanishing}
use Rattle.circle_domain.specs.Order.{natural_order}
use Rattle.circle_quotient.specs.Basis.{AreBasis}

module _ {E : Type 0} (l : FieldOps E) where
  -- the product of (at - x) / (own - x) over others x
  abbrev pub lagrange_factor : List E → E → E → E
  lagrange_factor [] own at = l.one
  lagrange_factor (x ∷ others) own at =
      l.mul (l.mul (sub l at x) (l.inv (sub l own x))) (lagrange_factor others own at)

  -- the factor of the part in place j, of parts on which the vanishing polynomial has these values
  abbrev pub part_factor : List E → ℕ → E → E
  part_factor xs j at = lagrange_factor (remove xs j) (slice_index_or xs j l.zero) at

  -- the chunks' values, each times its part's factor, added up
  abbrev pub recomposed : List E → List E → E → E
  recomposed xs chunks at =
      dot l (map (λ j. part_factor xs j at) (range_with_len 0 (length xs))) chunks

-- the values of the vanishing polynomial of 2^n points on the 2^kk parts of the standard domain of
-- 2^(n + kk) points: at the parts' first points, which are the first of the whole
abbrev pub part_values : {F : Type 0} → FieldOps F → (ℕ → Coordinates F) → ℕ → ℕ → List F
part_values k gen n kk =
    map (vanishing k n) (take (2 ^ kk) (natural_order k gen (n + kk) (gen (n + kk + 1))))

-- v is the quotient put together from 2^kk chunks, each given by the coefficients' values, at the
-- point q: a chunk's value is the sum of these, each times its element of the basis
abbrev pub IsRecomposed : {F E : Type 0} →
    FieldOps F → (ℕ → Coordinates F) → FieldOps E → (F → E) → (E → List F) → ℕ → ℕ → ℕ →
    List (List E) → Coordinates E → E → Type 0
IsRecomposed k gen l embed coefficients degree n kk chunks q v =
    (basis : List _) × AreBasis k coefficients degree basis
    × (v ≡ recomposed l (map embed (part_values k gen n kk)) (map (dot l basis) chunks)
    (vanishing l n q))
