-- The factors of all layers, from those of the second.
use Rattle.std.specs.Prelude.{◌≡◌, ℕ, ◌+◌, ◌-◌, ◌*◌, ◌^◌, ◌<◌, List, [], ◌∷◌, ◌++◌}
use Rattle.std.specs.Prelude.{◌↔◌, Bool, IsTrue, length, map, take, drop, slice_index_or}
use Rattle.std.specs.List.{range_with_len}
use Rattle.std.proofs.Common.{zero, suc}
use Rattle.circle_field.specs.Field.{FieldOps}
use Rattle.circle_field.specs.Circle.{Coordinates}
use Rattle.circle_point.specs.Basis.{doubled_x}
use Rattle.circle_domain.specs.Domain.{log_size, shift_of}
use Rattle.circle_domain.specs.Layers.{every_second, layer_factors}
use Rattle.circle_domain.specs.declared.domain.CircleDomain.{CircleDomain}

module _ {F : Type 0} (k : FieldOps F) where
  -- the first layer: e is 1 or -1, and the quarter turn of (x, y) is (-e y, e x), so that x and
  -- z = -e y of the second layer stand for y, -y, e x and -e x
  abbrev pub first_of_second : F → List F → List F
  first_of_second e [] = []
  first_of_second e (x ∷ []) = []
  first_of_second e (x ∷ z ∷ rest) =
      k.neg (k.mul e z) ∷ k.mul e z ∷ k.mul e x ∷ k.neg (k.mul e x) ∷ first_of_second e rest

  -- the factors of n layers, one layer after another, from the lowest of them on
  abbrev pub layers_from : ℕ → List F → List F
  layers_from zero xs = []
  layers_from (suc count) xs = xs ++ layers_from count (map (doubled_x k) (every_second xs))

  -- 2 a b
  abbrev pub twice : F → F → F
  twice a b = k.add (k.mul a b) (k.mul a b)

-- a list cut into parts of 2^(count - 1), .., 4, 2, 1 entries
abbrev pub halving_parts : {T : Type 0} → ℕ → List T → List (List T)
halving_parts zero xs = []
halving_parts (suc count) xs = take (2 ^ count) xs ∷ halving_parts count (drop (2 ^ count) xs)

-- n layers, one by one, where all but the first are given one after another
abbrev pub all_layers : {F : Type 0} → FieldOps F → F → ℕ → List F → List (List F)
all_layers k e n higher =
    first_of_second k e (take (2 ^ (n - 2)) higher) ∷ halving_parts (n - 1) higher

-- the inverses of the factors of the blocks of each layer, the smallest blocks first
abbrev pub inverses_by_layer : {F : Type 0} {g : _} →
    FieldOps F → (ℕ → Coordinates F) → CircleDomain F g → List (List F)
inverses_by_layer k gen d =
    map (λ m. map k.inv (layer_factors k gen (log_size d) (shift_of d) m))
    (range_with_len 0 (log_size d))

-- a list of layers, each half as long as the one before and the first of h entries, so that entry
-- h + i stands above entries 2i and 2i + 1: of any four entries a, b, c, d of a layer and the two
-- above them, u and v, 2ab is v and 2cd is -u
abbrev pub AreLinked : {F : Type 0} → FieldOps F → (h : ℕ) → List F → Type 0
AreLinked {F = F} k h xs = (j : ℕ) (d : F) → 4 * j + 3 < length xs →
    (twice k (slice_index_or xs (4 * j) d) (slice_index_or xs (4 * j + 1) d)
    ≡ slice_index_or xs (h + (2 * j + 1)) d)
    × (twice k (slice_index_or xs (4 * j + 2) d) (slice_index_or xs (4 * j + 3) d)
    ≡ k.neg (slice_index_or xs (h + 2 * j) d))

-- the y coordinate of the quarter turn by the generator of order 4 is 1
abbrev pub TurnsLeft : {F : Type 0} → FieldOps F → (ℕ → Coordinates F) → Bool → Type 0
TurnsLeft k gen left = IsTrue left ↔ ((gen 2).y ≡ k.one)
