-- What a domain and its iterators are to contracts.
use Rattle.std.specs.Prelude.{◌≡◌, ℕ, ◌+◌, List, [], ◌∷◌, map}
use Rattle.std.specs.List.{range_with_len}
use Rattle.std.proofs.Common.{zero, suc}
use Rattle.circle_field.specs.Field.{FieldOps}
use Rattle.circle_field.specs.Circle.{Coordinates, plus}
use Rattle.circle_point.specs.Point.{coordinates}
use Rattle.circle_domain.specs.Layers.{layer_factors}
use Rattle.circle_domain.specs.Order.{natural_order, cfft_order, IsGenuine}
use Rattle.circle_domain.specs.Selectors.{IsStandard}
use Rattle.circle_domain.specs.declared.domain.CircleDomain.{CircleDomain}
use Rattle.circle_domain.specs.declared.domain.CirclePoints.{CirclePoints}
use Rattle.circle_domain.specs.declared.domain.CircleCoset.{CircleCoset}

-- the binary logarithm of the number of points
abbrev pub log_size : {F : Type 0} {g : _} → CircleDomain F g → ℕ
log_size d = d.log_n

-- the coordinates of the first point
abbrev pub shift_of : {F : Type 0} {g : _} → CircleDomain F g → Coordinates F
shift_of d = coordinates d.shift

-- the points of a domain in natural order
abbrev pub points_of : {F : Type 0} {g : _} →
    FieldOps F → (ℕ → Coordinates F) → CircleDomain F g → List (Coordinates F)
points_of k gen d = natural_order k gen (log_size d) (shift_of d)

-- the points of a domain in the order of the circle FFT
abbrev pub cfft_points_of : {F : Type 0} {g : _} →
    FieldOps F → (ℕ → Coordinates F) → CircleDomain F g → List (Coordinates F)
cfft_points_of k gen d = cfft_order k gen (log_size d) (shift_of d)

-- the factors of the blocks of each layer of its transform, the smallest blocks first
abbrev pub factors_by_layer : {F : Type 0} {g : _} →
    FieldOps F → (ℕ → Coordinates F) → CircleDomain F g → List (List F)
factors_by_layer k gen d =
    map (layer_factors k gen (log_size d) (shift_of d)) (range_with_len 0 (log_size d))

-- a domain is the standard one of its size
abbrev pub IsStandardDomain : {F : Type 0} {g : _} →
    ℕ → (ℕ → Coordinates F) → CircleDomain F g → Type 0
IsStandardDomain bits gen d = IsStandard bits gen (log_size d) (shift_of d)

-- the standard domain of 2^n points
abbrev pub IsStandardOf : {F : Type 0} {g : _} →
    (ℕ → Coordinates F) → ℕ → CircleDomain F g → Type 0
IsStandardOf gen n d = (log_size d ≡ n) × (shift_of d ≡ gen (log_size d + 1))

-- a domain of at least two points whose halves are disjoint
abbrev pub IsGenuineDomain : {F : Type 0} {g : _} → FieldOps F → CircleDomain F g → Type 0
IsGenuineDomain k d = IsGenuine k (log_size d) (shift_of d)

module _ {F : Type 0} (k : FieldOps F) where
  -- p, p + g, p + 2 g, .., count in all
  abbrev pub walk : ℕ → Coordinates F → Coordinates F → List (Coordinates F)
  walk zero p g = []
  walk (suc count) p g = p ∷ walk count (plus k p g) g

  -- p, q, p + g, q + g, p + 2 g, .., count in all
  abbrev pub alternating : ℕ → Coordinates F → Coordinates F → Coordinates F → List (Coordinates F)
  alternating zero p q g = []
  alternating (suc count) p q g = p ∷ alternating count q (plus k p g) g

  -- the points that are still to come
  abbrev pub points_left : {g : _} → CirclePoints F g → List (Coordinates F)
  points_left it =
      alternating it.remaining (coordinates it.current) (coordinates it.other) (coordinates it.step)

  abbrev pub coset_left : {g : _} → CircleCoset F g → List (Coordinates F)
  coset_left it = walk it.remaining (coordinates it.current) (coordinates it.step)
