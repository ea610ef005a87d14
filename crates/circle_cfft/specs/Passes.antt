-- Layers of the circle transform, one after another, over entries that are stored row after row.
use Rattle.std.specs.Prelude.{◌≡◌, ℕ, ◌+◌, ◌*◌, ◌^◌, ◌<◌}
use Rattle.std.specs.Prelude.{List, [], length, map, slice_index_or, Vec}
use Rattle.std.specs.declared.alloc.Global.{Global}
use Rattle.std.proofs.Common.{zero, suc}
use Rattle.circle_field.specs.Field.{FieldOps}
use Rattle.circle_domain.specs.Layers.{layer}
use Rattle.circle_cfft.specs.Butterflies.{plus_multiple, minus_multiple}
use Rattle.circle_cfft.specs.Butterflies.{total, scaled_difference}

-- a layer's factors, of those of all layers
abbrev pub factors_at : {F : Type 0} → List (Vec F Global) → ℕ → List F
factors_at twiddles l = slice_index_or (map (λ v. v.items) twiddles) l []

-- at each layer the blocks, one for each factor, make up `count` entries
abbrev pub AreLayersOf : {F : Type 0} → (width count : ℕ) → List (Vec F Global) → Type 0
AreLayersOf width count twiddles = (l : ℕ) → l < length twiddles →
    length (factors_at twiddles l) * (2 ^ l * width + 2 ^ l * width) ≡ count

module _ {F : Type 0} (low high : F → F → F → F) (width : ℕ) (factors_of : ℕ → List F) where
  -- the n layers of the smallest blocks, the largest of these first
  abbrev pub descending : ℕ → List F → List F
  descending zero xs = xs
  descending (suc n) xs = descending n (layer low high (2 ^ n * width) (factors_of n) xs)

  -- and the smallest first
  abbrev pub ascending : ℕ → List F → List F
  ascending zero xs = xs
  ascending (suc n) xs = layer low high (2 ^ n * width) (factors_of n) (ascending n xs)

module _ {F : Type 0} (k : FieldOps F) (width : ℕ) (twiddles : List (Vec F Global)) where
  -- all layers from coefficients to values
  abbrev pub to_values : List F → List F
  to_values =
      descending (plus_multiple k) (minus_multiple k) width (factors_at twiddles) (length twiddles)

  -- all layers from values to multiples of the coefficients, by the inverses of the factors
  abbrev pub to_coefficients : List F → List F
  to_coefficients =
      ascending (total k) (scaled_difference k) width (factors_at twiddles) (length twiddles)
