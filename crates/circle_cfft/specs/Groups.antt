-- The layers of one pass in the order of their application, and what they change in a group of
-- rows.
use Rattle.std.specs.Prelude.{◌≡◌, ◌⊎◌, ℕ, ◌+◌, ◌-◌, ◌*◌, ◌^◌, ◌<◌, ◌≤◌}
use Rattle.std.specs.Prelude.{List, length, map, take, drop, Option, Some, None, Vec}
use Rattle.std.specs.declared.alloc.Global.{Global}
use Rattle.std.proofs.Common.{zero, suc}
use Rattle.circle_commit.specs.Matrix.{rows_from, column}
use Rattle.circle_field.specs.Field.{FieldOps}
use Rattle.circle_domain.specs.Layers.{layer}
use Rattle.circle_cfft.specs.declared.groups.Group.{Group}
use Rattle.circle_cfft.specs.Passes.{factors_at}

module _ {F : Type 0} (low high : F → F → F → F) (order : ℕ → ℕ) (width : ℕ)
    (factors_of : ℕ → List F) where
  -- the first n layers of an order, one after another
  abbrev pub in_order : ℕ → List F → List F
  in_order zero xs = xs
  in_order (suc n) xs =
      layer low high (2 ^ order n * width) (factors_of (order n)) (in_order n xs)

module _ {F : Type 0} (n index : ℕ) (factors_of : ℕ → List F) where
  -- of the factors of n layers, those of one block of 2^n lanes
  abbrev pub block_factors : ℕ → List F
  block_factors l = take (2 ^ (n - 1 - l)) (drop (index * 2 ^ (n - 1 - l)) (factors_of l))

  -- the block has its factors at each layer
  abbrev pub HasFactors : Type 0
  HasFactors = (l : ℕ) → l < n → (index + 1) * 2 ^ (n - 1 - l) ≤ length (factors_of l)

module _ {F : Type 0} (low high : F → F → F → F) (order : ℕ → ℕ → ℕ) (width : ℕ) where
  -- all layers of a pass
  abbrev pub pass_layers : List (Vec F Global) → List F → List F
  pass_layers twiddles =
      in_order low high (order (length twiddles)) width (factors_at twiddles) (length twiddles)

  -- and these layers at one block
  abbrev pub block_layers : ℕ → List (Vec F Global) → List F → List F
  block_layers index twiddles =
      in_order low high (order (length twiddles)) width
      (block_factors (length twiddles) index (factors_at twiddles)) (length twiddles)

-- how many pairs of 2^n lanes n layers combine
abbrev pub pairs_of : ℕ → ℕ
pairs_of n = n * 2 ^ (n - 1)

-- entries times the factor that there may be
abbrev pub scaled : {F : Type 0} → FieldOps F → Option F → List F → List F
scaled k None xs = xs
scaled k (Some factor) xs = map (λ a. k.mul a factor) xs

-- column j of lanes of `stride` entries, `height` lanes one after another
abbrev pub lane_column : {F : Type 0} → F → (stride height j : ℕ) → List F → List F
lane_column d stride height j entries = column d (rows_from stride height entries) j

-- in each of `height` lanes the entries offset .. offset + width are changed, and no others: f
-- gives each of their columns anew
pub record ChangesRows {F : Type 0} (d : F) (offset width stride height : ℕ) (f : List F → List F)
    (old new : List F) : Type 0 where
  pub inside : (j : ℕ) → offset ≤ j → j < offset + width →
      lane_column d stride height j new ≡ f (lane_column d stride height j old)
  pub beside : (j : ℕ) → j < stride → (j < offset) ⊎ (offset + width ≤ j) →
      lane_column d stride height j new ≡ lane_column d stride height j old

-- the rows are some, and each lies in its lane
abbrev pub IsGroup : Group → Type 0
IsGroup group = (1 ≤ group.width) × (group.offset + group.width ≤ group.stride)

-- the rows of the group are changed, in this many lanes
abbrev pub ChangesGroup : {F : Type 0} →
    F → Group → ℕ → (List F → List F) → (old new : List F) → Type 0
ChangesGroup d group = ChangesRows d group.offset group.width group.stride
