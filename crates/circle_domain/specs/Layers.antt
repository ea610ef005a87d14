-- The layers of the circle FFT: the blocks of a column, the factors of the blocks, and one layer's
-- sums and differences.
use Rattle.std.specs.Prelude.{ℕ, ◌+◌, ◌-◌, List, [], ◌∷◌, ◌++◌, map, take, drop}
use Rattle.std.proofs.Common.{zero, suc}
use Rattle.circle_field.specs.Field.{FieldOps}
use Rattle.circle_field.specs.Circle.{Coordinates, plus, opposite}
use Rattle.circle_point.specs.Basis.{iterated_x, value}
use Rattle.circle_commit.specs.DotProduct.{pairwise}

-- the halves of each block of 2 * half entries, made anew of both halves and the block's factor
abbrev pub layer : {F : Type 0} →
    (F → F → F → F) → (F → F → F → F) → ℕ → List F → List F → List F
layer low high half [] xs = []
layer low high half (t ∷ ts) xs =
    (pairwise (low t) (take half xs) (take half (drop half xs))
    ++ pairwise (high t) (take half xs) (take half (drop half xs)))
    ++ layer low high half ts (drop (half + half) xs)

module _ {F : Type 0} (k : FieldOps F) where
  -- the factor of the upper half of 2 * 2^m coefficients, which is b_(2^m)
  abbrev pub factor : ℕ → Coordinates F → F
  factor zero p = p.y
  factor (suc m) p = iterated_x k m p.x

  -- the value of 2^m coefficients and no more than as many above them, from those of both parts
  abbrev pub value_by_halves : ℕ → List F → List F → Coordinates F → F
  value_by_halves m lower upper p = k.add (value k lower p) (k.mul (value k upper p) (factor m p))

module _ {F : Type 0} (k : FieldOps F) (gen : ℕ → Coordinates F) where
  -- a block of 2 * 2^m points from q on is one of 2^m from q on and one of 2^m from here on
  abbrev pub second_half : ℕ → Coordinates F → Coordinates F
  second_half zero q = opposite k q
  second_half (suc m) q = plus k q (gen (suc m))

  -- the first points of the 2^a blocks of 2^m points from q on
  abbrev pub block_starts : ℕ → ℕ → Coordinates F → List (Coordinates F)
  block_starts zero m q = q ∷ []
  block_starts (suc a) m q = block_starts a m q ++ block_starts a m (second_half (a + m) q)

  -- the factors of the blocks of 2 * 2^m points of the domain of 2^n points
  abbrev pub layer_factors : ℕ → Coordinates F → ℕ → List F
  layer_factors n s m = map (factor k m) (block_starts (n - (m + 1)) (m + 1) s)

-- a list n times over
abbrev pub copies : {T : Type 0} → ℕ → List T → List T
copies zero xs = []
copies (suc n) xs = xs ++ copies n xs

-- entries 0, 2, 4, .. of a list
abbrev pub every_second : {T : Type 0} → List T → List T
every_second [] = []
every_second (x ∷ []) = x ∷ []
every_second (x ∷ y ∷ xs) = x ∷ every_second xs
