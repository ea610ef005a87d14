-- The rows that `prove` accepts, and how it refuses others.
use Rattle.std.specs.Prelude.{ℕ, ◌+◌, ◌<◌, ◌≤◌, ◌^◌, ◌⊎◌, List, [], ◌∷◌, length, All, Vec}
use Rattle.std.specs.declared.alloc.Global.{Global}
use Rattle.circle_commit.specs.Matrix.{IsPowerOfTwo}
use Rattle.circle_field.specs.declared.mersenne31.Mersenne31.{Mersenne31}
use Rattle.circle_relation.specs.declared.error.ProverError.{ProverError}
use Rattle.circle_relation.specs.declared.error.ProverError.TheVariants.{HeightTooLarge}
use Rattle.circle_relation.specs.declared.error.ProverError.TheVariants.{HeightTooSmall}
use Rattle.circle_commands.specs.Rows.{lists, IsRectangular}
use Rattle.circle_commands.specs.declared.prove.Refusal.{Refusal}
use Rattle.circle_commands.specs.declared.prove.Refusal.TheVariants.{RaggedRows}
use Rattle.circle_commands.specs.declared.prove.Refusal.TheVariants.{HeightNotPowerOfTwo, Prover}
use Rattle.circle_commands.specs.declared.prove.Trace.{Trace}

-- from 4 to 2^24 rows of one length, a power of two of them
pub record AreFittingRows (rows : List (Vec Mersenne31 Global)) : Type 0 where
  pub rectangular : IsRectangular (lists rows)
  pub power : IsPowerOfTwo (length rows)
  pub at_most : length rows ≤ 2 ^ 24
  pub at_least : 4 ≤ length rows

abbrev pub HasFittingRows : Trace → Type 0
HasFittingRows t = AreFittingRows t.rows.items

abbrev pub AreFitting : List (Vec Trace Global) → Type 0
AreFitting batches = All (λ b. All HasFittingRows b.items) batches

-- enough of them that something is left to fold where folding stops at 2^final coefficients
abbrev pub AreTallRows : ℕ → List (Vec Mersenne31 Global) → Type 0
AreTallRows final rows = AreFittingRows rows × (2 ^ (2 + final) ≤ length rows)

abbrev pub HasTallRows : ℕ → Trace → Type 0
HasTallRows final t = AreTallRows final t.rows.items

-- a number of rows that is refused
abbrev pub IsHeightRefusal : ℕ → ℕ → ProverError → Type 0
IsHeightRefusal final height HeightTooLarge = 2 ^ 24 < height
IsHeightRefusal final height HeightTooSmall = height < 2 ^ (2 + final)
IsHeightRefusal final height _ = ⊥

-- the first reason to refuse rows
abbrev pub IsRefusalOfRows : ℕ → List (Vec Mersenne31 Global) → Refusal → Type 0
IsRefusalOfRows final rows RaggedRows = ¬ IsRectangular (lists rows)
IsRefusalOfRows final rows HeightNotPowerOfTwo =
    IsRectangular (lists rows) × (¬ IsPowerOfTwo (length rows))
IsRefusalOfRows final rows (Prover error) =
    IsRectangular (lists rows)
    × (IsPowerOfTwo (length rows) × IsHeightRefusal final (length rows) error)

-- one item is refused, and all before it fit
abbrev pub IsFirst : {T : Type 0} → (T → Type 0) → (T → Type 0) → List T → Type 0
IsFirst Fits IsRefused [] = ⊥
IsFirst Fits IsRefused (x ∷ xs) = IsRefused x ⊎ (Fits x × IsFirst Fits IsRefused xs)

-- the first reason to refuse the matrices of a batch
abbrev pub IsRefusalOfBatch : ℕ → List Trace → Refusal → Type 0
IsRefusalOfBatch final traces refusal =
    IsFirst (HasTallRows final) (λ t. IsRefusalOfRows final t.rows.items refusal) traces

abbrev pub AreTall : ℕ → List (Vec Trace Global) → Type 0
AreTall final batches = All (λ b. All (HasTallRows final) b.items) batches

-- and of all batches
abbrev pub IsRefusalOfBatches : ℕ → List (Vec Trace Global) → Refusal → Type 0
IsRefusalOfBatches final batches refusal =
    IsFirst (λ b. All (HasTallRows final) b.items) (λ b. IsRefusalOfBatch final b.items refusal)
    batches
