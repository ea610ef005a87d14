-- When the scheme refuses to commit to matrices, or to open them.
use Rattle.std.specs.Prelude.{◌≡◌, ℕ, ◌⊎◌, List, replicate, Vec}
use Rattle.std.specs.List.{AllZip}
use Rattle.std.specs.declared.alloc.Global.{Global}
use Rattle.circle_field.specs.declared.cubic.Cubic.{Cubic}
use Rattle.circle_field.specs.declared.mersenne31.Mersenne31.{Mersenne31}
use Rattle.circle_commit.specs.Parameters.{with_scheme}
use Rattle.circle_commit.specs.declared.matrix.RowMajorMatrix.{RowMajorMatrix}
use Rattle.circle_commit.specs.declared.pcs.OpeningRequest.{OpeningRequest}
use Rattle.circle_relation.specs.declared.error.ProverError.{ProverError}
use Rattle.circle_commands.specs.Chosen.{preset}
use Rattle.circle_commands.specs.Preset.{Scheme}
use Rattle.circle_commands.specs.Proved.{AreCommitted, ArePlaced, IsCommitted, IsRequested}
use Rattle.circle_commands.specs.Proved.{after_batches}
use Rattle.circle_commands.specs.Traces.{IsFirst}
use Rattle.circle_commands.specs.declared.prove.Committed.{Committed}
use Rattle.circle_commands.specs.declared.prove.Input.{Input}
use Rattle.circle_commands.specs.declared.prove.Refusal.{Refusal}
use Rattle.circle_commands.specs.declared.prove.Refusal.TheVariants.{RaggedRows}
use Rattle.circle_commands.specs.declared.prove.Refusal.TheVariants.{HeightNotPowerOfTwo, Prover}
use Rattle.circle_commands.specs.declared.prove.Trace.{Trace}

-- the scheme refuses to commit to these matrices on standard domains of as many points
pub record IsUncommitted (scheme : Scheme) (traces : List Trace) (error : ProverError) : Type 0
  where
    pub evaluations : List (preset.Domain × RowMajorMatrix Mersenne31)
    pub placed : AllZip (λ t e. ArePlaced t.rows.items e) traces evaluations
    pub refuses : preset.CommitRefuses scheme evaluations error

-- it does so of one batch, and commits to all before it
abbrev pub IsFirstUncommitted : Scheme → List (Vec Trace Global) → ProverError → Type 0
IsFirstUncommitted scheme batches error =
    IsFirst
    (λ b. (c : Committed) × IsCommitted scheme.mmcs scheme.fri_params.log_blowup b.items c)
    (λ b. IsUncommitted scheme b.items error) batches

-- it is a refusal of the scheme, by an error that is so
abbrev pub IsOfScheme : (ProverError → Type 0) → Refusal → Type 0
IsOfScheme Is RaggedRows = ⊥
IsOfScheme Is HeightNotPowerOfTwo = ⊥
IsOfScheme Is (Prover error) = Is error

module _ (input : Input) where
  -- the scheme with the input's parameters refuses to commit to its batches
  pub record IsUncommittable (error : ProverError) : Type 0 where
    pub scheme : Scheme
    pub params : scheme.fri_params ≡ with_scheme input.params scheme.fri_params.mmcs
    pub refuses : IsFirstUncommitted scheme input.batches.items error

  -- the scheme with the input's parameters has committed to its batches so, and refuses to open
  -- them from a challenger in the one state, which it leaves in the other
  pub record AreUnopened (committed : List Committed) (old new : List ℕ) (error : ProverError)
      : Type 0 where
    pub scheme : Scheme
    pub requests : List (OpeningRequest preset.Kept Cubic)
    pub params : scheme.fri_params ≡ with_scheme input.params scheme.fri_params.mmcs
    pub batches :
        AreCommitted scheme.mmcs scheme.fri_params.log_blowup input.batches.items committed
    pub asked : AllZip IsRequested committed requests
    pub refuses : preset.OpenRefuses scheme requests old new error

  -- it refuses to open what it committed to, from a challenger in the one state
  abbrev pub IsUnopenedFrom : List ℕ → List ℕ → ProverError → Type 0
  IsUnopenedFrom old new error =
      (committed : List Committed) × AreUnopened committed old new error

  -- and from the challenger that has absorbed the commitments alone
  abbrev pub IsUnopened : ProverError → Type 0
  IsUnopened error =
      (committed : List Committed) × ((left : List ℕ)
      × AreUnopened committed (after_batches (replicate 32 0) committed) left error)

  -- it refuses to commit or to open
  abbrev pub IsUnproved : Refusal → Type 0
  IsUnproved = IsOfScheme (λ error. IsUncommittable error ⊎ IsUnopened error)

  -- it refuses to commit, which leaves the challenger as it was, or to open from its state
  abbrev pub IsUnprovedFrom : List ℕ → List ℕ → Refusal → Type 0
  IsUnprovedFrom old new =
      IsOfScheme (λ error. (IsUncommittable error × (new ≡ old)) ⊎ IsUnopenedFrom old new error)
