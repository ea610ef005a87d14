-- What a batch's rows must satisfy.
use Rattle.std.specs.Prelude.{◌≡◌, Bool, false, ℕ, ◌^◌, [], length, map, slice_index_or}
use Rattle.circle_commit.specs.declared.matrix.Dimensions.{Dimensions}
use Rattle.circle_commit.specs.declared.pcs.CommitmentOpening.{CommitmentOpening}
use Rattle.circle_commit.specs.declared.pcs.BatchMultiOpening.{BatchMultiOpening}
use Rattle.circle_domain.specs.declared.domain.CircleDomain.{CircleDomain}
use Rattle.circle_commit.specs.declared.error.FriError.{FriError}
use Rattle.circle_commit.specs.declared.error.FriError.TheVariants.{InputError as OfInput, Memory}
use Rattle.circle_relation.specs.declared.error.InputError.{InputError}
use Rattle.circle_relation.specs.declared.error.InputError.TheVariants.{InputMmcsError}
use Rattle.circle_verifier.specs.declared.run.OpenedRun.{OpenedRun}
use Rattle.circle_relation.specs.Accepts.{InputAuthenticates}
use Rattle.circle_relation.specs.RunOf.{opened_batch}
use Rattle.circle_verifier.specs.OfRun.{fields_of, run_of}
use Rattle.circle_relation.specs.Statement.{MatrixClaim, log_height}
use Rattle.circle_relation.specs.StatementOf.{batch_claim}

-- the number of columns that are claimed, by the first claim, or 0
abbrev pub claimed_width : {E : Type 0} → MatrixClaim E → ℕ
claimed_width m = length (slice_index_or (map (λ c. c.values) m.claims) 0 [])

-- the shape of a claimed matrix under a blowup
abbrev pub claimed_shape : {E : Type 0} → ℕ → MatrixClaim E → Dimensions
claimed_shape blowup m = record { width = claimed_width m; height = 2 ^ log_height blowup m }

-- the rows that are opened of a batch authenticate at a run's queries
module _ {F E I W IC ID IP IE WC WD WP WE : Type 0} {g ext over inputs ic ip ie words wc wp we : _}
    (o : OpenedRun F E I W IC ID IP IE WC WD WP WE g ext over inputs ic ip ie words wc wp we) where
  abbrev pub AreShown :
      CommitmentOpening E IC (CircleDomain F g) → BatchMultiOpening F I IC ID IP IE → Type 0
  AreShown batch opening =
      InputAuthenticates (fields_of o) o.params.now (run_of o) (inputs.authenticates o.mmcs.now)
      (batch_claim batch, opened_batch opening)

-- an error refuses rows that don't authenticate, and is no scheme's error of memory, or says that
-- memory was refused
abbrev pub RefusesRows : {IE WE : Type 0} → (IE → Bool) → Type 0 → FriError WE (InputError IE WE)
    → Type 0
RefusesRows memory Authenticated (OfInput (InputMmcsError e)) =
    memory e ≡ false × (Authenticated → ⊥)
RefusesRows memory Authenticated Memory = Unit {0}
RefusesRows memory Authenticated _ = ⊥
