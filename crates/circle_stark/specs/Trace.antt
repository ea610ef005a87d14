-- The statement that a trace proves, and why a trace is refused before the challenger is seeded.
use Rattle.std.specs.Prelude.{◌≡◌, ◌⊎◌, ℕ, not, List, [], ◌∷◌, ◌++◌, length, Result, IfErr, Err}
use Rattle.std.specs.Int.{is_power_of_two}
use Rattle.circle_air.specs.Air.{air_of}
use Rattle.circle_air.specs.Degrees.{IsLogOfChunks, degree_of_parts}
use Rattle.circle_air.specs.Satisfies.{IsFirstViolation}
use Rattle.circle_air.specs.declared.check.Violation.{Violation}
use Rattle.circle_commit.specs.RowMajorMatrix.{height_of, rows, width_of}
use Rattle.circle_commit.specs.declared.params.FriParameters.{FriParameters}
use Rattle.circle_commit.specs.declared.params.PowPhase.{PowPhase}
use Rattle.circle_codewords.specs.Requests.{log_of}
use Rattle.circle_field.specs.Field.{FieldOps}
use Rattle.circle_prover.specs.Requesting.{is_unfit}
use Rattle.circle_relation.specs.TestsInOrder.{Test, answer}
use Rattle.circle_relation.specs.declared.error.ProverError.{ProverError}
use Rattle.circle_relation.specs.declared.error.ProverError.TheVariants.{Memory as OutOfMemory}
use Rattle.circle_relation.specs.declared.error.ProverError.TheVariants.{NoGrindingWitness as NoWitness}
use Rattle.circle_relation.specs.declared.error.ProverError.TheVariants.{PointOnDomain as OnDomain}
use Rattle.circle_stark.specs.Refusals.{count_test, is_too_large, is_too_small, period_test}
use Rattle.circle_stark.specs.Statement.{Statement}
use Rattle.circle_stark.specs.declared.error.StarkProverError.{StarkProverError}
use Rattle.circle_stark.specs.declared.error.StarkProverError.TheVariants.{PublicValuesMismatch}
use Rattle.circle_stark.specs.declared.error.StarkProverError.TheVariants.{WidthMismatch}
use Rattle.circle_stark.specs.declared.error.StarkProverError.TheVariants.{HeightNotPowerOfTwo}
use Rattle.circle_stark.specs.declared.error.StarkProverError.TheVariants.{HeightTooSmall}
use Rattle.circle_stark.specs.declared.error.StarkProverError.TheVariants.{HeightTooLarge}
use Rattle.circle_stark.specs.declared.error.StarkProverError.TheVariants.{PeriodTooLong}
use Rattle.circle_stark.specs.declared.error.StarkProverError.TheVariants.{UnfitParameters}
use Rattle.circle_stark.specs.declared.error.StarkProverError.TheVariants.{Unsatisfied}
use Rattle.circle_stark.specs.declared.error.StarkProverError.TheVariants.{NoGrindingWitness}
use Rattle.circle_stark.specs.declared.error.StarkProverError.TheVariants.{PointOnDomain, Memory}
use Rattle.circle_stark.specs.declared.proof.StarkStatement.{StarkStatement}
use Rattle.circle_stark.specs.declared.trace.StarkTrace.{StarkTrace}

-- the statement that a trace proves, as contracts see it, and as a value of the code
abbrev pub stated : {F : Type 0} → StarkTrace F → Statement F
stated t = record {
  parts = air_of t.air.now;
  log_n = log_of (height_of t.rows);
  public_values = t.public_values.now;
}

abbrev pub statement_by : {F : Type 0} → StarkTrace F → StarkStatement F
statement_by t = record {
  air = t.air;
  log_n = log_of (height_of t.rows);
  public_values = t.public_values;
}

-- the trace has as many public values and columns as the AIR, and a power of two of rows
abbrev pub shape_tests : {F : Type 0} → Statement F → ℕ → ℕ → List (Test StarkProverError)
shape_tests s width height =
    count_test PublicValuesMismatch s.parts.num_public_values (length s.public_values)
    ∷ count_test WidthMismatch s.parts.width width
    ∷ (not (is_power_of_two height), HeightNotPowerOfTwo)
    ∷ []

module _ {M : Type 0} (two_adicity : ℕ) (params : FriParameters M) (log_chunks : ℕ) where
  -- there are rows enough to be folded, and few enough for the group, no period is longer than the
  -- trace, and the parameters are supported
  abbrev pub size_tests : {F : Type 0} → ℕ → List (List F) → List (Test StarkProverError)
  size_tests n columns =
      (is_too_small params n, HeightTooSmall)
      ∷ (is_too_large two_adicity params log_chunks n, HeightTooLarge)
      ∷ period_test PeriodTooLong n columns
      ∷ (is_unfit params, UnfitParameters)
      ∷ []

  abbrev pub trace_tests : {F : Type 0} → Statement F → ℕ → ℕ → List (Test StarkProverError)
  trace_tests s width height =
      shape_tests s width height ++ size_tests s.log_n s.parts.periodic_columns

-- the tests of a trace, in order
abbrev pub tests_of_trace : {F M : Type 0} → ℕ → FriParameters M → ℕ → StarkTrace F
    → List (Test StarkProverError)
tests_of_trace two_adicity params log_chunks t =
    trace_tests two_adicity params log_chunks (stated t) (width_of t.rows) (height_of t.rows)

-- First holds of the first refusal of a trace, where a test applies
abbrev pub IfRefused : {F M : Type 0} → ℕ → FriParameters M → StarkTrace F
    → (StarkProverError → Type 0) → Type 0
IfRefused two_adicity params t First =
    (k : ℕ) → IsLogOfChunks (degree_of_parts (stated t).parts) k →
    IfErr (answer (tests_of_trace two_adicity params k t) (tt {0})) First

-- where a test applies, the first refusal is returned, and the challenger stays as it was
abbrev pub IsFirstTraceRefusal : {A C F M : Type 0} → ℕ → FriParameters M → StarkTrace F
    → Result A StarkProverError → C → C → Type 0
IsFirstTraceRefusal two_adicity params t result old new =
    IfRefused two_adicity params t (λ e. (result ≡ Err e) × (new ≡ old))

-- `Unsatisfied` names the first row at which a constraint doesn't hold, and the first such
-- constraint there, and the challenger stays as it was
abbrev pub NamesViolation : {C F : Type 0} → FieldOps F → StarkTrace F → C → C → StarkProverError
    → Type 0
NamesViolation k t old new e =
    (v : Violation) → e ≡ Unsatisfied v.row v.constraint →
    IsFirstViolation k (stated t).parts (rows t.rows) (stated t).public_values v × (new ≡ old)

-- the refusal isn't `Unsatisfied`
abbrev pub IsNoViolation : StarkProverError → Type 0
IsNoViolation (Unsatisfied row constraint) = ⊥
IsNoViolation _ = Unit {0}

-- why a scheme may open nothing of what it committed to: memory, a point on a domain, or no witness
abbrev pub IsOpeningRefusal : ProverError → Type 0
IsOpeningRefusal e =
    (e ≡ OutOfMemory) ⊎ ((e ≡ OnDomain) ⊎ ((phase : PowPhase) × (e ≡ NoWitness phase)))

-- how a prover reports the scheme's refusal to open
abbrev pub IsReportedAs : ProverError → StarkProverError → Type 0
IsReportedAs OutOfMemory e = e ≡ Memory
IsReportedAs OnDomain e = e ≡ PointOnDomain
IsReportedAs (NoWitness phase) e = e ≡ NoGrindingWitness phase
IsReportedAs _ e = ⊥
