-- Why there is no proof of a trace.
use Rattle.std.specs.Prelude.{◌≡◌, ◌⊎◌, ℕ, ◌^◌, List, [], ◌∷◌, map, replicate}
use Rattle.circle_air.specs.Satisfies.{IsFirstViolation, Satisfies}
use Rattle.circle_air.specs.declared.check.Violation.{Violation}
use Rattle.circle_challenger.specs.Moves.{RunMoves}
use Rattle.circle_commit.specs.Honest.{requested_points}
use Rattle.circle_commit.specs.RowMajorMatrix.{rows}
use Rattle.circle_commit.specs.declared.matrix.RowMajorMatrix.{RowMajorMatrix}
use Rattle.circle_commit.specs.declared.pcs.OpeningRequest.{OpeningRequest}
use Rattle.circle_domain.specs.Selectors.{next_from}
use Rattle.circle_field.specs.Field.{FieldOps}
use Rattle.circle_field.specs.declared.field.Operations.{Ghosts}
use Rattle.circle_point.specs.Projective.{to_line}
use Rattle.circle_quotient.specs.Fit.{IsFit}
use Rattle.circle_relation.specs.Accepts.{Fields}
use Rattle.circle_relation.specs.declared.error.ProverError.{ProverError}
use Rattle.circle_stark.specs.Draw.{AreDrawn, Described}
use Rattle.circle_stark.specs.Honest.{IsQuotientCommitted, IsTraceCommitted}
use Rattle.circle_stark.specs.Schemes.{Schemes, described}
use Rattle.circle_stark.specs.Statement.{Statement}
use Rattle.circle_stark.specs.Trace.{IsReportedAs}
use Rattle.circle_stark.specs.declared.error.StarkProverError.{StarkProverError}
use Rattle.circle_stark.specs.declared.error.StarkProverError.TheVariants.{Memory, UnfitPoint}
use Rattle.circle_stark.specs.declared.error.StarkProverError.TheVariants.{NoGrindingWitness}
use Rattle.circle_stark.specs.declared.error.StarkProverError.TheVariants.{PointOnDomain}
use Rattle.circle_stark.specs.declared.error.StarkProverError.TheVariants.{Unsatisfied}

-- the refusal names the first row at which a constraint of the statement doesn't hold, and the
-- first such constraint there, and the challenger stays as it was
pub record IsViolatedBy {C F : Type 0} (k : FieldOps F) (s : Statement F) (x : RowMajorMatrix F)
    (old new : C) (e : StarkProverError) : Type 0 where
  pub violation : Violation
  pub named : e ≡ Unsatisfied violation.row violation.constraint
  pub first : IsFirstViolation k s.parts (rows x) s.public_values violation
  pub same : new ≡ old

-- refuses says when the scheme refuses to open requests: from which state, in which state it ends,
-- and with which error; trace and quotient are what a committer keeps of both
module _ {S D F E : Type 0} (k : Fields F E)
    (refuses : List (OpeningRequest D E) → S → S → ProverError → Type 0) (n count : ℕ)
    (trace quotient : D) where
  -- the scheme refuses to open the trace at zeta and the next point, and each of count chunks at
  -- zeta
  pub record IsUnopened (zeta : E) (old new : S) (e : StarkProverError) : Type 0 where
    pub requests : List (OpeningRequest D E)
    pub kept : map (λ r. r.prover_data.now) requests ≡ trace ∷ quotient ∷ []
    pub points :
        map requested_points requests
        ≡ ((zeta ∷ to_line k.extension (next_from k.extension k.embed k.gen n zeta) ∷ []) ∷ [])
        ∷ replicate count (zeta ∷ []) ∷ []
    pub error : ProverError
    pub refused : refuses requests old new error
    pub reported : IsReportedAs error e

  -- why nothing is opened at the drawn point zeta
  abbrev pub IsUnopenedFor : E → S → S → StarkProverError → Type 0
  IsUnopenedFor zeta old new UnfitPoint =
      (¬ IsFit k.extension k.embed k.gen n zeta) × (new ≡ old)
  IsUnopenedFor zeta old new PointOnDomain = IsUnopened zeta old new PointOnDomain
  IsUnopenedFor zeta old new (NoGrindingWitness phase) =
      IsUnopened zeta old new (NoGrindingWitness phase)
  IsUnopenedFor zeta old new Memory = Unit {0}
  IsUnopenedFor zeta old new _ = ⊥

-- own is what the challenger is to a transcript of the batches' commitments, kept gives the
-- matrices of what a committer keeps, and x are rows of the statement s, which d describes, with a
-- quotient in 2^kk chunks
module _ {C S D F E Com : Type 0} (g : Ghosts F) (k : Fields F E) (own : RunMoves C S F E Com)
    (blowup : ℕ) (Commits : List (RowMajorMatrix F) → Com → Type 0)
    (kept : D → List (RowMajorMatrix F))
    (refuses : List (OpeningRequest D E) → S → S → ProverError → Type 0) (d : Described F)
    (s : Statement F) (kk : ℕ) (x : RowMajorMatrix F) where
  -- a run that commits to the rows, draws alpha, commits to the quotient under it, and draws zeta,
  -- where nothing is opened
  pub record IsUnopenedRun (old new : S) (e : StarkProverError) : Type 0 where
    pub trace : Com
    pub trace_data : D
    pub quotient : Com
    pub quotient_data : D
    pub alpha : E
    pub zeta : E
    pub between : S
    pub trace_committed :
        IsTraceCommitted g k.field k.gen blowup Commits s.log_n x trace (kept trace_data)
    pub quotient_committed :
        IsQuotientCommitted g k blowup Commits own.base.coefficients own.base.degree s kk
        (kept trace_data) alpha quotient (kept quotient_data)
    pub drawn : AreDrawn own d trace quotient old alpha zeta between
    pub unopened :
        IsUnopenedFor k refuses s.log_n (2 ^ kk) trace_data quotient_data zeta between new e

  -- why there is no proof of rows that satisfy the constraints: memory was refused, or nothing is
  -- opened
  abbrev pub IsUnprovedFor : S → S → StarkProverError → Type 0
  IsUnprovedFor old new e = (e ≡ Memory) ⊎ IsUnopenedRun old new e

  -- why there is no proof of a trace that passes the tests: memory was refused, a constraint isn't
  -- satisfied, or the rows satisfy all of them and nothing is opened
  abbrev pub IsTraceUnprovedFor : (C → S) → C → C → StarkProverError → Type 0
  IsTraceUnprovedFor state old new e =
      (e ≡ Memory) ⊎ (IsViolatedBy k.field s x old new e
      ⊎ (Satisfies k.field s.parts (rows x) s.public_values
      × IsUnopenedRun (state old) (state new) e))

-- over the scheme pcs, there is no proof of rows that satisfy the statement, or of a trace that
-- passes the tests
module _ {P C S F E : Type 0} (o : Schemes P C S F E) (pcs : P) where
  abbrev pub IsUnproved : Statement F → ℕ → RowMajorMatrix F → S → S → StarkProverError → Type 0
  IsUnproved s =
      IsUnprovedFor o.operations o.fields o.own (o.params pcs).log_blowup (o.Commits pcs) o.kept
      (o.RefusesToOpen pcs) (described o s) s

  abbrev pub IsTraceUnproved :
      Statement F → ℕ → RowMajorMatrix F → C → C → StarkProverError → Type 0
  IsTraceUnproved s kk x =
      IsTraceUnprovedFor o.operations o.fields o.own (o.params pcs).log_blowup (o.Commits pcs)
      o.kept (o.RefusesToOpen pcs) (described o s) s kk x o.own.base.state
