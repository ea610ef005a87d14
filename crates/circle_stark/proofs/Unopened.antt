-- Why nothing is opened, by why the scheme refuses to open.
use Rattle.std.specs.Prelude.{◌≡◌, ℕ, ◌^◌, List, [], ◌∷◌, map, replicate, IfErr, OnOk, Result, Ok}
use Rattle.std.specs.Prelude.{Err, MatchOption, MatchResult, None, Option, Some}
use Rattle.circle_air.specs.Parts.{Parts}
use Rattle.circle_air.specs.Satisfies.{IsFirstViolation, Satisfies}
use Rattle.circle_air.specs.declared.check.Violation.{Violation}
use Rattle.circle_field.specs.Field.{FieldOps}
use Rattle.circle_field.specs.declared.field.Operations.{Ghosts}
use Rattle.std.proofs.Common.{inl, inr, refl, subst, sym}
use Rattle.circle_challenger.specs.Moves.{RunMoves}
use Rattle.circle_commit.specs.Honest.{requested_points}
use Rattle.circle_commit.specs.RowMajorMatrix.{rows}
use Rattle.circle_commit.specs.declared.matrix.RowMajorMatrix.{RowMajorMatrix}
use Rattle.circle_commit.specs.declared.pcs.OpeningRequest.{OpeningRequest}
use Rattle.circle_domain.specs.Selectors.{next_from}
use Rattle.circle_point.specs.Projective.{to_line}
use Rattle.circle_relation.specs.Accepts.{Fields}
use Rattle.circle_relation.specs.declared.error.ProverError.{ProverError}
use Rattle.circle_relation.specs.declared.error.ProverError.TheVariants.{DomainSmallerThanTrace}
use Rattle.circle_relation.specs.declared.error.ProverError.TheVariants.{HeightTooLarge}
use Rattle.circle_relation.specs.declared.error.ProverError.TheVariants.{HeightTooSmall, NotGenuine}
use Rattle.circle_relation.specs.declared.error.ProverError.TheVariants.{LastWordNotConstant}
use Rattle.circle_relation.specs.declared.error.ProverError.TheVariants.{MatrixCountMismatch}
use Rattle.circle_relation.specs.declared.error.ProverError.TheVariants.{Memory as OutOfMemory}
use Rattle.circle_relation.specs.declared.error.ProverError.TheVariants.{NoCommittedMatrices}
use Rattle.circle_relation.specs.declared.error.ProverError.TheVariants.{NoGrindingWitness as NoWitness}
use Rattle.circle_relation.specs.declared.error.ProverError.TheVariants.{PointAtInfinity}
use Rattle.circle_relation.specs.declared.error.ProverError.TheVariants.{PointOnDomain as OnDomain}
use Rattle.circle_relation.specs.declared.error.ProverError.TheVariants.{UnfitParameters}
use Rattle.circle_relation.specs.TestsInOrder.{Test, answer}
use Rattle.circle_stark.specs.Draw.{Described}
use Rattle.circle_stark.specs.Statement.{Statement}
use Rattle.circle_stark.specs.Trace.{IsNoViolation, IsOpeningRefusal, IsReportedAs}
use Rattle.circle_stark.specs.Unproved.{IsTraceUnprovedFor, IsUnopened, IsUnopenedFor}
use Rattle.circle_stark.specs.Unproved.{IsUnprovedFor}
use Rattle.circle_stark.specs.declared.error.StarkProverError.{StarkProverError}
use Rattle.circle_stark.specs.declared.error.StarkProverError.TheVariants.{NoGrindingWitness}
use Rattle.circle_stark.specs.declared.error.StarkProverError.TheVariants.{PointOnDomain}
use Rattle.circle_stark.specs.declared.error.StarkProverError.TheVariants.{Unsatisfied}

-- only these refusals of the scheme are reported
opening-refusal : (error : ProverError) (e : StarkProverError) → IsReportedAs error e →
    IsOpeningRefusal error
opening-refusal OutOfMemory e reported = inl refl
opening-refusal OnDomain e reported = inr (inl refl)
opening-refusal (NoWitness phase) e reported = inr (inr (phase, refl))
opening-refusal UnfitParameters e reported = absurd reported
opening-refusal HeightTooLarge e reported = absurd reported
opening-refusal HeightTooSmall e reported = absurd reported
opening-refusal NotGenuine e reported = absurd reported
opening-refusal MatrixCountMismatch e reported = absurd reported
opening-refusal NoCommittedMatrices e reported = absurd reported
opening-refusal PointAtInfinity e reported = absurd reported
opening-refusal LastWordNotConstant e reported = absurd reported
opening-refusal DomainSmallerThanTrace e reported = absurd reported

module _ {S D F E : Type 0} (k : Fields F E)
    (refuses : List (OpeningRequest D E) → S → S → ProverError → Type 0) (n count : ℕ)
    (trace quotient : D) (zeta : E) (old new : S) (requests : List (OpeningRequest D E))
    (kept : map (λ r. r.prover_data.now) requests ≡ trace ∷ quotient ∷ [])
    (points : map requested_points requests
    ≡ ((zeta ∷ to_line k.extension (next_from k.extension k.embed k.gen n zeta) ∷ []) ∷ [])
    ∷ replicate count (zeta ∷ []) ∷ []) where
  -- the scheme's refusal, as it is reported
  pub unopened-for : (e : StarkProverError) (error : ProverError) → IsReportedAs error e →
      refuses requests old new error → IsUnopenedFor k refuses n count trace quotient zeta old new e
  unopened-for e error reported refused =
      let run : IsUnopened k refuses n count trace quotient zeta old new e = record {
        requests = requests;
        kept = kept;
        points = points;
        error = error;
        refused = refused;
        reported = reported;
      } in
      elim (opening-refusal error e reported) [
        | inl memory ↦
            subst (IsUnopenedFor k refuses n count trace quotient zeta old new)
            (sym (subst (λ f. IsReportedAs f e) memory reported)) tt
        | inr other ↦
            elim other [
              | inl domain ↦
                  let is : e ≡ PointOnDomain = subst (λ f. IsReportedAs f e) domain reported in
                  subst (IsUnopenedFor k refuses n count trace quotient zeta old new) (sym is)
                  (subst (IsUnopened k refuses n count trace quotient zeta old new) is run)
              | inr witness ↦
                  let is : e ≡ NoGrindingWitness witness.0 =
                  subst (λ f. IsReportedAs f e) witness.1 reported in
                  subst (IsUnopenedFor k refuses n count trace quotient zeta old new) (sym is)
                  (subst (IsUnopened k refuses n count trace quotient zeta old new) is run)
            ]
      ]

-- no refusal by a constraint
pub no-violation : (e : StarkProverError) (row constraint : ℕ) → IsNoViolation e →
    e ≡ Unsatisfied row constraint → ⊥
no-violation e row constraint none is = subst IsNoViolation is none

-- neither is why there is no proof of rows that satisfy the constraints
module _ {C S D F E Com : Type 0} (g : Ghosts F) (k : Fields F E) (own : RunMoves C S F E Com)
    (blowup : ℕ) (Commits : List (RowMajorMatrix F) → Com → Type 0)
    (kept : D → List (RowMajorMatrix F))
    (refuses : List (OpeningRequest D E) → S → S → ProverError → Type 0) (d : Described F)
    (s : Statement F) (kk : ℕ) (x : RowMajorMatrix F) where
  pub unopened-violation : (old new : S) (e : StarkProverError) (row constraint : ℕ) →
      IsUnprovedFor g k own blowup Commits kept refuses d s kk x old new e →
      e ≡ Unsatisfied row constraint → ⊥
  unopened-violation old new e row constraint why is =
      elim why [
        | inl memory ↦ subst IsNoViolation is (subst IsNoViolation (sym memory) (tt {0}))
        | inr run ↦
            subst (IsUnopenedFor k refuses s.log_n (2 ^ kk) run.trace_data run.quotient_data
            run.zeta run.between new) is run.unopened
      ]

  -- why there is no proof of rows that satisfy the constraints, as is said of a trace
  pub of-satisfied : (state : C → S) (old new : C) (e : StarkProverError) →
      Satisfies k.field s.parts (rows x) s.public_values →
      IsUnprovedFor g k own blowup Commits kept refuses d s kk x (state old) (state new) e →
      IsTraceUnprovedFor g k own blowup Commits kept refuses d s kk x state old new e
  of-satisfied state old new e satisfied why =
      elim why [ inl memory ↦ inl memory | inr run ↦ inr (inr (satisfied, run)) ]

-- what comes after tests that pass, and what is said of the first that refuses
module _ {Error : Type 0} (tests : List (Test Error)) (P : Type 0) (First : Error → Type 0) where
  pub after-tests : answer tests (tt {0}) ≡ Ok (tt {0}) → P →
      MatchResult (answer {A = Unit {0}} tests (tt {0})) (λ passed. P) First
  after-tests passed holds =
      subst (λ a. MatchResult a (λ (u : Unit {0}). P) First) (sym passed) holds

  pub at-first : (e : Error) → answer tests (tt {0}) ≡ Err e → First e →
      MatchResult (answer {A = Unit {0}} tests (tt {0})) (λ passed. P) First
  at-first e refused holds =
      subst (λ a. MatchResult a (λ (u : Unit {0}). P) First) (sym refused) holds

-- what a check found is the first
pub found-violation : {F : Type 0} (k : FieldOps F) (p : Parts F) (rows : List (List F))
    (public : List F) (o : Option Violation) (v : Violation) → o ≡ Some v →
    MatchOption o (Satisfies k p rows public) (IsFirstViolation k p rows public) →
    IsFirstViolation k p rows public v
found-violation k p rows public o v is found =
    subst (λ a. MatchOption a (Satisfies k p rows public) (IsFirstViolation k p rows public)) is
    found

-- and where it found none the rows satisfy the AIR
pub none-found : {F : Type 0} (k : FieldOps F) (p : Parts F) (rows : List (List F))
    (public : List F) (o : Option Violation) → o ≡ None →
    MatchOption o (Satisfies k p rows public) (IsFirstViolation k p rows public) →
    Satisfies k p rows public
none-found k p rows public o is found =
    subst (λ a. MatchOption a (Satisfies k p rows public) (IsFirstViolation k p rows public)) is
    found

-- what the refusal names is what was found
pub named-violation : {F : Type 0} (k : FieldOps F) (p : Parts F) (rows : List (List F))
    (public : List F) (v w : Violation) → IsFirstViolation k p rows public v →
    Unsatisfied v.row v.constraint ≡ Unsatisfied w.row w.constraint →
    IsFirstViolation k p rows public w
named-violation k p rows public v w first is =
    let at : ℕ → ℕ → Violation = λ row constraint. record { row = row; constraint = constraint } in
    let same_row : v.row ≡ w.row = cc in
    let same_constraint : v.constraint ≡ w.constraint = cc in
    subst (λ i. IsFirstViolation k p rows public (at i w.constraint)) same_row
    (subst (λ j. IsFirstViolation k p rows public (at v.row j)) same_constraint first)

-- what holds in any case holds of an Ok
pub on-ok : {A Err P : Type 0} (r : Result A Err) → P → OnOk r P
on-ok (Ok v) is = is
on-ok (Err e) is = tt

-- what is said of a refusal holds where there is none
pub none-first : {A Err : Type 0} (r : Result A Err) (v : A) (P : Err → Type 0) → r ≡ Ok v →
    IfErr r P
none-first r v P is = subst (λ a. IfErr a P) (sym is) tt
