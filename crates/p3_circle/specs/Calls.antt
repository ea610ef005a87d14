-- What contracts see of the scheme's calls.
use Rattle.std.specs.Prelude.{◌≡◌, ℕ, Bool, IsTrue, List, map, flat_map, Vec}
use Rattle.std.specs.declared.alloc.Global.{Global}
use Rattle.circle_commit.specs.Honest.{AreTrueValues}
use Rattle.circle_commit.specs.Pcs.{Openings, openings}
use Rattle.circle_commit.specs.RowMajorMatrix.{rows}
use Rattle.circle_completeness.specs.Honest.{AreOfLowDegree, AreReadAsIs}
use Rattle.circle_commit.specs.declared.matrix.RowMajorMatrix.{RowMajorMatrix}
use Rattle.circle_commit.specs.declared.mmcs.Mmcs.{Ghosts as MmcsOf}
use Rattle.circle_commit.specs.declared.params.FriParameters.{FriParameters}
use Rattle.circle_commit.specs.declared.pcs.OpeningRequest.{OpeningRequest}
use Rattle.circle_domain.specs.declared.domain.CircleDomain.{CircleDomain}
use Rattle.circle_field.specs.Circle.{Coordinates}
use Rattle.circle_field.specs.Field.{FieldOps}
use Rattle.circle_field.specs.declared.field.Operations.{Ghosts}
use Rattle.circle_relation.specs.declared.error.ProverError.{ProverError}
use Rattle.circle_relation.specs.declared.error.ProverError.TheVariants.{LastWordNotConstant}
use Rattle.circle_relation.specs.TestsInOrder.{Test}
use Rattle.circle_prover.specs.Requesting.{request_tests}
use Rattle.circle_relation.specs.Accepts.{Fields}
use Rattle.circle_prover.specs.Opening.{answered_matrices}
use Rattle.p3_circle.specs.Honest.{AreBatchValues}
use Rattle.p3_circle.specs.Scheme.{IsCommitted}
use Rattle.p3_circle.specs.declared.pcs.CirclePcs.{CirclePcs}

-- the tests of requests to a scheme
abbrev pub scheme_tests : {F E I W D : Type 0} → Fields F E → (D → List (RowMajorMatrix F))
    → CirclePcs F I W → List (OpeningRequest D E) → List (Test ProverError)
scheme_tests k kept pcs requests = request_tests k kept pcs.fri_params requests

-- a refusal is of memory where something is accepted that leaves some state
abbrev pub IsOfMemoryIf : {S Err : Type 0} → (Err → Bool) → (S → Type 0) → Err → Type 0
IsOfMemoryIf {S = S} is_memory Accepts e = (left : S) → Accepts left → IsTrue (is_memory e)

-- a result, values and a proof, is returned from the one state, which leaves the other
abbrev pub IsAnswer : {S E P : Type 0} → (S → Openings E → P → S → Type 0) → S → S
    → Vec (Vec (Vec (Vec E Global) Global) Global) Global × P → Type 0
IsAnswer Gives old new answer = Gives old (openings answer.0.items) answer.1 new

-- fields with this base field and these generators of its circle's group, whatever the extension
abbrev pub IsOver : {F E : Type 0} → FieldOps F → (ℕ → Coordinates F) → Fields F E → Type 0
IsOver f gen k = (k.field ≡ f) × (k.gen ≡ gen)

-- a refusal names a last codeword that isn't constant only where some requested matrix is not of
-- low degree
abbrev pub IsOfHighDegreeIf : {D F E M : Type 0} → FieldOps F → (ℕ → Coordinates F)
    → (D → List (RowMajorMatrix F)) → FriParameters M → List (OpeningRequest D E) → ProverError
    → Type 0
IsOfHighDegreeIf {F = F} {E = E} f gen kept p requests e =
    e ≡ LastWordNotConstant → (k : Fields F E) → IsOver f gen k
    → ¬ AreOfLowDegree kept k p requests

-- the rows that were committed to, of the requested matrices one after another
abbrev pub requested_rows : {D E F : Type 0} → (D → List (RowMajorMatrix F))
    → List (OpeningRequest D E) → List (List (List F))
requested_rows kept requests = map rows (flat_map (λ r. kept r.prover_data.now) requests)

-- where each requested matrix is of low degree, or has few columns, the codewords of an opening
-- with these values are made of the rows that were committed to
abbrev pub ReadsOwnRowsIf : {D F E M : Type 0} → FieldOps F → (ℕ → Coordinates F)
    → (D → List (RowMajorMatrix F)) → FriParameters M → List (OpeningRequest D E) → Openings E
    → Type 0
ReadsOwnRowsIf {F = F} {E = E} f gen kept p requests values =
    (k : Fields F E) → IsOver f gen k → AreReadAsIs kept k p requests
    → map (λ m. m.rows) (answered_matrices k p kept requests values) ≡ requested_rows kept requests

-- inputs is the scheme of the batches
module _ {F I W IC ID IP IE : Type 0} where
  -- the batch has this commitment, and these data are kept of it
  abbrev pub IsCommittedUnder : {g : Ghosts F} → (ℕ → Coordinates F) → MmcsOf I F IC ID IP IE
      → CirclePcs F I W → List (CircleDomain F g × RowMajorMatrix F) → IC → ID → Type 0
  IsCommittedUnder {g = g} gen inputs pcs batch commitment kept =
      IsCommitted g.ops gen pcs.fri_params.log_blowup (inputs.commits pcs.mmcs) batch commitment
      (inputs.matrices kept)

  -- the values are those of the polynomials of the batches that the requested data were kept of
  abbrev pub AreTrueAnswers : {E : Type 0} → Ghosts F → (ℕ → Coordinates F) → FieldOps E → (F → E)
      → MmcsOf I F IC ID IP IE → CirclePcs F I W → List (OpeningRequest ID E) → Openings E → Type 0
  AreTrueAnswers g gen l embed inputs pcs =
      AreTrueValues (IsCommittedUnder {g = g} gen inputs pcs) (AreBatchValues g.ops gen l embed)
