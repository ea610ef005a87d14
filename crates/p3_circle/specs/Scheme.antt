-- What the scheme's calls require and return, as relations of lists and states that a caller over
-- any scheme cites.
use Rattle.std.specs.Prelude.{◌≡◌, ℕ, ◌^◌, ◌<◌, ◌≤◌, Bool, true, false, List, length, All}
use Rattle.std.specs.Prelude.{MatchResult}
use Rattle.std.specs.List.{AllZip}
use Rattle.circle_challenger.specs.Moves.{RunMoves}
use Rattle.circle_commit.specs.Matrix.{IsPowerOfTwo}
use Rattle.circle_commit.specs.Mmcs.{HaveHeightsOfPowers}
use Rattle.circle_commit.specs.Pcs.{Openings}
use Rattle.circle_commit.specs.declared.error.FriError.{FriError}
use Rattle.circle_commit.specs.declared.error.FriError.TheVariants.{Memory as OutOfMemory}
use Rattle.circle_commit.specs.declared.matrix.RowMajorMatrix.{RowMajorMatrix}
use Rattle.circle_commit.specs.declared.params.FriParameters.{FriParameters}
use Rattle.circle_commit.specs.declared.pcs.OpeningRequest.{OpeningRequest}
use Rattle.circle_domain.specs.Domain.{log_size, IsStandardDomain}
use Rattle.circle_domain.specs.declared.domain.CircleDomain.{CircleDomain}
use Rattle.circle_field.specs.Circle.{Coordinates}
use Rattle.circle_field.specs.Field.{FieldOps}
use Rattle.circle_prover.specs.Opening.{IsOpening}
use Rattle.circle_codewords.specs.Requests.{AreAnswers, AreFit, AreRequests}
use Rattle.circle_relation.specs.declared.error.ProverError.{ProverError}
use Rattle.circle_relation.specs.declared.error.ProverError.TheVariants.{Memory}
use Rattle.circle_relation.specs.Accepts.{Authenticates, Fields}
use Rattle.circle_relation.specs.RunOf.{proof_of}
use Rattle.circle_relation.specs.declared.proof.CirclePcsProof.{CirclePcsProof}
use Rattle.p3_circle.specs.Committing.{AreExtensions, height_at}
use Rattle.circle_relation.specs.TestsInOrder.{Test, answer}

-- whether a verifier says that memory was refused
abbrev pub says_memory : {WE I : Type 0} → FriError WE I → Bool
says_memory OutOfMemory = true
says_memory _ = false

-- whether a committer does
abbrev pub says_prover_memory : ProverError → Bool
says_prover_memory Memory = true
says_prover_memory _ = false

-- the first refusal that there is reason for, and where there is reason for none this holds of it
abbrev pub IsFirst : {E : Type 0} → List (Test E) → (E → Type 0) → E → Type 0
IsFirst tests Otherwise e =
    MatchResult (answer tests (tt {0})) (λ passed. Otherwise e) (λ first. e ≡ first)

-- so with the states before and after: the first refusal leaves the state as it was
abbrev pub IsFirstFrom : {S E : Type 0} → List (Test E) → (E → Type 0) → S → S → E → Type 0
IsFirstFrom tests Otherwise old new e =
    MatchResult (answer tests (tt {0})) (λ passed. Otherwise e) (λ first. (e ≡ first) × (new ≡ old))

-- the first refusal that there is reason for, and otherwise that of memory
abbrev pub IsFirstOf : List (Test ProverError) → ProverError → Type 0
IsFirstOf tests = IsFirst tests (λ e. e ≡ Memory)

-- the domain that a polynomial of `degree` coefficients is given on
pub record CanBeDegree (two_adicity degree : ℕ) : Type 0 where
  pub power : IsPowerOfTwo degree
  pub from_two : 2 ≤ degree
  pub in_group : degree < 2 ^ two_adicity

module _ {F : Type 0} {g : _} (two_adicity : ℕ) where
  -- the standard domain of `size` points
  pub record IsStandardOfSize (gen : ℕ → Coordinates F) (size : ℕ) (d : CircleDomain F g)
      : Type 0 where
    pub points : 2 ^ log_size d ≡ size
    pub standard : IsStandardDomain two_adicity gen d

  -- the committed matrix at an index can be evaluated on a domain
  pub record CanBeEvaluated (matrices : List (RowMajorMatrix F)) (idx : ℕ) (d : CircleDomain F g)
      : Type 0 where
    pub in_range : idx < length matrices
    pub power : IsPowerOfTwo (height_at matrices idx)
    pub positive : 1 ≤ log_size d
    pub in_group : log_size d ≤ two_adicity

  -- a trace's domain, and an extension of it
  pub record AreExtended (trace lde : CircleDomain F g) : Type 0 where
    pub larger : log_size trace ≤ log_size lde
    pub in_group : log_size trace < two_adicity

-- a batch has this commitment, and these are the matrices that it commits to: the values of its
-- polynomials on larger domains
pub record IsCommitted {F Com : Type 0} {g : _} (k : FieldOps F) (gen : ℕ → Coordinates F)
    (blowup : ℕ) (Commits : List (RowMajorMatrix F) → Com → Type 0)
    (batch : List (CircleDomain F g × RowMajorMatrix F)) (commitment : Com)
    (matrices : List (RowMajorMatrix F)) : Type 0 where
  pub extended : AreExtensions k gen blowup batch matrices
  pub committed : Commits matrices commitment

-- matrices have this commitment, and are what is kept
pub record AreCommittedTo {F Com : Type 0} (Commits : List (RowMajorMatrix F) → Com → Type 0)
    (ldes : List (RowMajorMatrix F)) (commitment : Com) (matrices : List (RowMajorMatrix F))
    : Type 0 where
  pub same : matrices ≡ ldes
  pub committed : Commits ldes commitment

-- the matrices of the data that requests name have heights that are powers of two
abbrev pub HaveCommittedHeights : {D E F : Type 0} → (D → List (RowMajorMatrix F))
    → List (OpeningRequest D E) → Type 0
HaveCommittedHeights kept requests =
    All (λ r. HaveHeightsOfPowers (kept r.prover_data.now)) requests

-- I and W are the schemes of the batches and of the codewords, each with its commitments, data,
-- proofs and errors; r is what the challenger is to the transcript
module _ {C S D F E I W IC ID IP IE WC WD WP WE : Type 0} (p : FriParameters W)
    (kept : D → List (RowMajorMatrix F)) (k : Fields F E) (r : RunMoves C S F E WC)
    (Commits : List (RowMajorMatrix F) → IC → Type 0) (authenticates : Authenticates IC F IP)
    (WordCommits : List (RowMajorMatrix E) → WC → Type 0)
    (word_authenticates : Authenticates WC E WP) where
  -- the parameters and the requests are supported, and from the one state of the challenger the
  -- requests have these values and this proof, which leaves the other
  pub record IsGiven (two_adicity : ℕ) (requests : List (OpeningRequest D E)) (old : S)
      (values : Openings E) (proof : CirclePcsProof F E I W F IC ID IP IE WC WD WP WE) (new : S)
      : Type 0 where
    pub parameters : AreFit p
    pub arity : p.max_log_arity ≡ 1
    pub asked : AreRequests kept k two_adicity p requests
    pub answers : AllZip (AreAnswers kept k p.log_blowup) requests values
    pub opening :
        IsOpening p kept requests values k r (proof_of proof) Commits authenticates WordCommits
        word_authenticates old new
