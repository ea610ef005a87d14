-- Requests that are honest: the matrices are of low degree, and the returned values are theirs. And
-- matrices that codewords read as they are.
use Rattle.std.specs.Prelude.{◌≡◌, ◌≢◌, ◌⊎◌, ℕ, ◌+◌, ◌-◌, ◌^◌, ◌<◌, List, length, map, All}
use Rattle.std.specs.List.{AllZip}
use Rattle.circle_challenger.specs.Moves.{RunMoves}
use Rattle.circle_commit.specs.Pcs.{Openings}
use Rattle.circle_commit.specs.RowMajorMatrix.{rows, width_of, height_of}
use Rattle.circle_commit.specs.declared.matrix.RowMajorMatrix.{RowMajorMatrix}
use Rattle.circle_commit.specs.declared.params.FriParameters.{FriParameters}
use Rattle.circle_commit.specs.declared.pcs.OpeningRequest.{OpeningRequest}
use Rattle.circle_domain.specs.Spans.{XSpan}
use Rattle.circle_domain.specs.Values.{values_at}
use Rattle.circle_prover.specs.Opening.{IsFailure, answered_matrices}
use Rattle.circle_codewords.specs.Requests.{AreAnswers, log_of}
use Rattle.circle_prover.specs.declared.openable.OpenableRequests.{OpenableRequests}
use Rattle.circle_prover.specs.Words.{last_word}
use Rattle.circle_relation.specs.declared.error.ProverError.{ProverError}
use Rattle.circle_relation.specs.declared.error.ProverError.TheVariants.{LastWordNotConstant}
use Rattle.circle_relation.specs.Accepts.{Fields}
use Rattle.circle_codewords.specs.Lifts.{lift_width}
use Rattle.circle_codewords.specs.Ratios.{points_of_height}

-- the columns of a matrix of 2^h rows are, on the standard domain of 2^h points in the transform's
-- order, the values of polynomials with 2^(h - blowup) coefficients
pub record IsOfLowDegree {F E : Type 0} (k : Fields F E) (blowup : ℕ) (m : RowMajorMatrix F)
    : Type 0 where
  pub coeffs : List (List F)
  pub count : length coeffs ≡ 2 ^ (log_of (height_of m) - blowup)
  pub values :
      map (values_at k.field coeffs (width_of m))
      (points_of_height k.field k.gen (log_of (height_of m)))
      ≡ rows m

-- codewords read the rows that a matrix has: it has few columns, or is of low degree
abbrev pub IsReadAsIs : {F E : Type 0} → Fields F E → ℕ → RowMajorMatrix F → Type 0
IsReadAsIs k blowup m = (width_of m < lift_width) ⊎ IsOfLowDegree k blowup m

module _ {D F E M : Type 0} (kept : D → List (RowMajorMatrix F)) (k : Fields F E)
    (p : FriParameters M) (requests : List (OpeningRequest D E)) where
  -- all requested matrices are of low degree
  abbrev pub AreOfLowDegree : Type 0
  AreOfLowDegree = All (λ r. All (IsOfLowDegree k p.log_blowup) (kept r.prover_data.now)) requests

  -- codewords read the rows that each of them has
  abbrev pub AreReadAsIs : Type 0
  AreReadAsIs = All (λ r. All (IsReadAsIs k p.log_blowup) (kept r.prover_data.now)) requests

  -- where the requested matrices are of low degree and these values are returned, the codeword that
  -- the rounds end in is, whatever the challenges, the values of a final polynomial
  abbrev pub EndsLow : Type 0
  EndsLow =
      AreOfLowDegree
      → (values : Openings E) → AllZip (AreAnswers kept k p.log_blowup) requests values
      → (alpha bivariate : E) (betas : List E)
      → XSpan k.field k.gen k.extension k.embed p.log_final_poly_len
      (p.log_blowup + p.log_final_poly_len)
      (last_word k p.log_blowup (answered_matrices k p kept requests values) alpha
      p.log_final_poly_len bivariate betas)

  -- so no opening of them is refused for a last codeword of too high degree
  abbrev pub IsNeverTooHigh : {C S WC : Type 0} → RunMoves C S F E WC
      → (List (RowMajorMatrix E) → WC → Type 0) → Type 0
  IsNeverTooHigh r Commits =
      AreOfLowDegree → (s : _) (e : ProverError) → IsFailure k r p Commits kept requests s e
      → e ≢ LastWordNotConstant

-- the same of requests that can be opened
module _ {F E I W IC ID IP IE WC WD WP WE : Type 0} {over inputs ic ip ie words wc wp we : _}
    (o : OpenableRequests F E I W IC ID IP IE WC WD WP WE over inputs ic ip ie words wc wp we)
  where
    abbrev pub EndLow : Type 0
    EndLow = EndsLow inputs.matrices over.fields o.params.now o.requests.now

    abbrev pub AreNeverTooHigh : {C S : Type 0} → RunMoves C S F E WC → Type 0
    AreNeverTooHigh r =
        IsNeverTooHigh inputs.matrices over.fields o.params.now o.requests.now r
        (words.commits o.params.now.mmcs)
