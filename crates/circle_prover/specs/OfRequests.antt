-- Requests that can be opened, as clauses see them. The dictionaries of their fields and of their
-- schemes are arguments of their type: the definitions of this page read them off the requests.
use Rattle.std.specs.Prelude.{◌≡◌, ℕ, ◌⊎◌, ◌<◌, ◌++◌, List, map, flat_map, zip, All, Result, Ok}
use Rattle.std.specs.Prelude.{Err, MatchResult, Vec}
use Rattle.std.specs.List.{AllZip}
use Rattle.std.specs.declared.alloc.Global.{Global}
use Rattle.circle_challenger.specs.Moves.{RunMoves}
use Rattle.circle_codewords.specs.Points.{coordinates_of}
use Rattle.circle_codewords.specs.Requests.{AreAllRequested, AreAnswered, AreValuesOf, IsOpenable}
use Rattle.circle_codewords.specs.Requests.{committed, points_of}
use Rattle.circle_codewords.specs.Words.{Committed, committed_of}
use Rattle.circle_codewords.specs.declared.matrix.MatrixAtPoints.{MatrixAtPoints}
use Rattle.circle_codewords.specs.declared.matrix.OpenedMatrix.{OpenedMatrix}
use Rattle.circle_codewords.specs.declared.points.OpeningPoint.{OpeningPoint}
use Rattle.circle_commit.specs.DotProduct.{pairwise}
use Rattle.circle_commit.specs.Pcs.{Openings, openings}
use Rattle.circle_commit.specs.declared.matrix.RowMajorMatrix.{RowMajorMatrix}
use Rattle.circle_commit.specs.declared.params.FriParameters.{FriParameters}
use Rattle.circle_commit.specs.declared.pcs.OpeningRequest.{OpeningRequest}
use Rattle.circle_relation.specs.Accepts.{Fields}
use Rattle.circle_relation.specs.RunOf.{proof_of}
use Rattle.circle_relation.specs.Statement.{BatchClaim}
use Rattle.circle_relation.specs.Taken.{claims_taken, shape_by}
use Rattle.circle_relation.specs.TestsInOrder.{answer}
use Rattle.circle_relation.specs.declared.error.ProverError.{ProverError}
use Rattle.circle_relation.specs.declared.error.ProverError.TheVariants.{Memory}
use Rattle.circle_relation.specs.declared.proof.CirclePcsProof.{CirclePcsProof}
use Rattle.circle_transcript.specs.Draw.{draw}
use Rattle.circle_transcript.specs.Runs.{drawn_leaving}
use Rattle.circle_prover.specs.Failure.{IsTooHigh}
use Rattle.circle_prover.specs.Opening.{IsFailure, IsOpening, IsStuckOn, answered_claims}
use Rattle.circle_prover.specs.Opening.{HoldsBatches, HoldsMade, answered_matrices}
use Rattle.circle_prover.specs.Requesting.{request_tests}
use Rattle.circle_prover.specs.Words.{AreMade, AreSomeWords, taken_in}
use Rattle.circle_prover.specs.declared.openable.OpenableRequests.{OpenableRequests}
use Rattle.circle_prover.specs.declared.run.CommittedWords.{CommittedWords}

-- the requests pass all tests, or the first that has reason to refuse them is the error
abbrev pub AreTested : {F E I W IC ID IP IE WC WD WP WE : Type 0}
    {over inputs ic ip ie words wc wp we : _}
    → Result (OpenableRequests F E I W IC ID IP IE WC WD WP WE over inputs ic ip ie words wc wp we)
    ProverError → FriParameters W → List (OpeningRequest ID E) → Type 0
AreTested {over = over} {inputs = inputs} result p requests =
    let tested = answer (request_tests over.fields inputs.matrices p requests) (tt {0}) in
    MatchResult result (λ o. tested ≡ Ok (tt {0})) (λ e. tested ≡ Err e)

-- these are the parts of the requests
abbrev pub IsRequestOf : {F E I W IC ID IP IE WC WD WP WE : Type 0}
    {over inputs ic ip ie words wc wp we : _} → I → FriParameters W → List (OpeningRequest ID E)
    → OpenableRequests F E I W IC ID IP IE WC WD WP WE over inputs ic ip ie words wc wp we → Type 0
IsRequestOf mmcs p requests o =
    (o.mmcs.now ≡ mmcs) × (o.params.now ≡ p) × (o.requests.now ≡ requests)

-- a list begins with another; what is left of it without that
abbrev pub BeginsWith : {A : Type 0} → List A → List A → Type 0
BeginsWith {A = A} first all = (tail : List A) × (all ≡ first ++ tail)

abbrev pub Leaves : {A : Type 0} → List A → List A → List A → Type 0
Leaves {A = A} first all rest = (tail : List A) → all ≡ first ++ tail → rest ≡ tail

-- a matrix with the coordinates of its points, as it is asked for
abbrev pub asked_of : {F E : Type 0} {over g : _} → MatrixAtPoints F E over g
    → RowMajorMatrix F × List E
asked_of m = (m.rows.now, coordinates_of m.points.now)

-- these are the values of matrices at their points
abbrev pub AreValuesOfEach : {F E : Type 0} {over g : _} → ℕ → List (MatrixAtPoints F E over g)
    → List (List (List E)) → Type 0
AreValuesOfEach {over = over} blowup matrices values =
    AllZip (λ a v. AreValuesOf over.fields blowup a.0 a.1 v) (map asked_of matrices) values

-- the matrices of a request with these; kept of what a committer keeps are the matrices
abbrev pub asked_in : {D F E : Type 0} → (D → List (RowMajorMatrix F)) → OpeningRequest D E
    → List (RowMajorMatrix F × List E)
asked_in kept r = zip (kept r.prover_data.now) (points_of kept r)

-- to a list of matrices with points those of a batch were added
abbrev pub AddsAsked : {F E : Type 0} {over g : _} → List (RowMajorMatrix F) → List (List E)
    → List (MatrixAtPoints F E over g) → List (MatrixAtPoints F E over g) → Type 0
AddsAsked matrices points old new = map asked_of new ≡ map asked_of old ++ zip matrices points

-- I and W are the schemes of the batches and of the codewords, each with its commitments, data,
-- proofs and errors; what is known of the fields is in `over`, what is of the schemes in `inputs`
-- and `words`
module _ {F E I W IC ID IP IE WC WD WP WE : Type 0} {over inputs ic ip ie words wc wp we : _}
    (o : OpenableRequests F E I W IC ID IP IE WC WD WP WE over inputs ic ip ie words wc wp we)
  where
    abbrev pub fields_of : Fields F E
    fields_of = over.fields

    -- matrices of a batch can be opened at these points, of which there is a list for each
    abbrev pub AreOpenableAt : List (RowMajorMatrix F) → List (List E) → Type 0
    AreOpenableAt =
        AllZip (IsOpenable over.fields over.fields.two_adicity o.params.now.log_blowup)

    -- these are the values of matrices at points
    abbrev pub AreValued : List (RowMajorMatrix F × List E) → List (List (List E)) → Type 0
    AreValued = AllZip (λ a v. AreValuesOf over.fields o.params.now.log_blowup a.0 a.1 v)

    module _ {g : _} where
      -- these are the points of all requests; these matrices leave something without the blowup;
      -- these are the matrices of all requests with their points
      abbrev pub ArePointsOf : List (OpeningPoint E g) → Type 0
      ArePointsOf points =
          coordinates_of points
          ≡ flat_map (λ r. flat_map (λ v. v.items) r.points.items) o.requests.now

      abbrev pub AreHigh : List (MatrixAtPoints F E over g) → Type 0
      AreHigh matrices = All (λ m. o.params.now.log_blowup < m.log_height) matrices

      abbrev pub AreMatricesAt : List (MatrixAtPoints F E over g) → Type 0
      AreMatricesAt matrices =
          (map asked_of matrices ≡ flat_map (asked_in inputs.matrices) o.requests.now)
          × AreHigh matrices

      -- to a list of matrices that are opened these were added with their values
      abbrev pub AddsOpened : List (RowMajorMatrix F × List E) → List (List (List E))
          → List (OpenedMatrix F E over g) → List (OpenedMatrix F E over g) → Type 0
      AddsOpened asked values old new =
          let read = committed_of over.fields o.params.now.log_blowup in
          map read new ≡ map read old
          ++ pairwise (λ a v. committed over.fields o.params.now.log_blowup a.0 a.1 v) asked values

    module _ (values : Openings E) where
      -- these are the values that the requests are for
      abbrev pub AreAnsweredBy : Type 0
      AreAnsweredBy = AreAnswered over.fields inputs.matrices o.params.now o.requests.now values

      -- the matrices with them, as codewords read them; these are they
      abbrev pub seen_with : List (Committed F E)
      seen_with =
          answered_matrices over.fields o.params.now inputs.matrices o.requests.now values

      abbrev pub AreMatricesWith : {g : _} → List (OpenedMatrix F E over g) → Type 0
      AreMatricesWith =
          AreAllRequested inputs.matrices over.fields o.params.now.log_blowup o.requests.now
          values

      -- the claims on them, but for the commitments
      abbrev pub claims_with : List (BatchClaim (Unit {0}) E)
      claims_with =
          answered_claims over.fields o.params.now inputs.matrices o.requests.now values

      -- what was made are the codewords of the matrices
      abbrev pub AreWordsWith : CommittedWords F E WC WD → Type 0
      AreWordsWith = AreMade over.fields words.commits words.matrices o.params.now seen_with

      -- they were made in the run over the claims, from the one challenger, which leaves the
      -- other; why the run isn't played to its end
      module _ {C S : Type 0} (r : RunMoves C S F E WC) where
        abbrev pub IsPlayed : C → CommittedWords F E WC WD → C → Type 0
        IsPlayed old made new =
            draw r (shape_by o.params.now claims_with)
            (taken_in (claims_taken over.fields.extension claims_with) made)
            (r.base.state old) ≡ Ok (drawn_leaving r made.draws new)

        abbrev pub IsNotPlayed : C → ProverError → Type 0
        IsNotPlayed old e =
            let p = o.params.now in
            (e ≡ Memory) ⊎ IsTooHigh over.fields p.log_blowup p.log_final_poly_len seen_with e
            ⊎ IsStuckOn over.fields r p (words.commits p.mmcs) inputs.matrices o.requests.now
            values (r.base.state old) e

        abbrev pub IsOutcome : C → Result (CommittedWords F E WC WD) ProverError → C → Type 0
        IsOutcome old result new =
            MatchResult result (λ made. IsPlayed old made new) (IsNotPlayed old)

    -- what was made are the codewords of some matrices that leave something to fold
    abbrev pub AreSomeWordsOf : CommittedWords F E WC WD → Type 0
    AreSomeWordsOf = AreSomeWords over.fields words.commits words.matrices o.params.now

    -- the proof holds what is opened of them, and of the batches, at the queries
    abbrev pub HoldsWordsOf : CommittedWords F E WC WD
        → CirclePcsProof F E I W F IC ID IP IE WC WD WP WE → Type 0
    HoldsWordsOf =
        HoldsMade over.fields words.commits words.matrices words.authenticates o.params.now

    abbrev pub HoldsInputsAt : CommittedWords F E WC WD
        → CirclePcsProof F E I W F IC ID IP IE WC WD WP WE → Type 0
    HoldsInputsAt made =
        HoldsBatches inputs.matrices inputs.commits inputs.authenticates o.mmcs.now made
        o.requests.now

    module _ {C S : Type 0} (r : RunMoves C S F E WC) where
      -- values and a proof are an opening from the one challenger, which leaves the other
      abbrev pub IsOpeningBy : C → Vec (Vec (Vec (Vec E Global) Global) Global) Global
          × CirclePcsProof F E I W F IC ID IP IE WC WD WP WE → C → Type 0
      IsOpeningBy old made new =
          let p = o.params.now in
          IsOpening p inputs.matrices o.requests.now (openings made.0.items) over.fields r
          (proof_of made.1) (inputs.commits o.mmcs.now) (inputs.authenticates o.mmcs.now)
          (words.commits p.mmcs) (words.authenticates p.mmcs) (r.base.state old)
          (r.base.state new)

      -- why there is none
      abbrev pub IsFailureFrom : C → ProverError → Type 0
      IsFailureFrom old e =
          let p = o.params.now in
          IsFailure over.fields r p (words.commits p.mmcs) inputs.matrices o.requests.now
          (r.base.state old) e
