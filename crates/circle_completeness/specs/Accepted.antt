-- That what an opening returns is accepted: Circle STARKs (ePrint 2024/278), sections 4 to 6.
use Rattle.std.specs.Prelude.{◌≤◌, List, length, All}
use Rattle.std.specs.List.{AllZip}
use Rattle.circle_challenger.specs.Moves.{RunMoves}
use Rattle.circle_commit.specs.Pcs.{Openings}
use Rattle.circle_commit.specs.declared.matrix.RowMajorMatrix.{RowMajorMatrix}
use Rattle.circle_commit.specs.declared.params.FriParameters.{FriParameters}
use Rattle.circle_commit.specs.declared.pcs.OpeningRequest.{OpeningRequest}
use Rattle.circle_prover.specs.Opening.{IsOpening}
use Rattle.circle_codewords.specs.Requests.{AreAnswers}
use Rattle.circle_prover.specs.declared.openable.OpenableRequests.{OpenableRequests}
use Rattle.circle_relation.specs.Accepts.{AcceptsFrom, Authenticates, Fields}
use Rattle.circle_relation.specs.Statement.{BatchClaim, OpeningProof, all_matrices}
use Rattle.circle_completeness.specs.Claimed.{AreClaimed}
use Rattle.circle_completeness.specs.Honest.{AreReadAsIs}

module _ {C S F E M IC IP WC WP : Type 0} (k : Fields F E) (r : RunMoves C S F E WC)
    (p : FriParameters M) (authenticates : Authenticates IC F IP)
    (word_authenticates : Authenticates WC E WP) where
  -- whatever an opening returns for requested matrices whose rows are read as they are is accepted,
  -- from the state that it began in to that which it left: where what is claimed is what was
  -- returned, of each matrix at a point at least, under commitments of the matrices
  abbrev pub AcceptsOpenings : {D : Type 0} → (D → List (RowMajorMatrix F))
      → (List (RowMajorMatrix F) → IC → Type 0) → (List (RowMajorMatrix E) → WC → Type 0)
      → List (OpeningRequest D E) → Type 0
  AcceptsOpenings kept Commits WordCommits requests =
      AreReadAsIs kept k p requests
      → (values : Openings E) → AllZip (AreAnswers kept k p.log_blowup) requests values
      → (proof : OpeningProof F E WC IP WP) (old new : S)
      → IsOpening p kept requests values k r proof Commits authenticates WordCommits
      word_authenticates old new
      → (batches : List (BatchClaim IC E)) → AreClaimed k p kept Commits requests values batches
      → All (λ m. 1 ≤ length m.claims) (all_matrices batches)
      → AcceptsFrom k p r authenticates word_authenticates batches proof old new

-- the same of requests that can be opened
abbrev pub AcceptsOpeningsOf : {F E I W IC ID IP IE WC WD WP WE C S : Type 0}
    {over inputs ic ip ie words wc wp we : _}
    → OpenableRequests F E I W IC ID IP IE WC WD WP WE over inputs ic ip ie words wc wp we
    → RunMoves C S F E WC → Type 0
AcceptsOpeningsOf {over = over} {inputs = inputs} {words = words} o r =
    let p = o.params.now in
    AcceptsOpenings over.fields r p (inputs.authenticates o.mmcs.now) (words.authenticates p.mmcs)
    inputs.matrices (inputs.commits o.mmcs.now) (words.commits p.mmcs) o.requests.now
