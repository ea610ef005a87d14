-- Claims that a verifier is given on what an opening returns.
use Rattle.std.specs.Prelude.{◌≡◌, List, [], ◌∷◌, map}
use Rattle.circle_commit.specs.Pcs.{Openings}
use Rattle.circle_commit.specs.declared.matrix.RowMajorMatrix.{RowMajorMatrix}
use Rattle.circle_commit.specs.declared.params.FriParameters.{FriParameters}
use Rattle.circle_commit.specs.declared.pcs.OpeningRequest.{OpeningRequest}
use Rattle.circle_codewords.specs.Requests.{batch_committed, claimed, points_of}
use Rattle.circle_relation.specs.Accepts.{Fields}
use Rattle.circle_relation.specs.Statement.{BatchClaim}

module _ {D F E M IC : Type 0} (k : Fields F E) (p : FriParameters M)
    (kept : D → List (RowMajorMatrix F)) (Commits : List (RowMajorMatrix F) → IC → Type 0) where
  -- the claims on one batch: under a commitment of the request's matrices, what is returned for
  -- them
  pub record IsClaimed (request : OpeningRequest D E) (values : List (List (List E)))
      (batch : BatchClaim IC E) : Type 0 where
    pub committed : Commits (kept request.prover_data.now) batch.commitment
    pub matrices :
        batch.matrices
        ≡ map (claimed p.log_blowup)
        (batch_committed k p.log_blowup (kept request.prover_data.now) (points_of kept request)
        values)

  -- the claims on all batches, request by request
  abbrev pub AreClaimed : List (OpeningRequest D E) → Openings E → List (BatchClaim IC E) → Type 0
  AreClaimed [] [] [] = Unit {0}
  AreClaimed (r ∷ rs) (v ∷ vs) (b ∷ bs) = IsClaimed r v b × AreClaimed rs vs bs
  AreClaimed _ _ _ = ⊥
