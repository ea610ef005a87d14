-- What an opening returns: Circle STARKs (ePrint 2024/278), sections 4 and 6.
use Rattle.std.specs.Prelude.{◌≡◌, ℕ, ◌+◌, ◌-◌, ◌⊎◌, List, [], ◌∷◌, length, map, flat_map, All}
use Rattle.std.specs.Prelude.{Some, slice_get, Ok}
use Rattle.std.specs.List.{AllZip}
use Rattle.circle_challenger.specs.Moves.{RunMoves}
use Rattle.circle_commit.specs.Pcs.{Openings}
use Rattle.circle_commit.specs.declared.matrix.RowMajorMatrix.{RowMajorMatrix}
use Rattle.circle_commit.specs.declared.params.FriParameters.{FriParameters}
use Rattle.circle_commit.specs.declared.pcs.OpeningRequest.{OpeningRequest}
use Rattle.circle_field.specs.Field.{FieldOps}
use Rattle.circle_domain.specs.Spans.{HasXValues}
use Rattle.circle_relation.specs.Accepts.{Authenticates, Fields}
use Rattle.circle_relation.specs.RunOf.{proof_of}
use Rattle.circle_relation.specs.Statement.{BatchClaim, Challenges, Opened, OpeningProof}
use Rattle.circle_relation.specs.declared.proof.CirclePcsProof.{CirclePcsProof}
use Rattle.circle_prover.specs.Failure.{IsStuckFrom, IsTooHigh}
use Rattle.circle_relation.specs.declared.error.ProverError.{ProverError}
use Rattle.circle_relation.specs.declared.error.ProverError.TheVariants.{Memory}
use Rattle.circle_transcript.specs.Draw.{draw}
use Rattle.circle_transcript.specs.declared.run.CircleWitnesses.{CircleWitnesses}
use Rattle.circle_codewords.specs.Words.{Committed, lambda, pairs_of}
use Rattle.circle_codewords.specs.Openings.{OpensSiblings}
use Rattle.circle_codewords.specs.Requests.{AreAnswers, HasBatchRows, OpensBatches, all_committed}
use Rattle.circle_codewords.specs.Requests.{claimed_batch}
use Rattle.circle_relation.specs.Taken.{challenges_of, drawn_by, shape_by, taken_by}
use Rattle.circle_prover.specs.Words.{AreCommitted, AreMade, heights_of, layer_of, round_word}
use Rattle.circle_prover.specs.Words.{top_of}
use Rattle.circle_prover.specs.declared.run.CommittedWords.{CommittedWords}

-- under a scheme, codewords of these heights that have this commitment, and of their rows at the
-- queries without their lowest `bits` bits the entries beside the queries' places, with a proof of
-- the rows
pub record AreOpenedWords {E Com P : Type 0} (Commits : List (RowMajorMatrix E) → Com → Type 0)
    (authenticates : Authenticates Com E P) (zero : E) (top bits : ℕ) (queries heights : List ℕ)
    (words : List (List (List E))) (commitment : Com) (o : Opened (List E) P) : Type 0 where
  pub kept : List (RowMajorMatrix E)
  pub committed : AreCommitted Commits words kept commitment
  pub opened :
      OpensSiblings Commits authenticates kept zero top heights bits queries o.entries o.proof

module _ {F E WC IP WP : Type 0} (k : Fields F E) (matrices : List (Committed F E))
    (c : Challenges E) (proof : OpeningProof F E WC IP WP) where
  -- the codewords under the challenges that were drawn, by the heights of the first layer and by
  -- round
  abbrev pub drawn_layer : ℕ → ℕ → List (List E)
  drawn_layer blowup = layer_of k blowup matrices c.alpha

  abbrev pub drawn_word : ℕ → ℕ → List E
  drawn_word blowup = round_word k blowup matrices c.alpha c.bivariate c.betas

  module _ {M : Type 0} (p : FriParameters M)
      (Commits : List (RowMajorMatrix E) → WC → Type 0) (authenticates : Authenticates WC E WP)
    where
      -- the proof holds the multiples of the vanishing polynomial, the commitments of the
      -- codewords, what is opened of them at the queries, and the last codeword's coefficients;
      -- witnesses of no difficulty are zero
      pub record HoldsWords : Type 0 where
        pub lambdas : proof.lambdas ≡ map (lambda k c.alpha matrices p.log_blowup)
            (heights_of matrices)
        pub first_layer :
            AreOpenedWords Commits authenticates k.extension.zero (top_of matrices) 1 c.queries
            (heights_of matrices) (map (drawn_layer p.log_blowup) (heights_of matrices))
            proof.first_layer proof.first_layer_opened
        pub count :
            length proof.commitments ≡ top_of matrices - 1 - p.log_blowup - p.log_final_poly_len
        pub opened : length proof.rounds_opened ≡ length proof.commitments
        pub rounds : (n : ℕ) (commitment : WC) (o : Opened (List E) WP)
            → slice_get proof.commitments n ≡ Some commitment
            → slice_get proof.rounds_opened n ≡ Some o
            → AreOpenedWords Commits authenticates k.extension.zero (top_of matrices) (n + 2)
            c.queries ((top_of matrices - 1 - n) ∷ []) (pairs_of (drawn_word p.log_blowup n) ∷ [])
            commitment o
        pub final_poly :
            HasXValues k.field k.gen k.extension k.embed p.log_final_poly_len
            (p.log_blowup + p.log_final_poly_len)
            (drawn_word p.log_blowup (length proof.commitments)) proof.final_poly
        pub witnesses : length proof.witnesses ≡ length proof.commitments
        pub batch_zero : p.batch_proof_of_work_bits ≡ 0 → proof.batch_witness ≡ k.field.zero
        pub rounds_zero :
            p.commit_proof_of_work_bits ≡ 0 → All (λ w. w ≡ k.field.zero) proof.witnesses
        pub query_zero : p.query_proof_of_work_bits ≡ 0 → proof.query_witness ≡ k.field.zero

module _ {D F E M : Type 0} (k : Fields F E) (p : FriParameters M)
    (kept : D → List (RowMajorMatrix F)) (requests : List (OpeningRequest D E))
    (values : Openings E) where
  -- the requested matrices with the values that are returned, batch by batch and one after another
  abbrev pub answered : List (List (Committed F E))
  answered = all_committed kept k p.log_blowup requests values

  abbrev pub answered_matrices : List (Committed F E)
  answered_matrices = flat_map (λ b. b) answered

  -- the claims that a verifier is handed, but for the commitments
  abbrev pub answered_claims : List (BatchClaim (Unit {0}) E)
  answered_claims = map (claimed_batch p.log_blowup) answered

module _ {D F E M C S IC IP WC WP : Type 0} (p : FriParameters M)
    (kept : D → List (RowMajorMatrix F)) (requests : List (OpeningRequest D E))
    (values : Openings E) (k : Fields F E) (r : RunMoves C S F E WC)
    (proof : OpeningProof F E WC IP WP) where
  -- the challenges are those that the transcript draws of the claims and the proof, and the proof
  -- holds what is opened of the codewords under these challenges at the queries
  pub record IsOpening (Commits : List (RowMajorMatrix F) → IC → Type 0)
      (authenticates : Authenticates IC F IP)
      (WordCommits : List (RowMajorMatrix E) → WC → Type 0)
      (word_authenticates : Authenticates WC E WP) (old new : S) : Type 0 where
    pub drawn : Challenges E
    pub drawing :
        let claims = answered_claims k p kept requests values in
        draw r (shape_by p claims) (taken_by k.extension claims proof) old
        ≡ Ok (drawn_by r.base.coefficients drawn new)
    pub words :
        HoldsWords k (answered_matrices k p kept requests values) drawn proof p WordCommits
        word_authenticates
    pub inputs :
        let top = top_of (answered_matrices k p kept requests values) in
        AllZip (HasBatchRows kept Commits authenticates top drawn.queries) requests proof.inputs

-- with values of requests their run comes to a proof of work that no witness passes
abbrev pub IsStuckOn : {C S D F E M WC : Type 0} → Fields F E → RunMoves C S F E WC
    → FriParameters M → (List (RowMajorMatrix E) → WC → Type 0) → (D → List (RowMajorMatrix F))
    → List (OpeningRequest D E) → Openings E → S → ProverError → Type 0
IsStuckOn k r p Commits kept requests values s e =
    IsStuckFrom r Commits k p (answered_matrices k p kept requests values)
    (answered_claims k p kept requests values) s e

-- why requests are not opened: memory was refused; or with the values that they request the last
-- codeword is of too high degree, or no witness passes where their run looks for one
abbrev pub IsFailure : {C S D F E M WC : Type 0} → Fields F E → RunMoves C S F E WC
    → FriParameters M → (List (RowMajorMatrix E) → WC → Type 0) → (D → List (RowMajorMatrix F))
    → List (OpeningRequest D E) → S → ProverError → Type 0
IsFailure k r p Commits kept requests s e =
    (e ≡ Memory) ⊎ ((values : Openings _)
    × AllZip (AreAnswers kept k p.log_blowup) requests values
    × (IsTooHigh k p.log_blowup p.log_final_poly_len (answered_matrices k p kept requests values) e
    ⊎ IsStuckOn k r p Commits kept requests values s e))

-- witnesses are zero where there is no difficulty
pub record AreEasy {F M : Type 0} (p : FriParameters M) (l : FieldOps F) (w : CircleWitnesses F)
    : Type 0 where
  pub batch : p.batch_proof_of_work_bits ≡ 0 → w.batch ≡ l.zero
  pub rounds : p.commit_proof_of_work_bits ≡ 0 → All (λ a. a ≡ l.zero) w.rounds.items
  pub query : p.query_proof_of_work_bits ≡ 0 → w.query ≡ l.zero

-- whatever matrices these are the codewords of, the proof holds what is opened of them
abbrev pub HoldsMade : {F E I M IC ID IP IE WC WD WP WE : Type 0} → Fields F E
    → (M → List (RowMajorMatrix E) → WC → Type 0) → (WD → List (RowMajorMatrix E))
    → (M → Authenticates WC E WP) → FriParameters M → CommittedWords F E WC WD
    → CirclePcsProof F E I M F IC ID IP IE WC WD WP WE → Type 0
HoldsMade {F = F} {E = E} k Commits kept_of authenticates p words proof =
    (matrices : List (Committed F E)) → AreMade k Commits kept_of p matrices words →
    AreEasy p k.field words.witnesses →
    HoldsWords k matrices (challenges_of words.draws) (proof_of proof) p (Commits p.mmcs)
    (authenticates p.mmcs)

-- it opens the batches at the queries that were drawn
abbrev pub HoldsBatches : {D F E M I IC IP IE WC WD WP WE : Type 0} → (D → List (RowMajorMatrix F))
    → (I → List (RowMajorMatrix F) → IC → Type 0) → (I → Authenticates IC F IP) → I
    → CommittedWords F E WC WD → List (OpeningRequest D E)
    → CirclePcsProof F E I M F IC D IP IE WC WD WP WE → Type 0
HoldsBatches kept Commits authenticates mmcs words requests proof =
    OpensBatches kept Commits authenticates mmcs words.log_max_height words.draws.indices.items
    requests proof.fri_proof.input_openings.input_openings.items
