-- What is refused of a proof before the challenger is seeded, in order.
use Rattle.std.specs.Prelude.{ℕ, ◌+◌, ◌-◌, ◌^◌, ◌==◌, Bool, not, ◌&&◌, List, [], ◌∷◌, ◌++◌, length}
use Rattle.std.specs.Prelude.{map, min, nat_lt, nat_le}
use Rattle.std.specs.List.{list_all, list_any}
use Rattle.circle_commit.specs.declared.error.FriError.{FriError}
use Rattle.circle_commit.specs.Mmcs.{greatest}
use Rattle.circle_commit.specs.declared.error.FriError.TheVariants.{NoCommittedMatrices}
use Rattle.circle_commit.specs.declared.error.FriError.TheVariants.{GlobalMaxHeightTooLarge}
use Rattle.circle_commit.specs.declared.error.FriError.TheVariants.{InputError as OfInput}
use Rattle.circle_commit.specs.declared.error.FriError.TheVariants.{UnsupportedGrinding}
use Rattle.circle_commit.specs.declared.error.FriError.TheVariants.{ZeroQueries, ZeroBlowup}
use Rattle.circle_commit.specs.declared.error.FriError.TheVariants.{UnsupportedFoldingCap}
use Rattle.circle_commit.specs.declared.error.FriError.TheVariants.{CommitRoundCountMismatch}
use Rattle.circle_commit.specs.declared.error.FriError.TheVariants.{CommitPowWitnessCountMismatch}
use Rattle.circle_commit.specs.declared.error.FriError.TheVariants.{NonCanonicalPowWitness}
use Rattle.circle_commit.specs.declared.error.FriError.TheVariants.{CommitPhaseOpeningsCountMismatch}
use Rattle.circle_commit.specs.declared.error.FriError.TheVariants.{CommitPhaseQueryCountMismatch}
use Rattle.circle_commit.specs.declared.error.FriError.TheVariants.{SiblingValuesLengthMismatch}
use Rattle.circle_commit.specs.declared.error.FriError.TheVariants.{FinalPolyLengthMismatch}
use Rattle.circle_commit.specs.declared.error.FriError.TheVariants.{PointAtInfinity}
use Rattle.circle_commit.specs.declared.pcs.CommitmentOpening.{CommitmentOpening}
use Rattle.circle_relation.specs.Statement.{MatrixClaim, BatchClaim, OpeningProof, all_matrices}
use Rattle.circle_relation.specs.Statement.{log_sizes, log_max_height}
use Rattle.circle_commit.specs.declared.params.FriParameters.{FriParameters}
use Rattle.circle_commit.specs.declared.params.PowPhase.{PowPhase}
use Rattle.circle_commit.specs.declared.params.PowPhase.TheVariants.{Batch, CommitPhase, Query}
use Rattle.circle_relation.specs.declared.error.InputError.{InputError}
use Rattle.circle_relation.specs.TestsInOrder.{Test}
use Rattle.circle_relation.specs.declared.error.InputError.TheVariants.{DomainTooSmall}

module _ {C A B : Type 0} where
  -- domains of these sizes, where folding stops at 2^final coefficients: one of too few
  abbrev pub domain_tests : ℕ → List ℕ → List (Test (FriError C (InputError A B)))
  domain_tests final log_sizes = map (λ n. (nat_le n final, OfInput (DomainTooSmall n))) log_sizes

  -- no matrix; a domain of too few points; a greatest height that the group has no domain of
  abbrev pub claim_tests : ℕ → ℕ → ℕ → List ℕ → List (Test (FriError C (InputError A B)))
  claim_tests two_adicity blowup final log_sizes =
      let top = greatest log_sizes + blowup in
      (length log_sizes == 0, NoCommittedMatrices)
      ∷ (domain_tests final log_sizes
      ++ (nat_le two_adicity top, GlobalMaxHeightTooLarge (min top (2 ^ 64 - 1)) two_adicity) ∷ [])

module _ {C I : Type 0} where
  -- a difficulty past 30 bits
  abbrev pub grinding_test : PowPhase → ℕ → Test (FriError C I)
  grinding_test phase bits = (nat_lt 30 bits, UnsupportedGrinding phase bits)

  -- the parameters
  abbrev pub parameter_tests : {M : Type 0} → FriParameters M → List (Test (FriError C I))
  parameter_tests p =
      grinding_test Batch p.batch_proof_of_work_bits
      ∷ grinding_test CommitPhase p.commit_proof_of_work_bits
      ∷ grinding_test Query p.query_proof_of_work_bits
      ∷ (p.num_queries == 0, ZeroQueries)
      ∷ (p.log_blowup == 0, ZeroBlowup)
      ∷ (not (p.max_log_arity == 1), UnsupportedFoldingCap p.max_log_arity)
      ∷ []

  -- witnesses of a proof of work without difficulty that aren't zero
  abbrev pub witness_test : PowPhase → ℕ → Bool → Test (FriError C I)
  witness_test phase bits are_zero = (bits == 0 && not are_zero, NonCanonicalPowWitness phase)

  -- the queries of a round, told by the numbers of their siblings
  abbrev pub sibling_tests : ℕ → List ℕ → List (Test (FriError C I))
  sibling_tests round siblings =
      map (λ got. (not (got == 1), SiblingValuesLengthMismatch round 1 got)) siblings

  abbrev pub round_tests : ℕ → ℕ → List ℕ → List (Test (FriError C I))
  round_tests queries round siblings =
      let got = length siblings in
      (not (got == queries), CommitPhaseQueryCountMismatch round queries got)
      ∷ sibling_tests round siblings

  -- the rounds from one on
  unfoldable pub rounds_tests : ℕ → ℕ → List (List ℕ) → List (Test (FriError C I))
  rounds_tests queries round [] = []
  rounds_tests queries round (siblings ∷ rest) =
      round_tests queries round siblings ++ rounds_tests queries (round + 1) rest

  -- the shape of a proof where this number of rounds is due: the number of commitments of rounds,
  -- their witnesses, that of the queries, and for each round and query the number of siblings
  abbrev pub shape_tests : {M W : Type 0} → (W → Bool) → FriParameters M → ℕ → ℕ → List W → W →
      List (List ℕ) → List (Test (FriError C I))
  shape_tests is_zero p rounds commits witnesses query_witness siblings =
      (not (commits == rounds), CommitRoundCountMismatch rounds commits)
      ∷ (not (length witnesses == rounds), CommitPowWitnessCountMismatch rounds (length witnesses))
      ∷ witness_test CommitPhase p.commit_proof_of_work_bits (list_all is_zero witnesses)
      ∷ witness_test Query p.query_proof_of_work_bits (is_zero query_witness)
      ∷ (not (length siblings == rounds), CommitPhaseOpeningsCountMismatch rounds (length siblings))
      ∷ rounds_tests p.num_queries 0 siblings

  -- the number of coefficients of the final polynomial
  abbrev pub final_test : ℕ → ℕ → Test (FriError C I)
  final_test final got = (not (got == 2 ^ final), FinalPolyLengthMismatch (2 ^ final) got)

  -- the witness of the proof of work before the batching challenge, and the claimed points
  abbrev pub point_tests : {M : Type 0} → FriParameters M → Bool → Bool → List (Test (FriError C I))
  point_tests p is_zero some_at_infinity =
      witness_test Batch p.batch_proof_of_work_bits is_zero ∷ (some_at_infinity, PointAtInfinity)
      ∷ []

-- whether some matrix is claimed at a coordinate that passes a test
abbrev pub some_claim : {E : Type 0} → (E → Bool) → List (MatrixClaim E) → Bool
some_claim passes matrices = list_any (λ m. list_any (λ c. passes c.point) m.claims) matrices

-- all that is tested before the challenger is seeded, in order
unfoldable pub seeding_tests : {F E M Com WordCom InputProof WordProof C A B : Type 0} → ℕ
    → (F → Bool) → (E → Bool) → FriParameters M → List (BatchClaim Com E)
    → OpeningProof F E WordCom InputProof WordProof → List (Test (FriError C (InputError A B)))
seeding_tests two_adicity is_zero is_infinite p batches proof =
    let matrices = all_matrices batches in
    let final = p.log_final_poly_len in
    let rounds = log_max_height p.log_blowup matrices - 1 - p.log_blowup - final in
    let siblings = map (λ o. map (λ values. length values) o.entries) proof.rounds_opened in
    claim_tests two_adicity p.log_blowup final (log_sizes matrices)
    ++ (parameter_tests p
    ++ (shape_tests is_zero p rounds (length proof.commitments) proof.witnesses
    proof.query_witness siblings
    ++ (final_test final (length proof.final_poly)
    ∷ point_tests p (is_zero proof.batch_witness) (some_claim is_infinite matrices))))

-- whether some claimed coordinate passes a test
abbrev pub some_point : {E Com D : Type 0} → (E → Bool) → List (CommitmentOpening E Com D) → Bool
some_point passes claims =
    list_any (λ b. list_any
    (λ m. list_any (λ p. passes p.point) m.points.items) b.matrices.items) claims
