-- The tests before a challenger is seeded, over the records of claims and of a proof.
use Rattle.std.specs.Prelude.{◌≡◌, ℕ, Bool, List, map, vec_len, Result, Err, IfErr}
use Rattle.circle_commit.specs.declared.error.FriError.{FriError}
use Rattle.circle_commit.specs.declared.params.FriParameters.{FriParameters}
use Rattle.circle_commit.specs.declared.pcs.CommitmentOpening.{CommitmentOpening}
use Rattle.circle_domain.specs.declared.domain.CircleDomain.{CircleDomain}
use Rattle.circle_relation.specs.Accepts.{Fields}
use Rattle.circle_relation.specs.RunOf.{proof_of}
use Rattle.circle_relation.specs.Statement.{BatchClaim, all_matrices, log_max_height, log_sizes}
use Rattle.circle_relation.specs.StatementOf.{batch_claims}
use Rattle.circle_relation.specs.declared.error.InputError.{InputError}
use Rattle.circle_relation.specs.declared.proof.CircleCommitPhaseMultiStep.{CircleCommitPhaseMultiStep}
use Rattle.circle_relation.specs.declared.proof.CircleFriProof.{CircleFriProof}
use Rattle.circle_relation.specs.declared.proof.CirclePcsProof.{CirclePcsProof}
use Rattle.circle_relation.specs.TestsInOrder.{Test, answer}
use Rattle.circle_verifier.specs.Refusals.{claim_tests, seeding_tests, shape_tests}
use Rattle.circle_point.specs.Projective.{is_at_infinity}

-- I and W are the schemes of the batches and of the codewords, each with its commitments, data,
-- proofs and errors
module _ {F E I W IC ID IP IE WC WD WP WE : Type 0} {g : _} (k : Fields F E) (p : FriParameters W)
    (claims : List (CommitmentOpening E IC (CircleDomain F g)))
    (proof : CirclePcsProof F E I W F IC ID IP IE WC WD WP WE) where
  -- the tests of claims and a proof
  abbrev pub run_tests : List (Test (FriError WE (InputError IE WE)))
  run_tests =
      seeding_tests k.two_adicity k.is_zero (is_at_infinity k.same k.extension) p
      (batch_claims claims) (proof_of proof)

  -- where one of them has reason to refuse, the first is the result, and the challenger is as it
  -- was
  abbrev pub IsFirstRefusal : {C : Type 0} → Result (Unit {0}) (FriError WE (InputError IE WE))
      → C → C → Type 0
  IsFirstRefusal result old new =
      IfErr (answer run_tests (tt {0})) (λ e. (result ≡ Err e) × (new ≡ old))

-- the tests of what batches claim
abbrev pub batch_tests : {Com E WE IE IW : Type 0} → ℕ → ℕ → ℕ → List (BatchClaim Com E)
    → List (Test (FriError WE (InputError IE IW)))
batch_tests two_adicity blowup final batches =
    claim_tests two_adicity blowup final (log_sizes (all_matrices batches))

-- the logarithm of the greatest height that they claim
abbrev pub claimed_height : {Com E : Type 0} → ℕ → List (BatchClaim Com E) → ℕ
claimed_height blowup batches = log_max_height blowup (all_matrices batches)

-- W is the scheme of the codewords, with its commitments, data, proofs and errors
module _ {E W WC WD WP WE : Type 0} where
  -- for each round and query the number of siblings
  abbrev pub sibling_counts : List (CircleCommitPhaseMultiStep E W WC WD WP WE) → List (List ℕ)
  sibling_counts openings = map (λ o. map vec_len o.sibling_values.items) openings

  -- the tests of the lengths of a proof and of its witnesses where this number of rounds is due
  abbrev pub proof_tests : {F P I : Type 0} → (F → Bool) → FriParameters W → ℕ
      → CircleFriProof E W F P WC WD WP WE → List (Test (FriError WE I))
  proof_tests is_zero p rounds proof =
      shape_tests is_zero p rounds (vec_len proof.commit_phase_commits)
      proof.commit_pow_witnesses.items proof.pow_witness
      (sibling_counts proof.commit_phase_openings.items)
