-- What the tests before the seeding establish.
use Rattle.std.specs.Prelude.{◌≡◌, ℕ, ◌+◌, ◌-◌, ◌^◌, ◌<◌, ◌≤◌, Bool, true, false, List, length, All}
use Rattle.circle_commit.specs.declared.params.FriParameters.{FriParameters}
use Rattle.circle_relation.specs.Accepts.{Fields}
use Rattle.circle_relation.specs.Statement.{BatchClaim, OpeningProof, all_matrices, log_max_height}
use Rattle.circle_point.specs.Projective.{is_at_infinity}

-- the number of rounds that claims and parameters require
abbrev pub rounds_due : {M Com E : Type 0} → FriParameters M → List (BatchClaim Com E) → ℕ
rounds_due p batches =
    log_max_height p.log_blowup (all_matrices batches) - 1 - p.log_blowup - p.log_final_poly_len

pub record IsTested {F E M Com WordCom InputProof WordProof : Type 0} (two_adicity : ℕ)
    (is_zero : F → Bool) (is_infinite : E → Bool) (p : FriParameters M)
    (batches : List (BatchClaim Com E))
    (proof : OpeningProof F E WordCom InputProof WordProof) : Type 0 where
  pub some_matrix : 1 ≤ length (all_matrices batches)
  pub large : All (λ m. p.log_final_poly_len + 1 ≤ m.log_n) (all_matrices batches)
  pub in_group : log_max_height p.log_blowup (all_matrices batches) < two_adicity
  pub batch_work : p.batch_proof_of_work_bits ≤ 30
  pub commit_work : p.commit_proof_of_work_bits ≤ 30
  pub query_work : p.query_proof_of_work_bits ≤ 30
  pub queries : 1 ≤ p.num_queries
  pub blowup : 1 ≤ p.log_blowup
  pub arity : p.max_log_arity ≡ 1
  pub commitments : length proof.commitments ≡ rounds_due p batches
  pub witnesses : length proof.witnesses ≡ rounds_due p batches
  pub opened : length proof.rounds_opened ≡ rounds_due p batches
  pub siblings :
      All (λ o. (length o.entries ≡ p.num_queries) × All (λ values. length values ≡ 1) o.entries)
      proof.rounds_opened
  pub final_poly : length proof.final_poly ≡ 2 ^ p.log_final_poly_len
  pub batch_zero : p.batch_proof_of_work_bits ≡ 0 → is_zero proof.batch_witness ≡ true
  pub commit_zero :
      p.commit_proof_of_work_bits ≡ 0 → All (λ w. is_zero w ≡ true) proof.witnesses
  pub query_zero : p.query_proof_of_work_bits ≡ 0 → is_zero proof.query_witness ≡ true
  pub finite :
      All (λ m. All (λ c. is_infinite c.point ≡ false) m.claims) (all_matrices batches)

-- the same over the fields
abbrev pub IsTestedOver : {F E M Com WordCom InputProof WordProof : Type 0} → Fields F E
    → FriParameters M → List (BatchClaim Com E)
    → OpeningProof F E WordCom InputProof WordProof → Type 0
IsTestedOver k p batches proof =
    IsTested k.two_adicity k.is_zero (is_at_infinity k.same k.extension) p batches proof
