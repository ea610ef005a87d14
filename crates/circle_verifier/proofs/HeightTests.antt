-- The tests of claims, after those of the domains.
use Rattle.std.proofs.Common.{rules, ◌≡◌, ℕ, ◌+◌, ◌-◌, ◌^◌, ◌<◌, ◌≤◌, List, [], ◌∷◌, ◌++◌, length}
use Rattle.std.proofs.Common.{refl, ap, ◌∙◌, arith}
use Rattle.std.proofs.lemmas.Bool.{leb-false, le-leb, lt-leb}
use Rattle.std.specs.Prelude.{Ok, Err, true, false, min, nat_le, ◌==◌}
use Rattle.std.specs.Result.{result_and}
use Rattle.circle_commit.specs.Mmcs.{greatest}
use Rattle.circle_commit.specs.declared.error.FriError.{FriError}
use Rattle.circle_commit.specs.declared.error.FriError.TheVariants.{NoCommittedMatrices}
use Rattle.circle_commit.specs.declared.error.FriError.TheVariants.{GlobalMaxHeightTooLarge}
use Rattle.circle_relation.specs.declared.error.InputError.{InputError}
use Rattle.circle_relation.specs.TestsInOrder.{Test, answer}
use Rattle.circle_verifier.specs.Refusals.{domain_tests, claim_tests}
use Rattle.circle_relation.specs.Statement.{MatrixClaim, log_sizes, log_max_height}
use Rattle.circle_relation.proofs.Answering.{answer-append, answer-none, passed-value}
use Rattle.circle_relation.proofs.Answering.{refused-value}
use Rattle.circle_relation.proofs.Answering.{refusing, skipped}

first_passes : {A E : Type 0} (t : Test E) (ts : List (Test E)) (v w : A) → answer (t ∷ ts) v
    ≡ Ok w → t.0 ≡ false
unfolding answer
first_passes (true, e) ts v w is = cc
first_passes (false, e) ts v w is = refl

-- the greatest height is the greatest size and the blowup
pub raised : {E : Type 0} (b : ℕ) (m : MatrixClaim E) (ms : List (MatrixClaim E)) →
    log_max_height b (m ∷ ms) ≡ greatest (log_sizes (m ∷ ms)) + b
raised b m [] = omega arith
raised b m (k ∷ ms) = let e = raised b k ms in omega arith

module _ {C A B : Type 0} (two blowup final v : ℕ) where
  -- a domain's refusal is the result
  pub claims_refused : (sizes : List ℕ) (e : FriError C (InputError A B)) →
      answer (domain_tests final sizes) (greatest sizes) ≡ Err e →
      answer (claim_tests {C = C} {A = A} {B = B} two blowup final sizes) v ≡ Err e
  claims_refused [] e is = let none = answer-none {E = FriError C (InputError A B)} (greatest []) in
      cc
  claims_refused (n ∷ ns) e is =
      let tests = domain_tests {C = C} {A = A} {B = B} final (n ∷ ns) in
      let top = greatest (n ∷ ns) + blowup in
      let last : List (Test (FriError C (InputError A B))) =
      (nat_le two top, GlobalMaxHeightTooLarge (min top (2 ^ 64 - 1)) two) ∷ [] in
      skipped (length (n ∷ ns) == 0, NoCommittedMatrices) (tests ++ last) v (search rules)
      ∙ answer-append tests last v
      ∙ ap (λ r. result_and r (answer last v)) (refused-value tests (greatest (n ∷ ns)) e is)

  -- where the greatest domain is of one point there is no matrix
  pub none_claimed : (sizes : List ℕ) →
      answer (domain_tests {C = C} {A = A} {B = B} final sizes) (greatest sizes) ≡ Ok 0 →
      answer (claim_tests {C = C} {A = A} {B = B} two blowup final sizes) v
      ≡ Err NoCommittedMatrices
  none_claimed [] is = refusing (length {A = ℕ} [] == 0, NoCommittedMatrices) _ v (search rules)
  none_claimed (n ∷ ns) is =
      let large = leb-false n final (first_passes _ _ (greatest (n ∷ ns)) 0 is) in
      let small =
      (passed-value (domain_tests {C = C} {A = A} {B = B} final (n ∷ ns)) (greatest (n ∷ ns)) 0
      is).1 in
      absurd (omega arith)

  module _ (m : ℕ) (some : 1 ≤ m) where
    -- else the height is tested
    height_tested : (sizes : List ℕ) →
        answer (domain_tests {C = C} {A = A} {B = B} final sizes) (greatest sizes) ≡ Ok m →
        answer (claim_tests {C = C} {A = A} {B = B} two blowup final sizes) v
        ≡ answer
        ((nat_le two (m + blowup), GlobalMaxHeightTooLarge (min (m + blowup) (2 ^ 64 - 1)) two)
        ∷ []) v
    height_tested [] is = let none =
        (passed-value (domain_tests {C = C} {A = A} {B = B} final []) 0 m is).1 in
        absurd (omega arith)
    height_tested (n ∷ ns) is =
        let tests = domain_tests {C = C} {A = A} {B = B} final (n ∷ ns) in
        let last : ℕ → List (Test (FriError C (InputError A B))) =
        λ g. (
          nat_le two (g + blowup),
          GlobalMaxHeightTooLarge (min (g + blowup) (2 ^ 64 - 1)) two,
        ) ∷ [] in
        let passed = passed-value tests (greatest (n ∷ ns)) m is in
        skipped (length (n ∷ ns) == 0, NoCommittedMatrices) (tests ++ last (greatest (n ∷ ns))) v
        (search rules)
        ∙ answer-append tests (last (greatest (n ∷ ns))) v
        ∙ ap (λ r. result_and r (answer (last (greatest (n ∷ ns))) v)) passed.0
        ∙ ap (λ g. answer (last g) v) passed.1

    module _ (sizes : List ℕ)
        (is : answer (domain_tests {C = C} {A = A} {B = B} final sizes) (greatest sizes) ≡ Ok m)
      where
        pub too_high : two ≤ m + blowup →
            answer (claim_tests {C = C} {A = A} {B = B} two blowup final sizes) v
            ≡ Err (GlobalMaxHeightTooLarge (min (m + blowup) (2 ^ 64 - 1)) two)
        too_high high = height_tested sizes is
            ∙ refusing (nat_le two (m + blowup), _) [] v (le-leb two (m + blowup) high)

        pub fits_group : m + blowup < two →
            answer (claim_tests {C = C} {A = A} {B = B} two blowup final sizes) v ≡ Ok v
        fits_group low = height_tested sizes is
            ∙ skipped (nat_le two (m + blowup), _) [] v (lt-leb two (m + blowup) low)
            ∙ answer-none v

-- the greatest height, where some domain is claimed
pub height_is : {C A B E : Type 0} (blowup final m : ℕ) (matrices : List (MatrixClaim E)) → 1 ≤ m →
    answer (domain_tests {C = C} {A = A} {B = B} final (log_sizes matrices))
    (greatest (log_sizes matrices)) ≡ Ok m → log_max_height blowup matrices ≡ m + blowup
height_is {C = C} {A = A} {B = B} blowup final m [] some is = let none =
    (passed-value (domain_tests {C = C} {A = A} {B = B} final []) 0 m is).1 in absurd (omega arith)
height_is {C = C} {A = A} {B = B} blowup final m (k ∷ ms) some is =
    raised blowup k ms
    ∙ ap (λ n. n + blowup)
    (passed-value (domain_tests {C = C} {A = A} {B = B} final (log_sizes (k ∷ ms)))
    (greatest (log_sizes (k ∷ ms))) m is).1
