-- Claimed domains, batch after batch.
use Rattle.std.proofs.Common.{◌≡◌, ℕ, ◌+◌, ◌<◌, List, [], ◌∷◌, ◌++◌, drop, length, get_or, sym, ap}
use Rattle.std.proofs.Common.{◌∙◌, arith}
use Rattle.std.proofs.lemmas.List.{drop_more, map-append}
use Rattle.std.specs.Prelude.{Ok, Err, max}
use Rattle.std.specs.Result.{result_and}
use Rattle.circle_commit.specs.Mmcs.{greatest}
use Rattle.circle_commit.specs.declared.pcs.CommitmentOpening.{CommitmentOpening}
use Rattle.circle_domain.specs.declared.domain.CircleDomain.{CircleDomain}
use Rattle.circle_relation.specs.TestsInOrder.{answer}
use Rattle.circle_verifier.specs.Refusals.{domain_tests}
use Rattle.circle_relation.specs.Statement.{all_matrices, log_sizes}
use Rattle.circle_relation.specs.StatementOf.{matrix_claims, batch_claims}
use Rattle.circle_relation.proofs.Answering.{answer-append, passed-value, refused-value}

max_assoc : (a b c : ℕ) → max (max a b) c ≡ max a (max b c)
max_assoc a b c = omega arith

greatest-append : (xs ys : List ℕ) → greatest (xs ++ ys) ≡ max (greatest xs) (greatest ys)
greatest-append [] ys = omega arith
greatest-append (x ∷ xs) ys = ap (max x) (greatest-append xs ys)
    ∙ sym (max_assoc x (greatest xs) (greatest ys))

module _ {C A B : Type 0} (final : ℕ) (xs ys : List ℕ) where
  tests-append : domain_tests {C = C} {A = A} {B = B} final (xs ++ ys) ≡ domain_tests final xs
      ++ domain_tests final ys
  tests-append = map-append _ xs ys

  -- after domains of which none is refused the others decide
  pub more_domains : (g m : ℕ) →
      answer (domain_tests {C = C} {A = A} {B = B} final xs) (greatest xs) ≡ Ok m →
      answer (domain_tests {C = C} {A = A} {B = B} final (xs ++ ys)) (max g (greatest (xs ++ ys)))
      ≡ answer (domain_tests final ys) (max (max g m) (greatest ys))
  more_domains g m is =
      let passed = passed-value (domain_tests {C = C} {A = A} {B = B} final xs) (greatest xs) m
      is in
      let value : max g (greatest (xs ++ ys)) ≡ max (max g m) (greatest ys) =
      ap (max g) (greatest-append xs ys ∙ ap (λ n. max n (greatest ys)) passed.1)
      ∙ sym (max_assoc g m (greatest ys)) in
      ap (λ v. answer (domain_tests {C = C} {A = A} {B = B} final (xs ++ ys)) v) value
      ∙ ap (λ ts. answer ts (max (max g m) (greatest ys))) tests-append
      ∙ answer-append (domain_tests final xs) (domain_tests final ys) (max (max g m) (greatest ys))
      ∙ ap
      (λ r. result_and r
      (answer (domain_tests {C = C} {A = A} {B = B} final ys) (max (max g m) (greatest ys))))
      passed.0

  -- a refusal among them is the result
  pub refused_domains : (v : ℕ) (e : _) →
      answer (domain_tests {C = C} {A = A} {B = B} final xs) (greatest xs) ≡ Err e →
      answer (domain_tests {C = C} {A = A} {B = B} final (xs ++ ys)) v ≡ Err e
  refused_domains v e is =
      ap (λ ts. answer ts v) tests-append
      ∙ answer-append (domain_tests final xs) (domain_tests final ys) v
      ∙ ap (λ r. result_and r (answer (domain_tests {C = C} {A = A} {B = B} final ys) v))
      (refused-value (domain_tests {C = C} {A = A} {B = B} final xs) (greatest xs) e is)

-- the matrices of a batch, and of those after it
pub next_batch : {E F Com : Type 0} {g : _}
    (claims : List (CommitmentOpening E Com (CircleDomain F g))) (i : ℕ)
    (b : CommitmentOpening E Com (CircleDomain F g)) →
    i < length claims → b ≡ get_or claims i b →
    log_sizes (all_matrices (batch_claims (drop i claims)))
    ≡ log_sizes (matrix_claims b.matrices.items)
    ++ log_sizes (all_matrices (batch_claims (drop (i + 1) claims)))
next_batch claims i b within is =
    ap (λ cs. log_sizes (all_matrices (batch_claims cs))) (drop_more claims i b within
    ∙ ap (λ x. x ∷ drop (i + 1) claims) (sym is))
    ∙ map-append _ (matrix_claims b.matrices.items)
    (all_matrices (batch_claims (drop (i + 1) claims)))
