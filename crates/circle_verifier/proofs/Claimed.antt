-- Whether a matrix of some size is claimed.
use Rattle.std.proofs.Common.{◌≡◌, ℕ, ◌+◌, ◌-◌, ◌<◌, ◌≤◌, ◌==◌, Bool, false, ◌||◌, List, [], ◌∷◌}
use Rattle.std.proofs.Common.{refl, sym, ap, ◌∙◌, arith}
use Rattle.std.specs.Prelude.{nat_le}
use Rattle.std.specs.List.{list_any}
use Rattle.std.proofs.lemmas.Bool.{lt-leb}
use Rattle.std.proofs.lemmas.List.Folds.{list_any-append}
use Rattle.circle_commit.specs.declared.pcs.MatrixOpening.{MatrixOpening}
use Rattle.circle_commit.specs.declared.pcs.CommitmentOpening.{CommitmentOpening}
use Rattle.circle_domain.specs.declared.domain.CircleDomain.{CircleDomain}
use Rattle.circle_domain.specs.Domain.{log_size}
use Rattle.circle_relation.specs.Statement.{MatrixClaim, all_matrices, log_height}
use Rattle.circle_relation.specs.StatementOf.{matrix_claims, batch_claims}

module _ {E F : Type 0} {g : _} (p : ℕ → Bool) where
  any-batch : (ms : List (MatrixOpening E (CircleDomain F g))) →
      list_any (λ m. p (log_size m.domain)) ms ≡ list_any (λ m. p m.log_n) (matrix_claims ms)
  any-batch [] = refl
  any-batch (m ∷ ms) = ap (λ b. p (log_size m.domain) || b) (any-batch ms)

  pub any-batches : {Com : Type 0} (bs : List (CommitmentOpening E Com (CircleDomain F g))) →
      list_any (λ b. list_any (λ m. p (log_size m.domain)) b.matrices.items) bs
      ≡ list_any (λ m. p m.log_n) (all_matrices (batch_claims bs))
  any-batches [] = refl
  any-batches (b ∷ bs) =
      ap (λ x. x || list_any (λ d. list_any (λ m. p (log_size m.domain)) d.matrices.items) bs)
      (any-batch b.matrices.items)
      ∙ ap (λ x. list_any (λ m. p m.log_n) (matrix_claims b.matrices.items) || x) (any-batches bs)
      ∙ sym (list_any-append (λ (m : MatrixClaim E). p m.log_n) (matrix_claims b.matrices.items)
      (all_matrices (batch_claims bs)))

-- a matrix has a height where its domain has the height without the blowup
any-height : {E : Type 0} (blowup h n : ℕ) (ms : List (MatrixClaim E)) → n + blowup ≡ h →
    list_any (λ m. m.log_n == n) ms ≡ list_any (λ m. log_height blowup m == h) ms
any-height blowup h n [] same = refl
any-height blowup h n (m ∷ ms) same =
    let here : (m.log_n == n) ≡ (m.log_n + blowup == h) = grind arith in
    ap (λ b. b || list_any (λ d. d.log_n == n) ms) here
    ∙ ap (λ b. (m.log_n + blowup == h) || b) (any-height blowup h n ms same)

-- a height below the blowup no matrix has
none-low : {E : Type 0} (blowup h : ℕ) (ms : List (MatrixClaim E)) → h < blowup →
    false ≡ list_any (λ m. log_height blowup m == h) ms
none-low blowup h [] low = refl
none-low blowup h (m ∷ ms) low =
    let here : false ≡ (m.log_n + blowup == h) = grind arith in
    none-low blowup h ms low ∙ ap (λ b. b || list_any (λ d. log_height blowup d == h) ms) here

module _ {E F Com : Type 0} {g : _} (blowup h : ℕ)
    (bs : List (CommitmentOpening E Com (CircleDomain F g))) where
  pub has-height : (r : Bool) → blowup ≤ h →
      r ≡ list_any (λ b. list_any (λ m. log_size m.domain == h - blowup) b.matrices.items) bs →
      r ≡ list_any (λ m. log_height blowup m == h) (all_matrices (batch_claims bs))
  has-height r high is =
      let same : h - blowup + blowup ≡ h = omega arith in
      is ∙ any-batches (λ n. n == h - blowup) bs
      ∙ any-height blowup h (h - blowup) (all_matrices (batch_claims bs)) same

  pub has-none : h < blowup → nat_le blowup h
      ≡ list_any (λ m. log_height blowup m == h) (all_matrices (batch_claims bs))
  has-none low = lt-leb blowup h low ∙ none-low blowup h (all_matrices (batch_claims bs)) low
