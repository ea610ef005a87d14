use Rattle.std.proofs.Common.{rules, nat_cmp, ◌≡◌, ℕ, ◌+◌, ◌<◌, ◌≤◌, List, ◌∷◌, length, drop}
use Rattle.std.proofs.Common.{get_or, Err, sym, ap, ◌∙◌, arith}
use Rattle.std.proofs.lemmas.Bool.{le-leb, lt-leb}
use Rattle.std.proofs.lemmas.List.{drop_more}
use Rattle.std.specs.Ordering.{ord_max}
use Rattle.std.specs.Prelude.{max}
use Rattle.circle_domain.specs.Domain.{log_size}
use Rattle.circle_domain.specs.declared.domain.CircleDomain.{CircleDomain}
use Rattle.circle_commit.specs.Mmcs.{greatest}
use Rattle.circle_commit.specs.declared.error.FriError.TheVariants.{InputError as OfInput}
use Rattle.circle_commit.specs.declared.pcs.MatrixOpening.{MatrixOpening}
use Rattle.circle_relation.specs.Statement.{log_sizes}
use Rattle.circle_relation.specs.StatementOf.{matrix_claims}
use Rattle.circle_relation.specs.declared.error.InputError.TheVariants.{DomainTooSmall}
use Rattle.circle_relation.specs.TestsInOrder.{answer}
use Rattle.circle_verifier.specs.Refusals.{domain_tests}
use Rattle.circle_relation.proofs.Answering.{skipped, refusing}
use Rattle.circle_verifier.proofs.verifier.greatest_domain_of.Goals as goal

next_matrix : {E F : Type 0} {g : _} (ms : List (MatrixOpening E (CircleDomain F g))) (i : ℕ)
    (m : MatrixOpening E (CircleDomain F g)) →
    i < length ms → m ≡ get_or ms i m →
    log_sizes (matrix_claims (drop i ms)) ≡ log_size m.domain
    ∷ log_sizes (matrix_claims (drop (i + 1) ms))
next_matrix ms i m within is =
    ap (λ xs. log_sizes (matrix_claims xs)) (drop_more ms i m within
    ∙ ap (λ x. x ∷ drop (i + 1) ms) (sym is))

greater : (a b : ℕ) → ord_max nat_cmp a b ≡ max a b
greater a b = search rules

module _ {C A B : Type 0} (final n : ℕ) (ns : List ℕ) where
  one_passes : (g : ℕ) → final < n →
      answer (domain_tests {C = C} {A = A} {B = B} final (n ∷ ns)) (max g (greatest (n ∷ ns)))
      ≡ answer (domain_tests final ns) (max (max g n) (greatest ns))
  one_passes g large =
      let value : max g (greatest (n ∷ ns)) ≡ max (max g n) (greatest ns) = omega arith in
      skipped _ (domain_tests final ns) _ (lt-leb n final large)
      ∙ ap (answer (domain_tests {C = C} {A = A} {B = B} final ns)) value

  one_refuses : (v : ℕ) → n ≤ final → answer (domain_tests {C = C} {A = A} {B = B} final (n ∷ ns)) v
      ≡ Err (OfInput (DomainTooSmall n))
  one_refuses v small = refusing _ (domain_tests final ns) v (le-leb n final small)

pub returns-then-log_n-log_final_poly_len : goal.returns-then-log_n-log_final_poly_len
returns-then-log_n-log_final_poly_len g c =
    let ms = c.args.matrices.now in
    let i = c.loop-matrix.matrix-index in
    let final = c.args.log_final_poly_len in
    let tests = domain_tests {C = g.row.CommitErr.Denot} {A = g.row.InputMmcsErr.Denot}
    {B = g.row.FriMmcsErr.Denot} final in
    let n = log_size c.matrix-item.result.domain in
    let left = log_sizes (matrix_claims (drop (i + 1) ms)) in
    let is : c.log_n-log_n.result ≡ n = c.log_n-log_n.ensures in
    ap (λ k. Err (OfInput (DomainTooSmall k))) is
    ∙ sym
    (one_refuses final n left (max c.loop-matrix.greatest (greatest (n ∷ left))) (omega arith))
    ∙ sym
    (ap (λ s. answer (tests s) (max c.loop-matrix.greatest (greatest s)))
    (next_matrix ms i c.matrix-item.result (omega arith) c.matrix-item.is))
    ∙ c.loop-matrix.invariant

pub loop-matrix-preserved : goal.loop-matrix-preserved
loop-matrix-preserved g c =
    let ms = c.args.matrices.now in
    let i = c.loop-matrix.matrix-index in
    let final = c.args.log_final_poly_len in
    let tests = domain_tests {C = g.row.CommitErr.Denot} {A = g.row.InputMmcsErr.Denot}
    {B = g.row.FriMmcsErr.Denot} final in
    let n = log_size c.matrix-item.result.domain in
    let left = log_sizes (matrix_claims (drop (i + 1) ms)) in
    let is : c.log_n-log_n.result ≡ n = c.log_n-log_n.ensures in
    let further : c.max-greatest.result ≡ max c.loop-matrix.greatest n = c.max-greatest.ensures
    ∙ greater c.loop-matrix.greatest c.log_n-log_n.result
    ∙ ap (max c.loop-matrix.greatest) is in
    ap (λ k. answer (tests left) (max k (greatest left))) further
    ∙ sym (one_passes final n left c.loop-matrix.greatest (omega arith))
    ∙ sym
    (ap (λ s. answer (tests s) (max c.loop-matrix.greatest (greatest s)))
    (next_matrix ms i c.matrix-item.result (omega arith) c.matrix-item.is))
    ∙ c.loop-matrix.invariant
