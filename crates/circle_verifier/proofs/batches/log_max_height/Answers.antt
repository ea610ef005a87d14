use Rattle.std.proofs.Common.{rules, nat_cmp, ◌≡◌, ◌+◌, ◌<◌, ◌≤◌, ℕ, List, ◌∙◌, All, length, get_or}
use Rattle.std.proofs.Common.{drop, sym, ap, subst, arith}
use Rattle.std.specs.Prelude.{max}
use Rattle.std.specs.Ordering.{ord_max}
use Rattle.std.proofs.lemmas.List.{at_drop_more, at_drop_all}
use Rattle.circle_commit.specs.declared.pcs.MatrixOpening.{MatrixOpening}
use Rattle.circle_domain.specs.declared.domain.CircleDomain.{CircleDomain}
use Rattle.circle_domain.specs.Domain.{log_size}
use Rattle.circle_relation.specs.Statement.{log_max_height}
use Rattle.circle_relation.specs.StatementOf.{matrix_claims}
use Rattle.circle_verifier.proofs.batches.log_max_height.Goals as goal

module _ {E F : Type 0} {g : _} (blowup : ℕ) (ms : List (MatrixOpening E (CircleDomain F g)))
    (i : ℕ) where
  abbrev left : ℕ → ℕ
  left n = log_max_height blowup (matrix_claims (drop n ms))

  module _ (m : MatrixOpening E (CircleDomain F g)) (within : i < length ms)
      (is : m ≡ get_or ms i m) where
    small-there : All (λ d. log_size d.domain + blowup ≤ 62) ms → log_size m.domain + blowup ≤ 62
    small-there all = subst (λ d. log_size d.domain + blowup ≤ 62) (sym is) (all i m within)

    next-height : left i ≡ max (log_size m.domain + blowup) (left (i + 1))
    next-height =
        at_drop_more (λ ds. log_max_height blowup (matrix_claims ds)) ms i m within
        ∙ ap (λ d. max (log_size d.domain + blowup) (left (i + 1))) (sym is)

greater : (a b : ℕ) → ord_max nat_cmp a b ≡ max a b
greater a b = search rules

kept-greatest : (before here rest both now all : ℕ) → now ≡ max before here → both ≡ max here rest →
    max before both ≡ all → max now rest ≡ all
kept-greatest before here rest both now all is more whole = omega arith

pub overflow_add-log_n : goal.overflow_add-log_n
overflow_add-log_n g c =
    omega (
      arith,
      small-there c.args.log_blowup c.args.matrices.now c.loop-matrix.matrix-index
          c.matrix-item.result c.loop-matrix-test.true c.matrix-item.is c.requires,
      c.log_n.ensures,
    )

pub loop-matrix-preserved : goal.loop-matrix-preserved
loop-matrix-preserved g c =
    let blowup = c.args.log_blowup in
    kept-greatest _ _ _ _ _ _
    (c.max-greatest.ensures ∙ greater c.loop-matrix.greatest (c.log_n.result + blowup)
    ∙ ap (λ n. max c.loop-matrix.greatest (n + blowup)) c.log_n.ensures)
    (next-height blowup c.args.matrices.now c.loop-matrix.matrix-index c.matrix-item.result
    c.loop-matrix-test.true c.matrix-item.is) c.loop-matrix.invariant

pub returns : goal.returns
returns g c =
    let none = at_drop_all (λ ms. log_max_height c.args.log_blowup (matrix_claims ms))
    c.args.matrices.now c.loop-matrix.matrix-index c.loop-matrix-test.false in
    omega (arith, none, c.loop-matrix.invariant)
