use Rattle.std.proofs.Common.{◌≡◌, ◌+◌, ◌^◌, ◌<◌, ◌≤◌, ◌∙◌, ℕ, List, [], ◌∷◌, ◌++◌, All, length}
use Rattle.std.proofs.Common.{get_or, take, map, sym, ap, ap₂, subst, arith}
use Rattle.std.proofs.lemmas.List.{take_all, map_more}
use Rattle.std.proofs.lemmas.Simd.{map-map}
use Rattle.std.proofs.lemmas.Nat.{one_shl}
use Rattle.circle_commit.specs.declared.matrix.Dimensions.{Dimensions}
use Rattle.circle_commit.specs.declared.pcs.MatrixOpening.{MatrixOpening}
use Rattle.circle_domain.specs.declared.domain.CircleDomain.{CircleDomain}
use Rattle.circle_domain.specs.Domain.{log_size}
use Rattle.circle_relation.specs.StatementOf.{matrix_claim}
use Rattle.circle_verifier.specs.Batches.{claimed_width, claimed_shape}
use Rattle.circle_verifier.proofs.batches.claimed_shapes.Goals as goal

module _ {E F : Type 0} {g : _} (blowup : ℕ) (ms : List (MatrixOpening E (CircleDomain F g)))
    (i : ℕ) (m : MatrixOpening E (CircleDomain F g)) (within : i < length ms)
    (is : m ≡ get_or ms i m) where
  small-there : All (λ d. log_size d.domain + blowup ≤ 62) ms → log_size m.domain + blowup ≤ 62
  small-there all = subst (λ d. log_size d.domain + blowup ≤ 62) (sym is) (all i m within)

  shapes-more : (shapes : List Dimensions) (width height : ℕ) →
      shapes ≡ map (λ m. claimed_shape blowup (matrix_claim m)) (take i ms) →
      width ≡ claimed_width (matrix_claim m) → height ≡ 2 ^ (log_size m.domain + blowup) →
      shapes ++ (record { width = width; height = height }) ∷ []
      ≡ map (λ m. claimed_shape blowup (matrix_claim m)) (take (i + 1) ms)
  shapes-more shapes width height before wide high =
      let shape : MatrixOpening E (CircleDomain F g) → Dimensions =
      λ m. claimed_shape blowup (matrix_claim m) in
      let one : ℕ → ℕ → Dimensions = λ w h. record { width = w; height = h } in
      ap (λ ss. ss ++ one width height ∷ []) before
      ∙ ap (λ s. map shape (take i ms) ++ s ∷ []) (ap₂ one wide high ∙ ap shape is)
      ∙ sym (map_more shape ms i m within)

pub overflow_add-log_n : goal.overflow_add-log_n
overflow_add-log_n g c =
    omega (
      arith,
      small-there c.args.log_blowup c.args.matrices.now c.loop-matrix.matrix-index
          c.matrix-item.result c.loop-matrix-test.true c.matrix-item.is c.requires,
      c.log_n.ensures,
    )

pub overflow_shl-log_n : goal.overflow_shl-log_n
overflow_shl-log_n g c =
    omega (
      arith,
      small-there c.args.log_blowup c.args.matrices.now c.loop-matrix.matrix-index
          c.matrix-item.result c.loop-matrix-test.true c.matrix-item.is c.requires,
      c.log_n.ensures,
    )

pub loop-matrix-preserved : goal.loop-matrix-preserved
loop-matrix-preserved g c =
    let blowup = c.args.log_blowup in
    let matrices = c.args.matrices.now in
    let i = c.loop-matrix.matrix-index in
    let m = c.matrix-item.result in
    let small = small-there blowup matrices i m c.loop-matrix-test.true c.matrix-item.is
    c.requires in
    let few : c.log_n.result + blowup < 64 = omega (arith, small, c.log_n.ensures) in
    c.in_ok-push.ensures.items
    ∙ shapes-more blowup matrices i m c.loop-matrix-test.true c.matrix-item.is
    c.loop-matrix.shapes.items _ _ c.loop-matrix.invariant
    c.claimed_width.ensures (one_shl (c.log_n.result + blowup) 64 few
    ∙ ap (λ n. 2 ^ (n + blowup)) c.log_n.ensures)

pub returns : goal.returns
returns g c =
    let matrices = c.args.matrices.now in
    c.loop-matrix.invariant
    ∙ ap (map (λ m. claimed_shape c.args.log_blowup (matrix_claim m)))
    (take_all c.loop-matrix.matrix-index matrices c.loop-matrix-test.false)
    ∙ sym (map-map (claimed_shape c.args.log_blowup) matrix_claim matrices)
