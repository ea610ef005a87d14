use Rattle.std.proofs.Common.{◌≡◌, ◌<◌, ◌+◌, ◌-◌, ◌*◌, ◌/◌, ◌^◌, ◌++◌, ◌∷◌, [], ◌∙◌, ap, sym, map}
use Rattle.std.proofs.Common.{length, suc, arith, ℕ, add-one}
use Rattle.std.specs.List.{range_with_len}
use Rattle.std.proofs.lemmas.List.FromFn.{length-map-range_with_len}
use Rattle.sha2.specs.Sha256.{sha256}
use Rattle.circle_commit.specs.Mmcs.{dimensions_of}
use Rattle.circle_merkle.specs.RowBytes.{matrix_bytes}
use Rattle.circle_merkle.specs.Tree.{digest, rows_digest}
use Rattle.circle_merkle.specs.Rows.{size_of, matrix_rows}
use Rattle.circle_merkle.proofs.Maps.{items-at, items-count, items-more, map-agree}
use Rattle.circle_merkle.proofs.TreeSteps.{digest-lowest}
use Rattle.circle_merkle.proofs.Powers.{halves, level_size}
use Rattle.circle_merkle.proofs.tree.levels_of.Goals as goal

next_small : {level count : ℕ} → level < count → count < 64 → level + 1 < 64
next_small below small = omega arith

pub loop-level-init : goal.loop-level-init
loop-level-init g c =
    let count = c.log2_strict-count.result in
    let power : 2 ^ count ≡ c.args.top = c.log2_strict-count.ensures.power in
    let h = digest sha256 (matrix_rows g.T.ElementBytes.bytes c.args.matrices.now) 0 in
    let size : size_of (dimensions_of c.args.matrices.now) 0 ≡ c.args.top =
    omega (arith, c.requires.greatest) in
    let whole : c.args.top ≡ 2 ^ (count - 0) =
    sym power ∙ (let same : count ≡ count - 0 = omega arith in ap (λ k. 2 ^ k) same) in
    ap (map (λ level. level.items))
    (c.in_ok-push.ensures.items ∙ ap (λ before. before ++ c.in_ok-rows_level.field-0 ∷ [])
    c.in_ok-levels.ensures.items)
    ∙ ap (λ level. level ∷ [])
    (c.in_ok-rows_level.ensures
    ∙ map-agree
    (λ i. rows_digest sha256
    (matrix_bytes g.T.ElementBytes.bytes c.args.top i c.args.matrices.now)) h 0 c.args.top
    (λ i lt. digest-lowest sha256 g.T.ElementBytes.bytes c.args.matrices.now c.args.top i size))
    ∙ ap (λ n. map h (range_with_len 0 n) ∷ []) whole

pub index-requires : goal.index-requires
index-requires g c =
    let count = c.log2_strict-count.result in
    let f =
    λ (level : ℕ). map
    (digest sha256 (matrix_rows g.T.ElementBytes.bytes c.args.matrices.now) level)
    (range_with_len 0 (2 ^ (count - level))) in
    omega (
      arith,
      items-count f (c.loop-level.level + 1) c.loop-level.levels.items
          c.loop-level.invariant,
      c.loop-level.levels.ok.0,
    )

pub next_level-requires : goal.next_level-requires
next_level-requires g c =
    let count = c.log2_strict-count.result in
    let level = c.loop-level.level in
    let f =
    λ (level : ℕ). map
    (digest sha256 (matrix_rows g.T.ElementBytes.bytes c.args.matrices.now) level)
    (range_with_len 0 (2 ^ (count - level))) in
    let power : 2 ^ count ≡ c.args.top = c.log2_strict-count.ensures.power in
    let below = c.deref.ensures.value ∙ items-at f (level + 1) level c.loop-level.levels.items
    c.index.result.now c.loop-level.invariant (omega arith) c.index.ensures in
    ap length below
    ∙ length-map-range_with_len
    (digest sha256 (matrix_rows g.T.ElementBytes.bytes c.args.matrices.now) level) 0
    (2 ^ (count - level))
    ∙ halves count level (omega arith)
    ∙ ap (λ n. 2 * n) (sym (level_size c.args.top count (level + 1) (sym power) (omega arith)))

pub loop-level-preserved : goal.loop-level-preserved
loop-level-preserved g c =
    let count = c.log2_strict-count.result in
    let level = c.loop-level.level in
    let rows = matrix_rows g.T.ElementBytes.bytes c.args.matrices.now in
    let f =
    λ (level : ℕ). map (digest sha256 rows level) (range_with_len 0 (2 ^ (count - level))) in
    let power : 2 ^ count ≡ c.args.top = c.log2_strict-count.ensures.power in
    let size = level_size c.args.top count (level + 1) (sym power) (omega arith) in
    let above : size_of (dimensions_of c.args.matrices.now) (suc level) ≡ c.args.top / 2 ^
    (level + 1) =
    ap (λ n. n / 2 ^ suc level) (sym c.requires.greatest)
    ∙ ap (λ k. c.args.top / 2 ^ k) (sym (add-one level)) in
    let below = c.deref.ensures.value ∙ items-at f (level + 1) level c.loop-level.levels.items
    c.index.result.now c.loop-level.invariant (omega arith) c.index.ensures
    ∙ ap (λ n. map (digest sha256 rows level) (range_with_len 0 n))
    (halves count level (omega arith) ∙ ap (λ n. 2 * n) (sym size)) in
    let next : c.in_ok-next.next.items ≡ f (level + 1) =
    c.in_ok-next.ensures level above below
    ∙ ap (λ n. map (digest sha256 rows (suc level)) (range_with_len 0 n)) size
    ∙ ap (λ k. map (digest sha256 rows k) (range_with_len 0 (2 ^ (count - (level + 1)))))
    (sym (add-one level)) in
    ap (map (λ level. level.items)) c.in_ok-push-2.ensures.items
    ∙ items-more f (level + 1) c.loop-level.levels.items c.in_ok-next.next c.loop-level.invariant
    next

pub returns : goal.returns
returns g c count e =
    let r = c.log2_strict-count.result in
    let rows = matrix_rows g.T.ElementBytes.bytes c.args.matrices.now in
    let same : count ≡ r = sym (c.log2_strict-count.ensures.only count e) in
    let end : c.loop-level.level ≡ count = omega arith in
    c.loop-level.invariant
    ∙ ap (λ n. map (λ level. map (digest sha256 rows level) (range_with_len 0 (2 ^ (n - level))))
    (range_with_len 0 (c.loop-level.level + 1))) (sym same)
    ∙ ap
    (λ n. map (λ level. map (digest sha256 rows level) (range_with_len 0 (2 ^ (count - level))))
    (range_with_len 0 (n + 1))) end

pub overflow_add-count : goal.overflow_add-count
overflow_add-count g c = omega (arith, c.log2_strict-count.ensures.bound)

pub overflow_add-level : goal.overflow_add-level
overflow_add-level g c =
    (let small : c.loop-level.level + 1 < 64 =
    next_small c.loop-level-test.true c.log2_strict-count.ensures.bound in omega (arith, small))

pub overflow_shr-top : goal.overflow_shr-top
overflow_shr-top g c = next_small c.loop-level-test.true c.log2_strict-count.ensures.bound
