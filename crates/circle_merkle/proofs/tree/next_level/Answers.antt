use Rattle.std.proofs.Common.{◌≡◌, ◌/◌, ◌∙◌, [], ap, sym, get_or, length, map, arith}
use Rattle.std.specs.List.{range_with_len}
use Rattle.std.proofs.lemmas.Result.{IfOk-weaker}
use Rattle.std.proofs.lemmas.List.FromFn.{length-map-range_with_len}
use Rattle.sha2.specs.Sha256.{sha256}
use Rattle.circle_merkle.specs.Messages.{pair_digest}
use Rattle.circle_merkle.specs.RowBytes.{matrix_bytes}
use Rattle.circle_merkle.specs.Tree.{rows_digest}
use Rattle.circle_merkle.specs.Authentication.{IsNextLevel}
use Rattle.circle_merkle.proofs.Levels.{joined-level, plain-level}
use Rattle.circle_merkle.proofs.tree.next_level.Goals as goal

pub returns-then-not-some_has_height : goal.returns-then-not-some_has_height
returns-then-not-some_has_height g c level size under =
    let below = c.args.below.now in
    let half : length below / 2 ≡ c.args.height = omega arith in
    c.in_ok-nodes.ensures
    ∙ ap (λ n. map (pair_digest sha256 1 below) (range_with_len 0 n)) half
    ∙ plain-level g.T.ElementBytes.bytes c.args.matrices.now level c.args.height below size under
    (sym c.some_has_height.ensures ∙ c.if-not-some_has_height.true)

pub returns : goal.returns
returns g c =
    let below = c.args.below.now in
    let pairs = c.in_ok-with_rows.field-0.items in
    let lent = c.deref-3.result.now in
    let half : length below / 2 ≡ c.args.height = omega arith in
    let nodes = c.in_ok-nodes.ensures
    ∙ ap (λ n. map (pair_digest sha256 1 below) (range_with_len 0 n)) half in
    let many : length c.in_ok-nodes.nodes.items ≡ c.args.height = ap length nodes
    ∙ length-map-range_with_len (pair_digest sha256 1 below) 0 c.args.height in
    let same : length c.deref.result.now ≡ c.args.height = ap length c.deref.ensures.value ∙ many in
    let count : length lent / 2 ≡ c.args.height =
    omega (arith, ap length c.deref-3.ensures.value, c.in_ok-with_rows.ensures.count, same) in
    IfOk-weaker c.pairs_level-2.result
    (λ next. next.items ≡ map (pair_digest sha256 2 lent) (range_with_len 0 (length lent / 2)))
    (λ next. IsNextLevel sha256 g.T.ElementBytes.bytes c.args.matrices.now c.args.height below
    next.items)
    (λ next made level size under.
    made
    ∙ ap (λ n. map (pair_digest sha256 2 lent) (range_with_len 0 n)) count
    ∙ ap (λ xs. map (pair_digest sha256 2 xs) (range_with_len 0 c.args.height))
    c.deref-3.ensures.value
    ∙ joined-level g.T.ElementBytes.bytes c.args.matrices.now level c.args.height below size under
    c.in_ok-nodes.nodes.items c.in_ok-rows.rows.items pairs nodes c.in_ok-rows.ensures
    (λ i lt.
    let at = c.in_ok-with_rows.ensures.pairs i (omega (arith, same)) in (
      at.0 ∙ ap (λ xs. get_or xs i []) c.deref.ensures.value,
      at.1 ∙ ap (λ xs. get_or xs i []) c.deref-2.ensures.value,
    ))
    (sym c.some_has_height.ensures ∙ c.if-not-some_has_height.false))
    c.pairs_level-2.ensures

pub with_rows-requires : goal.with_rows-requires
with_rows-requires g c =
    let below = c.args.below.now in
    let bytes = g.T.ElementBytes.bytes in
    let height = c.args.height in
    let half : length below / 2 ≡ height = omega arith in
    let nodes = c.in_ok-nodes.ensures
    ∙ ap (λ n. map (pair_digest sha256 1 below) (range_with_len 0 n)) half in
    ap length (c.deref-2.ensures.value ∙ c.in_ok-rows.ensures)
    ∙ length-map-range_with_len
    (λ i. rows_digest sha256 (matrix_bytes bytes height i c.args.matrices.now)) 0 height
    ∙ sym (ap length (c.deref.ensures.value ∙ nodes)
    ∙ length-map-range_with_len (pair_digest sha256 1 below) 0 height)
