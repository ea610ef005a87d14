use Rattle.std.proofs.Common.{◌≡◌, ◌++◌, ◌∷◌, ◌∙◌, [], ap, sym, map, take, arith, get_or}
use Rattle.std.proofs.lemmas.List.{map-append, take_all, take_more}
use Rattle.std.proofs.lemmas.Option.{get_or_from_slice_get}
use Rattle.circle_commit.specs.RowMajorMatrix.{rows, height_of}
use Rattle.circle_commit.specs.Mmcs.{max_height, row_at}
use Rattle.circle_merkle.proofs.Heights.{max-power, power-at, bounded-at, row-at}
use Rattle.circle_merkle.proofs.mmcs.rows_of.Goals as goal

pub row_at-requires-clause-greatest : goal.row_at-requires-clause-greatest
row_at-requires-clause-greatest g c =
    let power = max-power c.args.matrices.now (omega (arith, c.loop-matrix-test.true))
    c.requires.powers_of_two in
    (power.0, c.requires.greatest ∙ power.1)

pub row_at-requires-clause-power : goal.row_at-requires-clause-power
row_at-requires-clause-power g c =
    let power = power-at c.args.matrices.now c.requires.powers_of_two c.loop-matrix.matrix-index
    c.matrix-item.result c.loop-matrix-test.true c.matrix-item.is in
    (power.0, c.height.ensures ∙ power.1)

pub row_at-requires-clause-within : goal.row_at-requires-clause-within
row_at-requires-clause-within g c =
    omega (
      arith,
      c.height.ensures,
      c.requires.greatest,
      bounded-at c.args.matrices.now c.loop-matrix.matrix-index c.matrix-item.result
          c.loop-matrix-test.true c.matrix-item.is,
    )

pub row-row-requires : goal.row-row-requires
row-row-requires g c =
    let matrices = c.args.matrices.now in
    let m = c.matrix-item.result in
    let e : c.row_at.result ≡ row_at (max_height matrices) (height_of m) c.args.index =
    c.row_at.ensures ∙ ap (λ t. row_at t c.height.result c.args.index) c.requires.greatest
    ∙ ap (λ h. row_at (max_height matrices) h c.args.index) c.height.ensures in
    omega (
      arith,
      e,
      row-at matrices c.requires.powers_of_two c.loop-matrix.matrix-index m
          c.loop-matrix-test.true c.matrix-item.is c.args.index
          (omega (arith, c.requires.in_range, c.requires.greatest)),
    )

pub loop-matrix-preserved : goal.loop-matrix-preserved
loop-matrix-preserved g c =
    let matrices = c.args.matrices.now in
    let k = c.loop-matrix.matrix-index in
    let m = c.matrix-item.result in
    let index = c.args.index in
    let f = λ (x : _). get_or (rows x) (row_at (max_height matrices) (height_of x) index) [] in
    let e : c.row_at.result ≡ row_at (max_height matrices) (height_of m) index =
    c.row_at.ensures ∙ ap (λ t. row_at t c.height.result index) c.requires.greatest
    ∙ ap (λ h. row_at (max_height matrices) h index) c.height.ensures in
    let row : c.in_ok-from_slice.field-0.items ≡ f m =
    c.in_ok-from_slice.ensures.items
    ∙ sym
    (get_or_from_slice_get (rows m) (c.row_at.result) c.row-row.result.now [] c.row-row.ensures)
    ∙ ap (λ r. get_or (rows m) r []) e in
    ap (map (λ row. row.items)) c.in_ok-push.ensures.items
    ∙ map-append (λ row. row.items) c.loop-matrix.rows.items (c.in_ok-from_slice.field-0 ∷ [])
    ∙ ap (λ before. before ++ c.in_ok-from_slice.field-0.items ∷ []) c.loop-matrix.invariant
    ∙ ap (λ x. map f (take k matrices) ++ x ∷ []) row
    ∙ sym
    (ap (map f) (take_more matrices k m c.loop-matrix-test.true
    ∙ ap (λ x. take k matrices ++ x ∷ []) (sym c.matrix-item.is))
    ∙ map-append f (take k matrices) (m ∷ []))

pub loop-matrix-init : goal.loop-matrix-init
loop-matrix-init g c = ap (map (λ row. row.items)) c.in_ok-rows.ensures.items

pub returns : goal.returns
returns g c = c.loop-matrix.invariant
    ∙ ap
    (λ ms. map
    (λ m. get_or (rows m) (row_at (max_height c.args.matrices.now) (height_of m) c.args.index) [])
    ms) (take_all c.loop-matrix.matrix-index c.args.matrices.now c.loop-matrix-test.false)
