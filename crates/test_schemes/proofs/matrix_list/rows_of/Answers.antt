use Rattle.std.proofs.Common.{◌≡◌, ◌++◌, ◌∷◌, ◌∙◌, [], ap, sym, map, take, arith, get_or}
use Rattle.std.proofs.lemmas.List.{map-append, take_more}
use Rattle.circle_commit.specs.RowMajorMatrix.{rows, height_of}
use Rattle.circle_commit.specs.Mmcs.{max_height, row_at}
use Rattle.circle_merkle.proofs.Heights.{bounded-at}
use Rattle.test_schemes.proofs.matrix_list.rows_of.Goals as goal

pub row_of-requires : goal.row_of-requires
row_of-requires g c =
    omega (
      arith,
      c.requires,
      bounded-at c.args.matrices.now c.loop-matrix.matrix-index c.matrix-item.result
          c.loop-matrix-test.true c.matrix-item.is,
    )

pub loop-matrix-preserved : goal.loop-matrix-preserved
loop-matrix-preserved g c =
    let matrices = c.args.matrices.now in
    let k = c.loop-matrix.matrix-index in
    let m = c.matrix-item.result in
    let f = λ (x : _). get_or (rows x) (row_at (max_height matrices) (height_of x) c.args.index)
    [] in
    let row : c.in_ok-row_of.field-0.items ≡ f m = c.in_ok-row_of.ensures
    ∙ ap (λ t. get_or (rows m) (row_at t (height_of m) c.args.index) []) c.requires in
    ap (map (λ row. row.items)) c.in_ok-push.ensures.items
    ∙ map-append (λ row. row.items) c.loop-matrix.rows.items (c.in_ok-row_of.field-0 ∷ [])
    ∙ ap (λ before. before ++ c.in_ok-row_of.field-0.items ∷ []) c.loop-matrix.invariant
    ∙ ap (λ x. map f (take k matrices) ++ x ∷ []) row
    ∙ sym
    (ap (map f) (take_more matrices k m c.loop-matrix-test.true
    ∙ ap (λ x. take k matrices ++ x ∷ []) (sym c.matrix-item.is))
    ∙ map-append f (take k matrices) (m ∷ []))
