use Rattle.std.proofs.Common.{◌≡◌, ℕ, ◌+◌, ◌/◌, ◌%◌, ◌<◌, ◌++◌, [], ◌∙◌, sym, ap, arith, add-one}
use Rattle.std.proofs.Common.{refl}
use Rattle.std.specs.List.{range_with_len, flat_map}
use Rattle.std.specs.Prelude.{slice_index_or, vec_len}
use Rattle.std.proofs.lemmas.Option.{get_or_from_slice_get}
use Rattle.std.proofs.lemmas.List.FromFn.{fill_by_all}
use Rattle.circle_commit.specs.Matrix.{rows_from}
use Rattle.circle_commit.specs.FlatRows.{flat-more, whole_rows, stored_rows}
use Rattle.circle_commit.proofs.matrix.RowMajorMatrix.copy_of.Goals as goal

pub loop-r-init : goal.loop-r-init
loop-r-init g c = c.in_ok-values.ensures.items

pub loop-r-preserved : goal.loop-r-preserved
loop-r-preserved g c =
    let r = c.loop-r.r in
    let all = g.M.Matrix.rows c.args.matrix.now in
    let row = λ (i : ℕ). slice_index_or all i [] in
    let before = flat_map row (range_with_len 0 r) in
    let read : c.row.result.now ≡ row r =
    sym (get_or_from_slice_get all r c.row.result.now [] c.row.ensures) in
    let here : row r ≡ row (0 + r) = ap row (omega arith) in
    let next : flat_map row (range_with_len 0 (r + 1)) ≡ before ++ row (0 + r) =
    rw add-one (flat-more row 0 r) in
    c.in_ok-extend_from_slice.ensures.items
    ∙ ap (λ entries. entries ++ c.row.result.now) c.loop-r.invariant
    ∙ ap (λ last. before ++ last) (read ∙ here) ∙ sym next

pub new-requires-clause-whole : goal.new-requires-clause-whole
new-requires-clause-whole g c =
    let matrix = c.args.matrix.now in
    let all = g.M.Matrix.rows matrix in
    let row = λ (i : ℕ). slice_index_or all i [] in
    let height = g.M.MatrixShape.height matrix in
    let values = c.loop-r.values in
    let end : c.loop-r.r ≡ height = omega (arith, c.height-height.ensures) in
    let made : values.items ≡ flat_map row (range_with_len 0 height) = c.loop-r.invariant
    ∙ ap (λ m. flat_map row (range_with_len 0 m)) end in
    let wide = λ (i : ℕ) (lt : i < 0 + height). g.met.M.Matrix.width_law matrix i []
    (omega (arith, lt, g.met.M.Matrix.height_law matrix)) in
    let positive = g.met.M.Matrix.width_positive matrix in
    ap (λ w. vec_len values % w) c.width-width.ensures
    ∙ whole_rows row values.items values.len height (g.M.MatrixShape.width matrix) made
    values.ok.0 wide positive

pub returns-clause-rows : goal.returns-clause-rows
returns-clause-rows g c =
    let matrix = c.args.matrix.now in
    let all = g.M.Matrix.rows matrix in
    let row = λ (i : ℕ). slice_index_or all i [] in
    let height = g.M.MatrixShape.height matrix in
    let width = g.M.MatrixShape.width matrix in
    let values = c.loop-r.values in
    let end : c.loop-r.r ≡ height = omega (arith, c.height-height.ensures) in
    let made : values.items ≡ flat_map row (range_with_len 0 height) = c.loop-r.invariant
    ∙ ap (λ m. flat_map row (range_with_len 0 m)) end in
    let wide = λ (i : ℕ) (lt : i < 0 + height). g.met.M.Matrix.width_law matrix i []
    (omega (arith, lt, g.met.M.Matrix.height_law matrix)) in
    c.new.ensures.content ∙ ap (λ w. rows_from w (vec_len values / w) values.items)
    c.width-width.ensures
    ∙ stored_rows row values.items values.len height width made values.ok.0 wide
    (g.met.M.Matrix.width_positive matrix)
    ∙ sym (fill_by_all row all height [] (g.met.M.Matrix.height_law matrix) (λ i lt. refl))
