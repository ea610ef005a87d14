use Rattle.std.proofs.Common.{◌≡◌, ℕ, ◌+◌, ◌*◌, ◌/◌, ◌%◌, ◌++◌, [], ◌∙◌, sym, ap, arith, add-one}
use Rattle.std.specs.List.{range_with_len, flat_map}
use Rattle.std.specs.Prelude.{slice_index_or, vec_len}
use Rattle.std.proofs.lemmas.Option.{get_or_from_slice_get}
use Rattle.circle_commit.specs.Matrix.{rows_from}
use Rattle.circle_commit.specs.FlatRows.{flat-more, whole_rows, stored_rows}
use Rattle.circle_commit.specs.RowMajorMatrix.{rows, width_of, height_of, positive_width}
use Rattle.circle_domain.specs.Splitting.{place_of}
use Rattle.circle_domain.proofs.PartPlaces.{place_of-below, part_height, turn_fits}
use Rattle.circle_domain.proofs.PartRows.{wide_rows}
use Rattle.circle_domain.proofs.splitting.rows_of_part.Goals as goal

pub row_in_whole-requires-clause-fits : goal.row_in_whole-requires-clause-fits
row_in_whole-requires-clause-fits g c =
    let m = c.requires.whole.0 in
    let tall =
    part_height c.args.num_chunks m (height_of c.args.evals.now)
    (omega (arith, c.requires.in_range)) c.requires.whole.1 in
    let same : c.height.result / c.args.num_chunks ≡ m * 2 =
    ap (λ h. h / c.args.num_chunks) c.height.ensures ∙ tall in
    let fits = turn_fits c.args.num_chunks m c.loop-r.r (omega (arith, c.loop-r-test.true, same)) in
    omega (arith, fits, c.requires.whole.1, c.height.ensures, c.height.type_inv)

pub row-requires : goal.row-requires
row-requires g c =
    let m = c.requires.whole.0 in
    let tall =
    part_height c.args.num_chunks m (height_of c.args.evals.now)
    (omega (arith, c.requires.in_range)) c.requires.whole.1 in
    let same : c.height.result / c.args.num_chunks ≡ m * 2 =
    ap (λ h. h / c.args.num_chunks) c.height.ensures ∙ tall in
    let below = place_of-below c.args.num_chunks c.args.part c.loop-r.r m c.requires.in_range
    (omega (arith, c.loop-r-test.true, same)) in
    omega (arith, below, c.row_in_whole.ensures, c.requires.whole.1)

pub loop-r-init : goal.loop-r-init
loop-r-init g c = c.in_ok-values.ensures.items

pub loop-r-preserved : goal.loop-r-preserved
loop-r-preserved g c =
    let r = c.loop-r.r in
    let all = rows c.args.evals.now in
    let place = place_of c.args.num_chunks c.args.part in
    let row = λ (i : ℕ). slice_index_or all (place i) [] in
    let before = flat_map row (range_with_len 0 r) in
    let read : c.row.result.now ≡ row r =
    sym (get_or_from_slice_get all c.row_in_whole.result c.row.result.now [] c.row.ensures)
    ∙ ap (λ i. slice_index_or all i []) c.row_in_whole.ensures in
    let here : row r ≡ row (0 + r) = ap row (omega arith) in
    let next : flat_map row (range_with_len 0 (r + 1)) ≡ before ++ row (0 + r) =
    rw add-one (flat-more row 0 r) in
    c.in_ok-extend_from_slice.ensures.items
    ∙ ap (λ entries. entries ++ c.row.result.now) c.loop-r.invariant
    ∙ ap (λ last. before ++ last) (read ∙ here) ∙ sym next

pub new-requires-clause-whole : goal.new-requires-clause-whole
new-requires-clause-whole g c =
    let evals = c.args.evals.now in
    let all = rows evals in
    let row = λ (i : ℕ). slice_index_or all (place_of c.args.num_chunks c.args.part i) [] in
    let height = height_of evals / c.args.num_chunks in
    let values = c.loop-r.values in
    let end : c.loop-r.r ≡ height =
    omega (
      arith,
      c.loop-r-test.false,
      c.loop-r.auto.r-end,
      ap (λ h. h / c.args.num_chunks) c.height.ensures,
    ) in
    let made : values.items ≡ flat_map row (range_with_len 0 height) = c.loop-r.invariant
    ∙ ap (λ m. flat_map row (range_with_len 0 m)) end in
    let wide = wide_rows evals c.args.num_chunks c.args.part c.requires.in_range c.requires.whole in
    ap (λ w. vec_len values % w) c.width.ensures ∙ whole_rows row values.items values.len height
    (width_of evals) made values.ok.0 wide (positive_width evals)

pub returns-clause-rows : goal.returns-clause-rows
returns-clause-rows g c =
    let evals = c.args.evals.now in
    let all = rows evals in
    let row = λ (i : ℕ). slice_index_or all (place_of c.args.num_chunks c.args.part i) [] in
    let height = height_of evals / c.args.num_chunks in
    let values = c.loop-r.values in
    let end : c.loop-r.r ≡ height =
    omega (
      arith,
      c.loop-r-test.false,
      c.loop-r.auto.r-end,
      ap (λ h. h / c.args.num_chunks) c.height.ensures,
    ) in
    let made : values.items ≡ flat_map row (range_with_len 0 height) = c.loop-r.invariant
    ∙ ap (λ m. flat_map row (range_with_len 0 m)) end in
    let wide = wide_rows evals c.args.num_chunks c.args.part c.requires.in_range c.requires.whole in
    c.new.ensures.content ∙ ap (λ w. rows_from w (vec_len values / w) values.items) c.width.ensures
    ∙ stored_rows row values.items values.len height (width_of evals) made values.ok.0 wide
    (positive_width evals)
