use Rattle.std.proofs.Common.{◌≡◌, ℕ, ◌+◌, ◌/◌, ◌%◌, ◌<◌, ◌++◌, [], ◌∙◌, sym, ap, arith, add-one}
use Rattle.std.proofs.Common.{refl, length, map}
use Rattle.std.specs.List.{range_with_len, flat_map}
use Rattle.std.specs.Prelude.{slice_index_or, vec_len}
use Rattle.std.proofs.lemmas.List.{get_or-map, length-map}
use Rattle.std.proofs.lemmas.List.FromFn.{fill_by_all}
use Rattle.circle_commit.specs.Matrix.{rows_from}
use Rattle.circle_commit.specs.FlatRows.{flat-more, whole_rows, stored_rows}
use Rattle.circle_codewords.proofs.combined.coefficient_rows.Goals as goal

pub loop-entry-preserved : goal.loop-entry-preserved
loop-entry-preserved g c =
    let coefficients = g.EF.ExtensionField.coefficients in
    let word = c.args.word.now in
    let i = c.loop-entry.entry-index in
    let entry = c.entry-item.result in
    let row = λ (j : ℕ). slice_index_or (map coefficients word) j [] in
    let before = flat_map row (range_with_len 0 i) in
    let read : coefficients entry ≡ row i = ap coefficients c.entry-item.is
    ∙ sym (get_or-map coefficients word i entry [] c.loop-entry-test.true) in
    let here : row i ≡ row (0 + i) = ap row (omega arith) in
    let next : flat_map row (range_with_len 0 (i + 1)) ≡ before ++ row (0 + i) =
    rw add-one (flat-more row 0 i) in
    c.in_ok-push_coefficients.ensures
    ∙ ap (λ entries. entries ++ coefficients entry) c.loop-entry.invariant
    ∙ ap (λ last. before ++ last) (read ∙ here) ∙ sym next

pub new-requires-clause-whole : goal.new-requires-clause-whole
new-requires-clause-whole g c =
    let coefficients = g.EF.ExtensionField.coefficients in
    let word = c.args.word.now in
    let row = λ (j : ℕ). slice_index_or (map coefficients word) j [] in
    let values = c.loop-entry.values in
    let end : c.loop-entry.entry-index ≡ length word =
    omega (arith, c.loop-entry-test.false, c.loop-entry.auto.entry-index-end) in
    let made : values.items ≡ flat_map row (range_with_len 0 (length word)) = c.loop-entry.invariant
    ∙ ap (λ n. flat_map row (range_with_len 0 n)) end in
    let wide = λ (i : ℕ) (lt : i < 0 + length word).
    ap length (get_or-map coefficients word i g.EF.Operations.ops.zero [] (omega (arith, lt)))
    ∙ g.met.EF.ExtensionField.are_coefficients.count
    (slice_index_or word i g.EF.Operations.ops.zero) in
    ap (λ w. vec_len values % w) c.DEGREE-2.ensures
    ∙ whole_rows row values.items values.len (length word) g.EF.ExtensionField.DEGREE made
    values.ok.0 wide g.met.EF.ExtensionField.degree_positive

pub returns-clause-rows : goal.returns-clause-rows
returns-clause-rows g c =
    let coefficients = g.EF.ExtensionField.coefficients in
    let word = c.args.word.now in
    let row = λ (j : ℕ). slice_index_or (map coefficients word) j [] in
    let values = c.loop-entry.values in
    let end : c.loop-entry.entry-index ≡ length word =
    omega (arith, c.loop-entry-test.false, c.loop-entry.auto.entry-index-end) in
    let made : values.items ≡ flat_map row (range_with_len 0 (length word)) = c.loop-entry.invariant
    ∙ ap (λ n. flat_map row (range_with_len 0 n)) end in
    let wide = λ (i : ℕ) (lt : i < 0 + length word).
    ap length (get_or-map coefficients word i g.EF.Operations.ops.zero [] (omega (arith, lt)))
    ∙ g.met.EF.ExtensionField.are_coefficients.count
    (slice_index_or word i g.EF.Operations.ops.zero) in
    c.new.ensures.content ∙ ap (λ w. rows_from w (vec_len values / w) values.items)
    c.DEGREE-2.ensures
    ∙ stored_rows row values.items values.len (length word) g.EF.ExtensionField.DEGREE made
    values.ok.0 wide g.met.EF.ExtensionField.degree_positive
    ∙ sym (fill_by_all row (map coefficients word) (length word) [] (length-map word coefficients)
    (λ i lt. refl))
