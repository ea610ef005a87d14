use Rattle.std.proofs.Common.{◌≡◌, ℕ, ◌+◌, ◌/◌, ◌%◌, ◌<◌, ◌++◌, [], ◌∙◌, sym, ap, arith, add-one}
use Rattle.std.proofs.Common.{refl, length, map}
use Rattle.std.specs.List.{range_with_len, flat_map}
use Rattle.std.specs.Prelude.{slice_index_or, vec_len}
use Rattle.std.proofs.lemmas.List.{get_or-map, length-map}
use Rattle.std.proofs.lemmas.List.FromFn.{fill_by_all}
use Rattle.circle_commit.specs.Matrix.{rows_from}
use Rattle.circle_commit.specs.FlatRows.{flat-more, whole_rows, stored_rows}
use Rattle.circle_quotient.proofs.chunks.coefficient_rows.Goals as goal

pub loop-element-preserved : goal.loop-element-preserved
loop-element-preserved g c =
    let coefficients = g.EF.ExtensionField.coefficients in
    let elements = c.args.elements.now in
    let i = c.loop-element.element-index in
    let element = c.element-item.result in
    let row = λ (j : ℕ). slice_index_or (map coefficients elements) j [] in
    let before = flat_map row (range_with_len 0 i) in
    let read : coefficients element ≡ row i = ap coefficients c.element-item.is
    ∙ sym (get_or-map coefficients elements i element [] c.loop-element-test.true) in
    let here : row i ≡ row (0 + i) = ap row (omega arith) in
    let next : flat_map row (range_with_len 0 (i + 1)) ≡ before ++ row (0 + i) =
    rw add-one (flat-more row 0 i) in
    c.in_ok-push_coefficients.ensures
    ∙ ap (λ entries. entries ++ coefficients element) c.loop-element.invariant
    ∙ ap (λ last. before ++ last) (read ∙ here) ∙ sym next

pub new-requires-clause-whole : goal.new-requires-clause-whole
new-requires-clause-whole g c =
    let coefficients = g.EF.ExtensionField.coefficients in
    let elements = c.args.elements.now in
    let row = λ (j : ℕ). slice_index_or (map coefficients elements) j [] in
    let values = c.loop-element.coefficients in
    let end : c.loop-element.element-index ≡ length elements =
    omega (arith, c.loop-element-test.false, c.loop-element.auto.element-index-end) in
    let made : values.items ≡ flat_map row (range_with_len 0 (length elements)) =
    c.loop-element.invariant
    ∙ ap (λ n. flat_map row (range_with_len 0 n)) end in
    let wide = λ (i : ℕ) (lt : i < 0 + length elements).
    ap length (get_or-map coefficients elements i g.EF.Operations.ops.zero [] (omega (arith, lt)))
    ∙ g.met.EF.ExtensionField.are_coefficients.count
    (slice_index_or elements i g.EF.Operations.ops.zero) in
    ap (λ w. vec_len values % w) c.DEGREE-2.ensures
    ∙ whole_rows row values.items values.len (length elements) g.EF.ExtensionField.DEGREE made
    values.ok.0 wide g.met.EF.ExtensionField.degree_positive

pub returns-clause-rows : goal.returns-clause-rows
returns-clause-rows g c =
    let coefficients = g.EF.ExtensionField.coefficients in
    let elements = c.args.elements.now in
    let row = λ (j : ℕ). slice_index_or (map coefficients elements) j [] in
    let values = c.loop-element.coefficients in
    let end : c.loop-element.element-index ≡ length elements =
    omega (arith, c.loop-element-test.false, c.loop-element.auto.element-index-end) in
    let made : values.items ≡ flat_map row (range_with_len 0 (length elements)) =
    c.loop-element.invariant
    ∙ ap (λ n. flat_map row (range_with_len 0 n)) end in
    let wide = λ (i : ℕ) (lt : i < 0 + length elements).
    ap length (get_or-map coefficients elements i g.EF.Operations.ops.zero [] (omega (arith, lt)))
    ∙ g.met.EF.ExtensionField.are_coefficients.count
    (slice_index_or elements i g.EF.Operations.ops.zero) in
    c.new.ensures.content ∙ ap (λ w. rows_from w (vec_len values / w) values.items)
    c.DEGREE-2.ensures
    ∙ stored_rows row values.items values.len (length elements) g.EF.ExtensionField.DEGREE made
    values.ok.0 wide g.met.EF.ExtensionField.degree_positive
    ∙ sym
    (fill_by_all row (map coefficients elements) (length elements) []
    (length-map elements coefficients)
    (λ i lt. refl))
