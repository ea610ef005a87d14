use Rattle.std.proofs.Common.{◌≡◌, ◌+◌, ◌++◌, ◌∙◌, sym, ap, length, map, arith, add-one}
use Rattle.std.specs.List.{range_with_len, flat_map}
use Rattle.std.proofs.lemmas.List.{length-map}
use Rattle.circle_commit.specs.FlatRows.{flat-more, whole_rows, stored_rows}
use Rattle.circle_plane.specs.PeriodicRows.{table_row}
use Rattle.circle_plane.proofs.PeriodicTables.{length-table_row}
use Rattle.circle_plane.proofs.periodic.repeated_rows.Goals as goal

pub loop-r-preserved : goal.loop-r-preserved
loop-r-preserved g c =
    let r = c.loop-r.r in
    let row = table_row g.F.Operations.ops.zero (map (λ column. column.items) c.args.columns.now) in
    let before = flat_map row (range_with_len 0 r) in
    let here : row r ≡ row (0 + r) = ap row (omega arith) in
    let next : flat_map row (range_with_len 0 (r + 1)) ≡ before ++ row (0 + r) =
    rw add-one (flat-more row 0 r) in
    c.in_ok-append_row.ensures
    ∙ ap (λ entries. entries ++ row r) c.loop-r.invariant
    ∙ ap (λ last. before ++ last) here ∙ sym next

pub new-requires-clause-whole : goal.new-requires-clause-whole
new-requires-clause-whole g c =
    let columns = map (λ column. column.items) c.args.columns.now in
    let count : length columns ≡ length c.args.columns.now =
    length-map c.args.columns.now (λ column. column.items) in
    let row = table_row g.F.Operations.ops.zero columns in
    let values = c.loop-r.values in
    let end : c.loop-r.r ≡ c.args.height =
    omega (arith, c.loop-r-test.false, c.loop-r.auto.r-end) in
    whole_rows row values.items values.len c.args.height (length c.args.columns.now)
    (c.loop-r.invariant ∙ ap (λ n. flat_map row (range_with_len 0 n)) end) values.ok.0
    (λ i lt. length-table_row g.F.Operations.ops.zero columns i ∙ count) c.requires.some

pub returns-clause-rows : goal.returns-clause-rows
returns-clause-rows g c =
    let columns = map (λ column. column.items) c.args.columns.now in
    let count : length columns ≡ length c.args.columns.now =
    length-map c.args.columns.now (λ column. column.items) in
    let row = table_row g.F.Operations.ops.zero columns in
    let values = c.loop-r.values in
    let end : c.loop-r.r ≡ c.args.height =
    omega (arith, c.loop-r-test.false, c.loop-r.auto.r-end) in
    c.new.ensures.content
    ∙ stored_rows row values.items values.len c.args.height (length c.args.columns.now)
    (c.loop-r.invariant ∙ ap (λ n. flat_map row (range_with_len 0 n)) end) values.ok.0
    (λ i lt. length-table_row g.F.Operations.ops.zero columns i ∙ count) c.requires.some
