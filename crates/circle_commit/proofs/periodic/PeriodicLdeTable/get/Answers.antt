use Rattle.std.proofs.Common.{◌≡◌, ℕ, List, ◌<◌, ◌%◌, ◌∙◌, [], sym, ap, length, arith, Some}
use Rattle.std.specs.Prelude.{slice_get, slice_index_or}
use Rattle.std.proofs.lemmas.Option.{get_or_from_slice_get, slice_get-get_or, slice_get_within}
use Rattle.circle_commit.specs.PeriodicLdeTable.{width_in, height_in, rows_in}
use Rattle.circle_commit.specs.RowMajorMatrix.{rows, width_of, rows-width}
use Rattle.circle_commit.specs.declared.matrix.RowMajorMatrix.{RowMajorMatrix}
use Rattle.circle_commit.proofs.periodic.PeriodicLdeTable.get.Goals as goal

row-long : {T : Type 0} (m : RowMajorMatrix T) (r : ℕ) (row : List T) → slice_get (rows m) r
    ≡ Some row → length row ≡ width_of m
row-long m r row e = ap length (sym (get_or_from_slice_get (rows m) r row [] e))
    ∙ rows-width m r [] (slice_get_within (rows m) r row e)

pub bounds-row-c : goal.bounds-row-c
bounds-row-c g c =
    let long = row-long c.in-Some.matrix (c.args.i % c.height.result) c.row.result.now
    c.row.ensures in
    omega (arith, c.requires.column, ap width_in c.in-Some.is, long)

pub offset_bounds-row-c : goal.offset_bounds-row-c
offset_bounds-row-c g c =
    let long = row-long c.in-Some.matrix (c.args.i % c.height.result) c.row.result.now
    c.row.ensures in
    omega (arith, c.requires.column, ap width_in c.in-Some.is, long)

pub returns : goal.returns
returns g c =
    let m = c.in-Some.matrix in
    let row = c.row.result.now in
    let r = c.args.i % c.height.result in
    let there : c.args.c < length row =
    omega (
      arith,
      c.requires.column,
      ap width_in c.in-Some.is,
      row-long m r row c.row.ensures,
    ) in
    ap (λ values. slice_get (slice_index_or (rows_in values) (c.args.i % height_in values) [])
    c.args.c) c.in-Some.is
    ∙ ap (λ h. slice_get (slice_index_or (rows m) (c.args.i % h) []) c.args.c)
    (sym c.height.ensures)
    ∙ ap (λ xs. slice_get xs c.args.c) (get_or_from_slice_get (rows m) r row [] c.row.ensures)
    ∙ slice_get-get_or row c.args.c c.index-row-c.result there
    ∙ ap Some (sym c.index-row-c.is)
