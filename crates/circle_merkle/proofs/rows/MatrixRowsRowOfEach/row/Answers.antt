use Rattle.std.proofs.Common.{◌≡◌, ◌≤◌, ◌<◌, ◌∙◌, [], ap, sym, subst, arith, length, get_or, Some}
use Rattle.std.proofs.lemmas.List.{get_or-map, get_or_past, length-map}
use Rattle.std.proofs.lemmas.Option.{slice_get-get_or, get_or_from_slice_get}
use Rattle.circle_commit.specs.RowMajorMatrix.{rows, width_of, height_of, length-rows}
use Rattle.circle_commit.specs.declared.matrix.Dimensions.{Dimensions}
use Rattle.circle_commit.specs.declared.matrix.RowMajorMatrix.{RowMajorMatrix}
use Rattle.circle_merkle.specs.Rows.{rows_of}
use Rattle.circle_merkle.specs.RowBytes.{matrices_one_each}
use Rattle.circle_merkle.proofs.rows.MatrixRowsRowOfEach.row.Goals as goal

pub returns : goal.returns
returns g c =
    let matrices = c.args.self.now.matrices.now in
    let i = c.args.self.now.i in
    let j = c.args.j in
    let m = c.index-self-j.result in
    let f = λ (x : RowMajorMatrix g.row.T.Denot). get_or (rows x) i [] in
    let short : j < length matrices =
    omega (arith, c.requires, matrices_one_each matrices i, length-map matrices f) in
    let within : j < length (rows_of matrices i) = omega (arith, short, length-map matrices f) in
    let high : c.height.result ≡ height_of m = c.height.ensures
    ∙ ap height_of (sym c.index-self-j.is) in
    let past : c.height.result ≤ i = c.if-self-height.false in
    let long : length (rows m) ≤ i = omega (arith, length-rows m, high, past) in
    slice_get-get_or (rows_of matrices i) j [] within
    ∙ ap Some (get_or-map f matrices j m [] short ∙ ap f (sym c.index-self-j.is)
    ∙ get_or_past (rows m) i [] long)

pub bounds-self-j : goal.bounds-self-j
bounds-self-j g c =
    let shape = λ (m : RowMajorMatrix g.row.T.Denot). let d : Dimensions =
    record { width = width_of m; height = height_of m } in d in
    subst (λ n. c.args.j < n) (length-map c.args.self.now.matrices.now shape) c.requires

pub row-requires : goal.row-requires
row-requires g c = subst (λ h. c.args.self.now.i < h) c.height.ensures c.if-self-height.true

pub returns-then-self-height : goal.returns-then-self-height
returns-then-self-height g c =
    let matrices = c.args.self.now.matrices.now in
    let i = c.args.self.now.i in
    let j = c.args.j in
    let m = c.index-self-j.result in
    let f = λ (x : RowMajorMatrix g.row.T.Denot). get_or (rows x) i [] in
    let shape = λ (m : RowMajorMatrix g.row.T.Denot). let d : Dimensions =
    record { width = width_of m; height = height_of m } in d in
    let short : j < length matrices = subst (λ n. j < n) (length-map matrices shape) c.requires in
    let within : j < length (rows_of matrices i) =
    subst (λ n. j < n) (sym (length-map matrices f)) short in
    slice_get-get_or (rows_of matrices i) j [] within
    ∙ ap Some (get_or-map f matrices j m [] short
    ∙ get_or_from_slice_get (rows (get_or matrices j m)) i c.row.result.now [] c.row.ensures)
