use Rattle.std.proofs.Common.{◌<◌, ◌∙◌, sym, ap, subst, length}
use Rattle.std.proofs.lemmas.List.{length-map, get_or-map}
use Rattle.circle_commit.specs.declared.matrix.Dimensions.{Dimensions}
use Rattle.circle_commit.specs.declared.matrix.RowMajorMatrix.{RowMajorMatrix}
use Rattle.circle_commit.specs.RowMajorMatrix.{width_of, height_of}
use Rattle.circle_merkle.proofs.rows.MatrixRowsRowOfEach.height.Goals as goal

pub bounds-self-j : goal.bounds-self-j
bounds-self-j g c =
    let shape = λ (m : RowMajorMatrix g.row.T.Denot). let d : Dimensions =
    record { width = width_of m; height = height_of m } in d in
    subst (λ n. c.args.j < n) (length-map c.args.self.now.matrices.now shape) c.requires

pub returns : goal.returns
returns g c d =
    let shape = λ (m : RowMajorMatrix g.row.T.Denot). let d : Dimensions =
    record { width = width_of m; height = height_of m } in d in
    let matrices = c.args.self.now.matrices.now in
    let short : c.args.j < length matrices =
    subst (λ n. c.args.j < n) (length-map matrices shape) c.requires in
    c.height.ensures
    ∙ sym
    (ap (λ d. d.height) (get_or-map shape matrices c.args.j c.index-self-j.result d short))
