use Rattle.std.proofs.Common.{◌≡◌, ◌/◌, ◌∙◌, ap, length, vec_len, arith}
use Rattle.circle_commit.specs.Matrix.{rows_from}
use Rattle.circle_commit.specs.RowFacts.{rows_from-single}
use Rattle.circle_commit.proofs.matrix.RowMajorMatrix.new_col.Goals as goal

pub returns-clause-content : goal.returns-clause-content
returns-clause-content g c =
    let values = c.args.values in
    let long : vec_len values / 1 ≡ length values.items = omega (arith, values.ok.0) in
    ap (λ n. rows_from 1 n values.items) long ∙ rows_from-single values.items
