use Rattle.std.proofs.Common.{◌∙◌, ap, length}
use Rattle.circle_commit.specs.Matrix.{rows_from}
use Rattle.circle_plane.proofs.Transformed.{holds-rows}
use Rattle.circle_plane.proofs.cfft.copied_rows.Goals as goal

pub returns : goal.returns
returns g c =
    let values = c.args.values.now in
    let width = g.M.MatrixShape.width values in
    let height = g.M.MatrixShape.height values in
    let copied = c.in_ok-copy_of.ensures in
    let holds = holds-rows c.in_ok-copy_of.field-0 height width (g.M.Matrix.rows values) copied.rows
    copied.width (g.met.M.Matrix.height_law values) in
    record {
      length = ap length c.into_values.ensures ∙ holds.long;
      rows = ap (rows_from width height) c.into_values.ensures ∙ holds.same;
    }
