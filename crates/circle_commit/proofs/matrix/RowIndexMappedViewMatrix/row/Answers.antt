use Rattle.std.proofs.Common.{◌∙◌, ap, slice_get, sym}
use Rattle.circle_commit.specs.RowFacts.{mapped_rows-row}
use Rattle.circle_commit.proofs.matrix.RowIndexMappedViewMatrix.row.Goals as goal

pub returns : goal.returns
returns g c =
    let v = c.args.self.now in
    mapped_rows-row (g.Map.RowIndexMap.map_row_index v.index_map)
    (g.Map.RowIndexMap.height v.index_map) c.args.r
    (g.M.Matrix.rows v.inner) c.row.result.now c.requires
    (ap (slice_get (g.M.Matrix.rows v.inner)) (sym c.map_row_index.ensures) ∙ c.row.ensures)
