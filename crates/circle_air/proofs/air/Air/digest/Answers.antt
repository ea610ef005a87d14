use Rattle.std.proofs.Common.{[]}
use Rattle.circle_air.proofs.Texts.{listed_map}
use Rattle.circle_air.specs.Text.{column_text}
use Rattle.circle_air.proofs.air.Air.digest.Goals as goal

pub returns : goal.returns
returns g c =
    let name = c.update.ensures [] c.new-hasher.ensures in
    let version = c.update-2.ensures _ name in
    let size = c.absorb_number.ensures _ version in
    let width = c.absorb_number-2.ensures _ size in
    let public = c.absorb_number-3.ensures _ width in
    let periodic = c.absorb_all.ensures _ public in
    let nodes = c.absorb_all-2.ensures _ periodic in
    let constraints = c.absorb_all-3.ensures _ nodes in
    let columns = listed_map (column_text g.F.ElementBytes.bytes) (λ column. column.items)
    c.periodic_columns.result.now in
    let is = c.finalize.ensures _ constraints in
    cc (
      is,
      columns,
      c.BYTES.ensures,
      c.width.ensures,
      c.num_public_values.ensures,
      c.periodic_columns.ensures,
      c.nodes.ensures,
      c.constraints.ensures,
    )
