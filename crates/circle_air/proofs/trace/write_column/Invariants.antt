use Rattle.std.proofs.Common.{◌≡◌, ℕ, ◌+◌, ◌%◌, ◌<◌, [], length, get_or}
use Rattle.circle_air.proofs.trace.write_column.Given as goal

abbrev pub invariant-loop-entry : goal.invariant-loop-entry
invariant-loop-entry g l =
    let rows = g.M.Matrix.rows l.rows in record {
      height : l.height ≡ length rows;
      at : l.row ≡ (l.first + l.entry-index) % length rows;
      below : l.row < length rows;
      written : (r : ℕ) (d : g.row.F.Denot) → r < l.entry-index → get_or l.lanes r d
          ≡ get_or (get_or rows ((l.first + r) % length rows) []) l.column d;
    }
