use Rattle.std.proofs.Common.{◌≡◌, ℕ, ◌+◌, ◌%◌, ◌<◌, [], All, length, get_or}
use Rattle.circle_commit.specs.PeriodicLdeTable.{columns_of}
use Rattle.circle_quotient.specs.Lanes.{lane_of}
use Rattle.circle_quotient.proofs.lanes.write_rows.Given as goal

abbrev pub invariant-loop-lane : goal.invariant-loop-lane
invariant-loop-lane g l =
    let rows = g.M.Matrix.rows l.rows in record {
      width : length l.columns ≡ length l.fn.columns;
      lanes : All (λ column. length column ≡ l.lanes) (columns_of l.columns);
      at : l.row ≡ (l.first + l.lane) % length rows;
      below : l.row < length rows;
      rows : (r : ℕ) → r < l.lane → lane_of g.F.Operations.ops l.columns r
          ≡ get_or rows ((l.first + r) % length rows) [];
    }
