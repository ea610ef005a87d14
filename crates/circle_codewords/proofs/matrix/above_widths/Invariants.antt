use Rattle.std.proofs.Common.{◌≤◌, ◌<◌, ◌^◌, All, take}
use Rattle.circle_commit.specs.RowMajorMatrix.{width_of}
use Rattle.circle_codewords.proofs.matrix.above_widths.Given as goal

-- no width so far is greater
abbrev pub invariant-loop-matrix : goal.invariant-loop-matrix
invariant-loop-matrix g l =
    record {
      small : l.greatest < 2 ^ 63;
      most : All (λ m. width_of m.rows.now ≤ l.greatest) (take l.matrix-index l.matrices);
    }
