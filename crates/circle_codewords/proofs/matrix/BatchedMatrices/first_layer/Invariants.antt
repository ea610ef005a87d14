use Rattle.std.proofs.Common.{◌≡◌, map, take}
use Rattle.circle_commit.specs.RowMajorMatrix.{rows}
use Rattle.circle_codewords.specs.OfMatrices.{lambda_at, rows_at}
use Rattle.circle_codewords.specs.Words.{HaveHeights}
use Rattle.circle_codewords.proofs.matrix.BatchedMatrices.first_layer.Given as goal

abbrev pub invariant-loop-log_height : goal.invariant-loop-log_height
invariant-loop-log_height g l =
    let done = take l.log_height-index l.heights in
    record {
      lambdas : l.lambdas.items ≡ map (lambda_at l.self) done;
      layers : map rows l.layers.items ≡ map (rows_at l.self) done;
      shapes : HaveHeights done l.layers.items;
    }
