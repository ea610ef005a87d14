use Rattle.std.proofs.Common.{◌≡◌, map, take}
use Rattle.circle_commit.specs.RowMajorMatrix.{rows}
use Rattle.circle_codewords.proofs.combined.word_of_rows.Given as goal

abbrev pub invariant-loop-r : goal.invariant-loop-r
invariant-loop-r g l = map g.EF.ExtensionField.coefficients l.word.items ≡ take l.r (rows l.matrix)
