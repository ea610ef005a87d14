use Rattle.std.proofs.Common.{take}
use Rattle.test_schemes.specs.SameRows.{HaveSameRows}
use Rattle.test_schemes.proofs.matrix_list.copies.Given as goal

abbrev pub invariant-loop-matrix : goal.invariant-loop-matrix
invariant-loop-matrix g l = HaveSameRows (take l.matrix-index l.matrices) l.copies.items
