use Rattle.std.proofs.Common.{◌≡◌, drop}
use Rattle.circle_prover.specs.Requesting.{matrix_tests}
use Rattle.circle_relation.specs.TestsInOrder.{answer}
use Rattle.circle_prover.proofs.heights.validate_heights.Given as goal

-- the result is that for the matrices that are left
abbrev pub invariant-loop-matrix : goal.invariant-loop-matrix
invariant-loop-matrix g l =
    let two = g.F.ComplexExtendable.CIRCLE_TWO_ADICITY in
    answer {A = Unit {0}} (matrix_tests two l.params (drop l.matrix-index l.matrices)) (tt {0})
    ≡ answer (matrix_tests two l.params l.matrices) (tt {0})
