use Rattle.std.proofs.Common.{◌≡◌, drop, map, vec_len}
use Rattle.circle_relation.specs.TestsInOrder.{answer}
use Rattle.circle_verifier.specs.Refusals.{sibling_tests}
use Rattle.circle_verifier.proofs.verifier.check_siblings.Given as goal

-- the result is that for the queries that are left
abbrev pub invariant-loop-values : goal.invariant-loop-values
invariant-loop-values g l =
    answer {A = Unit {0}}
    (sibling_tests {C = g.row.CommitErr.Denot} {I = g.row.InputErr.Denot} l.round
    (map vec_len (drop l.values-index l.siblings))) tt
    ≡ answer (sibling_tests l.round (map vec_len l.siblings)) tt
