use Rattle.std.proofs.Common.{◌≡◌, drop, map, vec_len}
use Rattle.circle_relation.specs.TestsInOrder.{answer}
use Rattle.circle_verifier.specs.Refusals.{rounds_tests}
use Rattle.circle_verifier.proofs.verifier.check_rounds.Given as goal

-- the result is that for the rounds that are left
abbrev pub invariant-loop-round : goal.invariant-loop-round
invariant-loop-round g l =
    answer {A = Unit {0}}
    (rounds_tests {C = g.row.CommitErr.Denot} {I = g.row.InputErr.Denot} l.num_queries l.round
    (map (λ o. map vec_len o.sibling_values.items) (drop l.round l.openings))) tt
    ≡ answer
    (rounds_tests l.num_queries 0 (map (λ o. map vec_len o.sibling_values.items) l.openings)) tt
