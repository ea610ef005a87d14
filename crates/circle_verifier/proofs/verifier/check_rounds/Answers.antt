use Rattle.std.proofs.Common.{◌+◌, ◌<◌, length, drop, map, vec_len, sym, ap, ◌∙◌, arith}
use Rattle.std.specs.Result.{result_and}
use Rattle.circle_relation.specs.TestsInOrder.{answer}
use Rattle.circle_verifier.specs.Refusals.{rounds_tests}
use Rattle.circle_verifier.proofs.ShapeTests.{answer-round}
use Rattle.circle_relation.proofs.Answering.{refused-is}
use Rattle.circle_verifier.proofs.verifier.check_rounds.Goals as goal

pub loop-round-preserved : goal.loop-round-preserved
loop-round-preserved g c =
    let queries = c.args.num_queries in
    let openings = c.args.openings.now in
    let round = c.loop-round.round in
    let within : round < length openings = omega arith in
    let rest =
    answer {A = Unit {0}}
    (rounds_tests {C = g.row.CommitErr.Denot} {I = g.row.InputErr.Denot} queries (round + 1)
    (map (λ o. map vec_len o.sibling_values.items) (drop (round + 1) openings))) (tt {0}) in
    let step = answer-round {C = g.row.CommitErr.Denot} {I = g.row.InputErr.Denot}
    (λ o. map vec_len o.sibling_values.items) queries round openings round
    c.index-openings-round.result within c.index-openings-round.is in
    sym (ap (λ r. result_and r rest) (sym c.check_round.ensures ∙ c.in_ok-check_round.was))
    ∙ sym step ∙ c.loop-round.invariant

pub returns-in_err-check_round : goal.returns-in_err-check_round
returns-in_err-check_round g c =
    let queries = c.args.num_queries in
    let openings = c.args.openings.now in
    let round = c.loop-round.round in
    let within : round < length openings = omega arith in
    let rest =
    answer {A = Unit {0}}
    (rounds_tests {C = g.row.CommitErr.Denot} {I = g.row.InputErr.Denot} queries (round + 1)
    (map (λ o. map vec_len o.sibling_values.items) (drop (round + 1) openings))) (tt {0}) in
    let step = answer-round {C = g.row.CommitErr.Denot} {I = g.row.InputErr.Denot}
    (λ o. map vec_len o.sibling_values.items) queries round openings round
    c.index-openings-round.result within c.index-openings-round.is in
    refused-is c.from_residual.result c.in_err-check_round.field-0.0 c.from_residual.ensures.1
    ∙ sym (ap (λ r. result_and r rest) (sym c.check_round.ensures ∙ c.in_err-check_round.was))
    ∙ sym step ∙ c.loop-round.invariant
