use Rattle.std.proofs.Common.{◌+◌, ◌-◌, arith}
use Rattle.std.proofs.lemmas.Bool.{ltb-false, ltb-true}
use Rattle.circle_commands.proofs.Heights.{height-above, height-below}
use Rattle.circle_commands.proofs.prove.is_too_small.Goals as goal

pub
    returns-then-log_height-lt-MIN_LOG_HEIGHT-clause-small :
    goal.returns-then-log_height-lt-MIN_LOG_HEIGHT-clause-small
returns-then-log_height-lt-MIN_LOG_HEIGHT-clause-small c = λ yes.
    height-below _ (2 + c.args.log_final_poly_len) _ c.log2_strict-log_height.ensures.power
    (omega (arith, c.if-log_height-lt-MIN_LOG_HEIGHT.true))

pub
    returns-else-log_height-lt-MIN_LOG_HEIGHT-clause-small :
    goal.returns-else-log_height-lt-MIN_LOG_HEIGHT-clause-small
returns-else-log_height-lt-MIN_LOG_HEIGHT-clause-small c = λ yes.
    let fewer = ltb-true (c.log2_strict-log_height.result - 2) c.args.log_final_poly_len yes in
    height-below _ (2 + c.args.log_final_poly_len) _ c.log2_strict-log_height.ensures.power
    (omega (arith, fewer, c.if-log_height-lt-MIN_LOG_HEIGHT.false))

pub
    returns-else-log_height-lt-MIN_LOG_HEIGHT-clause-enough :
    goal.returns-else-log_height-lt-MIN_LOG_HEIGHT-clause-enough
returns-else-log_height-lt-MIN_LOG_HEIGHT-clause-enough c = λ no.
    let more = ltb-false (c.log2_strict-log_height.result - 2) c.args.log_final_poly_len no in
    height-above _ (2 + c.args.log_final_poly_len) _ c.log2_strict-log_height.ensures.power
    (omega (arith, more, c.if-log_height-lt-MIN_LOG_HEIGHT.false))

pub
    returns-else-log_height-lt-MIN_LOG_HEIGHT-clause-four :
    goal.returns-else-log_height-lt-MIN_LOG_HEIGHT-clause-four
returns-else-log_height-lt-MIN_LOG_HEIGHT-clause-four c = λ no.
    let four =
    height-above _ 2 _ c.log2_strict-log_height.ensures.power
    c.if-log_height-lt-MIN_LOG_HEIGHT.false in
    omega (arith, four)
