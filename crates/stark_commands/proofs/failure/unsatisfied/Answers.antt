use Rattle.std.proofs.Common.{◌<◌, ◌^◌, arith}
use Rattle.stark_commands.proofs.Told.{brace_part, few_digits, first_part, name_part, number_part}
use Rattle.stark_commands.proofs.Told.{parts_before_brace, with_room}
use Rattle.stark_commands.proofs.failure.unsatisfied.Goals as goal

pub with_number-begun-requires : goal.with_number-begun-requires
with_number-begun-requires c =
    let fits : c.args.constraint < 2 ^ 64 = omega arith in
    with_room _ _ 14 20 (first_part _ _ c.new.ensures.text c.with.ensures)
    (few_digits c.args.constraint fits) (omega arith)

pub with-requires-2 : goal.with-requires-2
with-requires-2 c =
    let fits : c.args.constraint < 2 ^ 64 = omega arith in
    with_room _ _ 34 31
    (number_part _ _ c.args.constraint 14 fits c.with_number-begun.ensures
    (first_part _ _ c.new.ensures.text c.with.ensures)) (omega arith) (omega arith)

pub with_number-named-requires : goal.with_number-named-requires
with_number-named-requires c =
    let fits : c.args.constraint < 2 ^ 64 = omega arith in
    let small : c.args.row < 2 ^ 64 = omega arith in
    with_room _ _ 65 20
    (name_part _ _ c.with-2.ensures
    (number_part _ _ c.args.constraint 14 fits c.with_number-begun.ensures
    (first_part _ _ c.new.ensures.text c.with.ensures))) (few_digits c.args.row small) (omega arith)

pub with-requires-3 : goal.with-requires-3
with-requires-3 c =
    with_room _ _ 85 1
    (parts_before_brace c.args.constraint c.args.row (omega arith) (omega arith) c.new.ensures.text
    c.with.ensures c.with_number-begun.ensures c.with-2.ensures c.with_number-named.ensures)
    (omega arith) (omega arith)

pub returns-clause-room : goal.returns-clause-room
returns-clause-room c =
    brace_part _ _ c.with-3.ensures
    (parts_before_brace c.args.constraint c.args.row (omega arith) (omega arith) c.new.ensures.text
    c.with.ensures c.with_number-begun.ensures c.with-2.ensures c.with_number-named.ensures)
