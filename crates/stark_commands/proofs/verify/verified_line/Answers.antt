use Rattle.std.proofs.Common.{◌<◌, ◌≤◌, ◌^◌, ap, arith, length}
use Rattle.std.specs.Fmt.InlineText.{inline_text}
use Rattle.stark_commands.proofs.Told.{few_digits, with_room}
use Rattle.stark_commands.proofs.verify.verified_line.Goals as goal

pub with_number-number-requires : goal.with_number-number-requires
with_number-number-requires c =
    let fits : c.args.log_n < 2 ^ 64 = omega arith in
    let none : length (inline_text c.new.result) ≤ 0 =
    let e = ap length c.new.ensures.text in omega (arith, e) in
    with_room _ _ 0 20 none (few_digits c.args.log_n fits) (omega arith)
