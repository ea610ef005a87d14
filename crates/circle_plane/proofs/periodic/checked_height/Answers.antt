use Rattle.std.proofs.Common.{◌≤◌, ◌*◌, ◌^◌, refl, arith}
use Rattle.std.proofs.Math.Nat.{mul-le-mul_right, mul-le-mul_left}
use Rattle.circle_domain.proofs.Powers.{pow_within}
use Rattle.circle_plane.proofs.periodic.checked_height.Goals as goal

pub returns-then-log_blowup-gt63-clause-refusal : goal.returns-then-log_blowup-gt63-clause-refusal
returns-then-log_blowup-gt63-clause-refusal c =
    let b = 2 ^ c.args.log_blowup in
    let large : 2 ^ 64 ≤ b = pow_within
    64 c.args.log_blowup (omega (arith, c.if-log_blowup-gt63.true)) in
    let once : 1 * b ≤ c.args.period * b = mul-le-mul_right b c.requires.period in
    let wide : c.args.period * b * 1 ≤ c.args.period * b * c.args.width =
    mul-le-mul_left (c.args.period * b) c.requires.width in
    (refl, omega (arith, large, once, wide))
