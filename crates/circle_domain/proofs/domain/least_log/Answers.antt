use Rattle.std.proofs.Common.{◌≡◌, ◌≤◌, ◌<◌, ◌+◌, ◌*◌, ◌-◌, ◌^◌, suc, ◌∙◌, ap, arith, ⊎_elim}
use Rattle.std.proofs.Math.Nat.{pow-suc}
use Rattle.std.proofs.lemmas.Bool.{cases_lt}
use Rattle.circle_domain.proofs.Powers.{pow_within}
use Rattle.circle_domain.proofs.domain.least_log.Goals as goal

pub returns-else-min_size-le2-clause-least : goal.returns-else-min_size-le2-clause-least
returns-else-min_size-le2-clause-least c =
    let h = c.ilog2.result in
    let m = c.args.min_size in
    let low : 2 ^ h ≤ m - 1 = omega (arith, c.ilog2.ensures.power_le) in
    let high : m - 1 < 2 * 2 ^ h = omega (arith, c.ilog2.ensures.next_power_gt) in
    let double : 2 ^ (h + 1) ≡ 2 ^ h * 2 =
    (let e : h + 1 ≡ suc h = omega arith in ap (λ n. 2 ^ n) e) ∙ pow-suc 2 h in (
      omega arith,
      omega (arith, high, double),
      λ j positive enough. ⊎_elim (λ lt. omega (arith, lt))
          (λ le. absurd (let short : 2 ^ j ≤ 2 ^ h = pow_within j h le in
          omega (arith, short, low, enough, c.if-min_size-le2.false)))
          (cases_lt h j),
    )
