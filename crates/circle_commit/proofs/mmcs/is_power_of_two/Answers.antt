use Rattle.std.proofs.Common.{◌≡◌, ◌^◌, ◌*◌, ◌%◌, ◌∙◌, sym, arith}
use Rattle.std.proofs.lemmas.Grind.{common_steps}
use Rattle.circle_commit.proofs.Powers.{power_between, shifted}
use Rattle.circle_commit.proofs.mmcs.is_power_of_two.Goals as goal

pub returns-then-n-gt0 : goal.returns-then-n-gt0
returns-then-n-gt0 c =
    let e : 1 * 2 ^ c.ilog2.result % 2 ^ 64 ≡ 2 ^ c.ilog2.result =
    shifted _ c.ilog2.ensures.bound in (
      λ h. let s : c.args.n ≡ 1 * 2 ^ c.ilog2.result % 2 ^ 64 = grind (arith, common_steps) in
          (c.ilog2.result, s ∙ e),
      λ p. let s : c.args.n ≡ 2 ^ c.ilog2.result =
          power_between _ _ p.0 c.ilog2.ensures.power_le c.ilog2.ensures.next_power_gt p.1 in
          let t : c.args.n ≡ 1 * 2 ^ c.ilog2.result % 2 ^ 64 = s ∙ sym e in
          grind (arith, common_steps),
    )
