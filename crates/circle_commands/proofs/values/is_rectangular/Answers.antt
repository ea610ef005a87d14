use Rattle.std.proofs.Common.{◌≤◌, ℕ, ◌∙◌, sym, subst, arith, vec_len}
use Rattle.std.proofs.lemmas.Grind.{common_steps}
use Rattle.circle_commands.specs.Rows.{lists}
use Rattle.circle_commands.proofs.Rows.{EachHasLength, each_has_length, all_have_length, lists_each}
use Rattle.circle_commands.proofs.Rows.{each_lists, width_is}
use Rattle.circle_commands.proofs.values.is_rectangular.Goals as goal

pub returns-then-not-is_empty : goal.returns-then-not-is_empty
returns-then-not-is_empty c =
    let head = c.in-Some.ensures.item in
    let positive : 1 ≤ vec_len c.in-Some.first.now = grind (arith, common_steps) in
    let long : 1 ≤ c.len.result = omega (arith, c.len.ensures) in (
      λ h. (
        c.len.result,
        (long, all_have_length _ _ (lists_each _ _ (c.all_have_length.ensures.0 h))),
      ),
      λ r.
          let each = each_has_length _ _ r.1.1 in
          let same = width_is r.0 c.args.rows.now c.in-Some.first.now head.3.0 head.1 each
          ∙ sym c.len.ensures in
          c.all_have_length.ensures.1
          (each_lists _ _
          (subst (λ (w : ℕ). EachHasLength w (lists c.args.rows.now)) same each)),
    )
