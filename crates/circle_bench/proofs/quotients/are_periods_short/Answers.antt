use Rattle.std.proofs.Common.{◌≤◌, All, List, length, subst, IsTrue}
use Rattle.std.specs.Prelude.{◌↔◌}
use Rattle.circle_field.specs.declared.mersenne31.Mersenne31.{Mersenne31}
use Rattle.circle_bench.proofs.Short.{short_columns, short_lists}
use Rattle.circle_bench.proofs.quotients.are_periods_short.Goals as goal

pub returns : goal.returns
returns c =
    subst (λ (columns : List (List Mersenne31)). IsTrue c.are_at_most.result
    ↔ All (λ column. length column ≤ c.args.height) columns) c.periodic_columns.ensures (
      λ short. short_lists c.args.height c.periodic_columns.result.now
          (c.are_at_most.ensures.0 short),
      λ short. c.are_at_most.ensures.1
          (short_columns c.args.height c.periodic_columns.result.now short),
    )
