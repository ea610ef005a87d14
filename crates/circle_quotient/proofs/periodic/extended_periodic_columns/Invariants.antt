use Rattle.std.proofs.Common.{◌≡◌, ◌<◌, ℕ, [], get_or, length}
use Rattle.circle_commit.specs.PeriodicLdeTable.{columns_of}
use Rattle.circle_quotient.specs.Terms.{IsPeriodicColumn}
use Rattle.circle_quotient.proofs.periodic.extended_periodic_columns.Given as goal

abbrev pub invariant-loop-column : goal.invariant-loop-column
invariant-loop-column g l = record {
  count : length l.made.items ≡ l.column-index;
  each : (c : ℕ) → c < length l.made.items →
      IsPeriodicColumn g.F.Operations.ops g.F.ComplexExtendable.generators l.log_n l.log_num_chunks
      (get_or (columns_of l.columns) c []) (get_or (columns_of l.made.items) c []);
}
