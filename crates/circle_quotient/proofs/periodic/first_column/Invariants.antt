use Rattle.std.proofs.Common.{◌≡◌, ℕ, ◌<◌, length}
use Rattle.std.specs.Prelude.{Some}
use Rattle.circle_commit.specs.PeriodicLdeTable.{entry_at}
use Rattle.circle_air.specs.Values.{entry}
use Rattle.circle_quotient.proofs.periodic.first_column.Given as goal

abbrev pub invariant-loop-i : goal.invariant-loop-i
invariant-loop-i g l = record {
  count : length l.made.items ≡ l.i;
  entries : (i : ℕ) → i < l.i →
      entry_at l.table i 0 ≡ Some (entry g.F.Operations.ops l.made.items i);
}
