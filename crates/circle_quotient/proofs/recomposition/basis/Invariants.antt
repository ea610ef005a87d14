use Rattle.std.proofs.Common.{◌≡◌, ℕ, ◌<◌, length}
use Rattle.std.specs.Prelude.{replicate, slice_set, slice_index_or}
use Rattle.circle_quotient.proofs.recomposition.basis.Given as goal

abbrev pub invariant-loop-i : goal.invariant-loop-i
invariant-loop-i g l =
    let k = g.F.Operations.ops in
    record {
      count : length l.made.items ≡ l.i;
      each : (i : ℕ) (d : g.row.EF.Denot) → i < l.i →
          g.EF.ExtensionField.coefficients (slice_index_or l.made.items i d)
          ≡ slice_set (replicate g.EF.ExtensionField.DEGREE k.zero) i k.one;
    }
