use Rattle.std.proofs.Common.{◌≡◌, ◌<◌, ℕ, [], length, map, slice_index_or}
use Rattle.circle_domain.specs.Periodic.{IsPeriodicValue}
use Rattle.circle_point.specs.Projective.{from_line}
use Rattle.circle_stark.proofs.identity.periodic_values.Given as goal

abbrev pub invariant-loop-column : goal.invariant-loop-column
invariant-loop-column g l =
    let l' = g.EF.Operations.ops in record {
      count : length l.values.items ≡ l.column-index;
      each : (i : ℕ) → i < l.column-index →
          IsPeriodicValue g.F.Operations.ops g.F.ComplexExtendable.generators l'
          g.EF.ExtensionField.embed l.log_n
          (slice_index_or (map (λ c. c.items) l.columns) i []) (from_line l' l.zeta)
          (slice_index_or l.values.items i l'.zero);
    }
