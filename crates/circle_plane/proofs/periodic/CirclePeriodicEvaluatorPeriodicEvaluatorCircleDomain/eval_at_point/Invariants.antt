use Rattle.std.proofs.Common.{◌≡◌, ◌<◌, ℕ, [], length, map, get_or}
use Rattle.circle_domain.specs.Domain.{log_size}
use Rattle.circle_domain.specs.Periodic.{IsPeriodicValue}
use Rattle.circle_point.specs.Projective.{from_line}
use Rattle.circle_plane.proofs.periodic.CirclePeriodicEvaluatorPeriodicEvaluatorCircleDomain.eval_at_point.Given as goal

abbrev pub invariant-loop-column : goal.invariant-loop-column
invariant-loop-column g l = record {
  count : length l.values.items ≡ l.column-index;
  each : (c : ℕ) → c < length l.values.items →
      IsPeriodicValue g.F.Operations.ops g.F.ComplexExtendable.generators g.EF.Operations.ops
      g.EF.ExtensionField.embed (log_size l.trace_domain)
      (get_or (map (λ column. column.items) l.periodic_table) c [])
      (from_line g.EF.Operations.ops l.point)
      (get_or l.values.items c g.EF.Operations.ops.zero);
}
