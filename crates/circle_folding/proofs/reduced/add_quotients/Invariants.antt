use Rattle.std.proofs.Common.{◌≡◌, ◌≢◌, ◌<◌, ℕ, map, slice_index_or}
use Rattle.circle_field.specs.Circle.{lifted}
use Rattle.circle_commit.specs.Mmcs.{opened_rows}
use Rattle.circle_point.specs.Point.{coordinates}
use Rattle.circle_commit.proofs.Written.{written}
use Rattle.circle_commit.specs.DotProduct.{pairwise}
use Rattle.circle_folding.specs.Quotient.{weighted_quotient}
use Rattle.circle_folding.specs.Queries.{rows_of}
use Rattle.circle_folding.proofs.reduced.add_quotients.Given as goal

abbrev pub invariant-loop-i : goal.invariant-loop-i
invariant-loop-i g l = record {
  sums : l.sums
      ≡ written l.i
      (pairwise (λ s q. g.EF.Operations.ops.add s (g.EF.Operations.ops.mul l.offset q)) l.fn.sums
      (pairwise
      (λ x row. weighted_quotient g.EF.Operations.ops g.EF.ExtensionField.embed
      l.alpha_pow_width l.alpha_powers x (coordinates l.claim.point) row l.values)
      (map coordinates l.points) (rows_of l.rows.matrix (opened_rows l.opened)))) l.fn.sums;
  apart : (j : ℕ) (d : _) → j < l.i →
      lifted g.EF.ExtensionField.embed (slice_index_or (map coordinates l.points) j d) ≢ coordinates
      l.claim.point;
}
