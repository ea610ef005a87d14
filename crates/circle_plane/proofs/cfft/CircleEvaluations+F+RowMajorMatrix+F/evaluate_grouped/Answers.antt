use Rattle.std.proofs.Common.{◌*◌, ◌-◌, ◌^◌, ◌∙◌, ap, arith}
use Rattle.circle_commit.specs.RowMajorMatrix.{width_of}
use Rattle.circle_domain.specs.Domain.{log_size}
use Rattle.circle_plane.proofs.AllLayers.{halved}
use Rattle.circle_plane.proofs.cfft.CircleEvaluations+F+RowMajorMatrix+F.evaluate_grouped.Goals as goal

pub evaluate_by-requires-clause-room : goal.evaluate_by-requires-clause-room
evaluate_by-requires-clause-room g c n lt = omega (arith, lt, c.new-layers.ensures)

pub returns-clause-count : goal.returns-clause-count
returns-clause-count g c n tall =
    let size = log_size c.args.domain in
    let points = ap (λ t. t * width_of c.args.coeffs) (halved size c.requires.positive) in
    let counted = c.in_ok-values.ensures.count n tall (2 ^ (size - 1)) points in
    c.into_butterflies.ensures ∙ counted ∙ omega (arith, c.new-layers.ensures)
