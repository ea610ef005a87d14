use Rattle.std.proofs.Common.{◌*◌, ◌-◌, ◌^◌, ◌∙◌, ap, arith}
use Rattle.circle_domain.specs.Domain.{log_size}
use Rattle.circle_plane.proofs.AllLayers.{halved}
use Rattle.circle_plane.proofs.cfft.CircleEvaluations.interpolate_grouped.Goals as goal

pub interpolate_by-requires-clause-room : goal.interpolate_by-requires-clause-room
interpolate_by-requires-clause-room g c n lt = omega (arith, lt, c.new-layers.ensures)

pub returns-clause-count : goal.returns-clause-count
returns-clause-count g c =
    let n = log_size c.args.self.domain in
    let width = g.M.MatrixShape.width c.args.self.values in
    let points = ap (λ t. t * width) (halved n c.requires.genuine.0) in
    let counted = c.in_ok-coeffs.ensures.count (2 ^ (n - 1)) points in
    c.into_butterflies.ensures ∙ counted ∙ omega (arith, c.new-layers.ensures)
