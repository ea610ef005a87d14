use Rattle.std.proofs.Common.{◌∙◌, ap}
use Rattle.circle_domain.specs.Domain.{log_size}
use Rattle.circle_domain.specs.Ordering.{other_order}
use Rattle.circle_domain.proofs.OtherOrder.{other_order-twice}
use Rattle.circle_plane.proofs.cfft.CircleEvaluations.from_natural_order.Goals as goal

pub returns-clause-back : goal.returns-clause-back
returns-clause-back g c =
    let n = log_size c.args.domain in
    let rows = g.M.Matrix.rows c.args.values in
    rw c.from_cfft_order.ensures.values
    (ap (other_order n) (c.cfft_perm_rows.ensures.rows n c.requires.size)
    ∙ other_order-twice n rows (g.met.M.Matrix.height_law c.args.values ∙ c.requires.size))
