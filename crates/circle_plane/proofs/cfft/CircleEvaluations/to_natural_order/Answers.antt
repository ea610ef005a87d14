use Rattle.std.proofs.Common.{◌∙◌, ap}
use Rattle.circle_domain.specs.Domain.{log_size}
use Rattle.circle_domain.specs.Ordering.{other_order}
use Rattle.circle_domain.proofs.OtherOrder.{other_order-twice}
use Rattle.circle_plane.proofs.cfft.CircleEvaluations.to_natural_order.Goals as goal

pub cfft_perm_rows-requires : goal.cfft_perm_rows-requires
cfft_perm_rows-requires g c = (log_size c.args.self.domain, c.args.self.row_for_each_point)

pub returns-clause-rows : goal.returns-clause-rows
returns-clause-rows g c =
    c.cfft_perm_rows.ensures.rows (log_size c.args.self.domain) c.args.self.row_for_each_point

pub returns-clause-back : goal.returns-clause-back
returns-clause-back g c =
    let n = log_size c.args.self.domain in
    let rows = g.M.Matrix.rows c.args.self.values in
    ap (other_order n) (c.cfft_perm_rows.ensures.rows n c.args.self.row_for_each_point)
    ∙ other_order-twice n rows (g.met.M.Matrix.height_law c.args.self.values
    ∙ c.args.self.row_for_each_point)
