use Rattle.std.proofs.Common.{◌∙◌, sym, ap, length}
use Rattle.circle_commit.specs.RowMajorMatrix.{rows, length-rows}
use Rattle.circle_plane.proofs.cfft.CircleEvaluations+F+RowMajorMatrix+F.try_clone.Goals as goal

pub from_cfft_order-requires-clause-size : goal.from_cfft_order-requires-clause-size
from_cfft_order-requires-clause-size g c =
    sym (length-rows c.in_ok-values.values) ∙ ap length c.in_ok-values.ensures.rows
    ∙ length-rows c.args.self.now.values ∙ c.args.self.now.row_for_each_point

pub returns-clause-rows : goal.returns-clause-rows
returns-clause-rows g c = ap rows c.from_cfft_order.ensures.values ∙ c.in_ok-values.ensures.rows
