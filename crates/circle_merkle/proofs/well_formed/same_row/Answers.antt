use Rattle.std.proofs.Common.{sym, ◌∙◌}
use lib.Pointwise.{pointwise_decides}
use Rattle.circle_merkle.proofs.well_formed.same_row.Goals as goal

pub returns : goal.returns
returns g c =
    let same = pointwise_decides g.met.T.Field.eq_law c.args.row.now c.args.other.now in
    (λ h. same.0 (sym c.eq.ensures ∙ h), λ e. c.eq.ensures ∙ same.1 e)
