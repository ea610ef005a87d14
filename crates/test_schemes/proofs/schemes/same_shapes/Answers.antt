use Rattle.std.proofs.Common.{sym, ◌∙◌}
use Rattle.test_schemes.proofs.Equal.{same_dimensions}
use lib.Pointwise.{pointwise_decides}
use Rattle.test_schemes.proofs.schemes.same_shapes.Goals as goal

pub returns : goal.returns
returns c =
    let same = pointwise_decides same_dimensions c.args.shapes.now c.args.others.now in
    (λ h. same.0 (sym c.eq.ensures ∙ h), λ e. c.eq.ensures ∙ same.1 e)
