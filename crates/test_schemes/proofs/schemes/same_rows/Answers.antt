use Rattle.std.proofs.Common.{sym, ◌∙◌}
use Rattle.test_schemes.proofs.Equal.{equal_rows-same}
use Rattle.test_schemes.proofs.schemes.same_rows.Goals as goal

pub returns : goal.returns
returns g c =
    let same = equal_rows-same g.T.PartialEq.eq g.met.T.Field.eq_law c.args.opened.now
    c.args.others.now in
    (λ h. same.0 (sym c.eq.ensures ∙ h), λ e. c.eq.ensures ∙ same.1 e)
