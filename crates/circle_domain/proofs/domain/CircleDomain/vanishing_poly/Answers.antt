use Rattle.std.proofs.Common.{◌∙◌, ap}
use Rattle.circle_field.specs.Field.{sub}
use Rattle.circle_point.specs.Basis.{vanishing}
use Rattle.circle_point.specs.Point.{coordinates}
use Rattle.circle_domain.specs.Domain.{log_size, shift_of}
use Rattle.circle_domain.proofs.Lifted.{lifted-vanishing}
use Rattle.circle_domain.proofs.domain.CircleDomain.vanishing_poly.Goals as goal

pub returns : goal.returns
returns g c =
    let l = g.EF.Operations.ops in
    let n = log_size c.args.self.now in
    g.met.EF.Field.sub_law _ _ _ c.sub.ensures
    ∙ ap (λ v. sub l v c.from_base.result) c.v_n.ensures.polynomial
    ∙ ap (sub l (vanishing l n (coordinates c.args.at)))
    (c.from_base.ensures ∙ ap g.EF.ExtensionField.embed c.v_n-2.ensures.polynomial
    ∙ lifted-vanishing g.met.EF.ExtensionField.embedding n (shift_of c.args.self.now))
