use Rattle.std.proofs.Common.{◌≡◌, max, ◌∙◌, sym, ap}
use Rattle.circle_point.specs.Basis.{vanishing}
use Rattle.circle_point.specs.Point.{coordinates}
use Rattle.circle_domain.specs.Domain.{log_size, shift_of}
use Rattle.circle_domain.proofs.ClearOf.{clear-of, not_same}
use Rattle.circle_domain.proofs.domain.CircleDomain.is_clear_of.Goals as goal

pub returns : goal.returns
returns g c =
    let k = g.F.Operations.ops in
    let l = g.EF.Operations.ops in
    let n = log_size c.args.self.now in
    let s = shift_of c.args.self.now in
    let q = coordinates c.args.at in
    let tells = clear-of g.F.Operations.laws g.EF.Operations.laws g.met.EF.ExtensionField.embedding
    g.met.F.ComplexExtendable.generators_law
    n c.requires.positive c.requires.in_group s c.args.self.now.shift.on_circle q
    c.args.at.on_circle in
    let test = not_same g.EF.PartialEq.eq g.met.EF.Field.eq_law c.v_n.result c.from_base.result in
    let there : c.v_n.result ≡ vanishing l (max n 2) q = c.v_n.ensures.polynomial
    ∙ ap (λ m. vanishing l m q) c.max-doublings.ensures in
    let here : c.from_base.result ≡ g.EF.ExtensionField.embed (vanishing k (max n 2) s) =
    c.from_base.ensures
    ∙ ap g.EF.ExtensionField.embed
    (c.v_n-2.ensures.polynomial ∙ ap (λ m. vanishing k m s) c.max-doublings.ensures) in (
      λ h. tells.1 (λ e. test.0 (sym c.ne.ensures ∙ h) (there ∙ e ∙ sym here)),
      λ h. c.ne.ensures ∙ test.1 (λ e. tells.0 h (sym there ∙ e ∙ here)),
    )
