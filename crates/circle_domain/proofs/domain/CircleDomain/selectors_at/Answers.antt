use Rattle.std.proofs.Common.{◌≡◌, ◌≢◌, ◌∙◌, sym, ap, subst, arith}
use Rattle.circle_field.specs.Circle.{Coordinates, plus, opposite, lifted}
use Rattle.circle_field.specs.Field.{sub}
use Rattle.circle_point.specs.Point.{coordinates}
use Rattle.circle_domain.specs.Domain.{log_size, shift_of}
use Rattle.circle_domain.specs.Selectors.{zero_at, normaliser, last_row}
use Rattle.circle_domain.proofs.Lifted.{lifted-opposite}
use Rattle.circle_domain.proofs.Reciprocals.{normaliser-nonzero, lifted-reciprocal}
use Rattle.circle_domain.proofs.Reciprocals.{vanishing-nonzero, clear-first, clear-last}
use Rattle.circle_domain.proofs.domain.CircleDomain.selectors_at.Goals as goal

pub s_p_at_p-requires-clause-positive : goal.s_p_at_p-requires-clause-positive
s_p_at_p-requires-clause-positive g c = c.requires.genuine.0

pub s_p_at_p-requires-clause-small : goal.s_p_at_p-requires-clause-small
s_p_at_p-requires-clause-small g c =
    omega (arith, c.requires.in_group, g.met.F.ComplexExtendable.at_most_62)

pub returns-clause-first : goal.returns-clause-first
returns-clause-first g c =
    let l = g.EF.Operations.ops in
    let p = lifted g.EF.ExtensionField.embed (shift_of c.args.self.now) in
    g.met.EF.Field.mul_law _ _ _ c.mul.ensures
    ∙ ap (l.mul c.vanishing_poly-vanishing.result) c.inverse_zero_at-2.ensures
    ∙ ap (λ v. l.mul v (l.inv (zero_at l p (coordinates c.args.at))))
    c.vanishing_poly-vanishing.ensures

pub returns-clause-inverse : goal.returns-clause-inverse
returns-clause-inverse g c = c.inverse.ensures
    ∙ ap g.EF.Operations.ops.inv c.vanishing_poly-vanishing.ensures

pub inverse-normaliser-requires : goal.inverse-normaliser-requires
inverse-normaliser-requires g c = λ z.
    let k = g.F.Operations.ops in
    let n = log_size c.args.self.now in
    normaliser-nonzero g.F.Operations.laws n (shift_of c.args.self.now) c.requires.genuine
    c.args.self.now.shift.on_circle
    (ap (normaliser k n) (sym c.neg.ensures.opposite) ∙ sym c.s_p_at_p.ensures ∙ z)

pub inverse_zero_at-requires : goal.inverse_zero_at-requires
inverse_zero_at-requires g c =
    let l = g.EF.Operations.ops in
    let q = coordinates c.args.at in
    subst
    (λ (p : Coordinates g.row.F.Denot).
    (plus l q (opposite l (lifted g.EF.ExtensionField.embed p))).y ≢ l.zero)
    (sym c.neg-2.ensures.opposite)
    (clear-last g.F.Operations.laws g.EF.Operations.laws g.met.EF.ExtensionField.embedding
    g.met.F.ComplexExtendable.generators_law
    (log_size c.args.self.now) c.requires.genuine.0 c.requires.in_group (shift_of c.args.self.now)
    c.args.self.now.shift.on_circle q c.args.at.on_circle c.requires.clear)

pub inverse_zero_at-requires-2 : goal.inverse_zero_at-requires-2
inverse_zero_at-requires-2 g c =
    clear-first g.F.Operations.laws g.EF.Operations.laws g.met.EF.ExtensionField.embedding
    g.met.F.ComplexExtendable.generators_law
    (log_size c.args.self.now) c.requires.genuine.0 c.requires.in_group (shift_of c.args.self.now)
    c.args.self.now.shift.on_circle (coordinates c.args.at) c.args.at.on_circle c.requires.clear

pub inverse-requires : goal.inverse-requires
inverse-requires g c = λ z.
    vanishing-nonzero g.F.Operations.laws g.EF.Operations.laws g.met.EF.ExtensionField.embedding
    g.met.F.ComplexExtendable.generators_law
    (log_size c.args.self.now) c.requires.genuine.0 c.requires.in_group (shift_of c.args.self.now)
    c.args.self.now.shift.on_circle (coordinates c.args.at) c.args.at.on_circle c.requires.clear
    (sym c.vanishing_poly-vanishing.ensures ∙ z)

pub returns-clause-last : goal.returns-clause-last
returns-clause-last g c =
    let l = g.EF.Operations.ops in
    let embed = g.EF.ExtensionField.embed in
    let q = coordinates c.args.at in
    let z = c.vanishing_poly-vanishing.result in
    g.met.EF.Field.mul_law _ _ _ c.mul-is_last_row.ensures
    ∙ ap (l.mul z) (c.inverse_zero_at.ensures
    ∙ ap (λ (p : Coordinates g.row.F.Denot). l.inv (zero_at l (lifted embed p) q))
    c.neg-2.ensures.opposite
    ∙ ap (λ (p : Coordinates g.row.EF.Denot). l.inv (zero_at l p q))
    (lifted-opposite g.met.EF.ExtensionField.embedding (shift_of c.args.self.now)))
    ∙ ap (λ v. l.mul v (l.inv (zero_at l (opposite l (lifted embed (shift_of c.args.self.now))) q)))
    c.vanishing_poly-vanishing.ensures

pub returns-clause-transition : goal.returns-clause-transition
returns-clause-transition g c =
    let k = g.F.Operations.ops in
    let l = g.EF.Operations.ops in
    let embed = g.EF.ExtensionField.embed in
    let n = log_size c.args.self.now in
    let s = shift_of c.args.self.now in
    let q = coordinates c.args.at in
    let z = c.vanishing_poly-vanishing.result in
    let last : c.mul-is_last_row.result ≡ last_row l n (lifted embed s) q =
    g.met.EF.Field.mul_law _ _ _ c.mul-is_last_row.ensures
    ∙ ap (l.mul z) (c.inverse_zero_at.ensures
    ∙ ap (λ (p : Coordinates g.row.F.Denot). l.inv (zero_at l (lifted embed p) q))
    c.neg-2.ensures.opposite
    ∙ ap (λ (p : Coordinates g.row.EF.Denot). l.inv (zero_at l p q))
    (lifted-opposite g.met.EF.ExtensionField.embedding s))
    ∙ ap (λ v. l.mul v (l.inv (zero_at l (opposite l (lifted embed s)) q)))
    c.vanishing_poly-vanishing.ensures in
    let scale : c.from_base.result ≡ l.inv (normaliser l n (opposite l (lifted embed s))) =
    c.from_base.ensures
    ∙ ap embed
    (c.inverse-normaliser.ensures
    ∙ ap k.inv (c.s_p_at_p.ensures ∙ ap (normaliser k n) c.neg.ensures.opposite))
    ∙ lifted-reciprocal g.F.Operations.laws g.EF.Operations.laws g.met.EF.ExtensionField.embedding n
    s c.requires.genuine c.args.self.now.shift.on_circle in
    g.met.EF.Field.sub_law _ _ _ c.sub.ensures
    ∙ ap (λ v. sub l v c.mul-2.result) (c.ONE.ensures ∙ g.met.EF.Field.one_law)
    ∙ ap (sub l l.one) (g.met.EF.Field.mul_law _ _ _ c.mul-2.ensures
    ∙ ap (λ v. l.mul v c.from_base.result) last
    ∙ ap (l.mul (last_row l n (lifted embed s) q)) scale)
