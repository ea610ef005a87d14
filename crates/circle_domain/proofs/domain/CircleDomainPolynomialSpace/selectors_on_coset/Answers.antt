use Rattle.std.proofs.Common.{◌≡◌, ◌≢◌, ◌∙◌, sym, ap, subst, refl, map, All, length, arith}
use Rattle.std.proofs.lemmas.List.{length-map}
use Rattle.circle_field.specs.Circle.{Coordinates, plus, opposite}
use Rattle.circle_field.specs.Extension.{identity_embedding}
use Rattle.circle_field.specs.Field.{sub}
use Rattle.circle_point.specs.Point.{coordinates}
use Rattle.circle_point.specs.declared.point.Point.{Point}
use Rattle.circle_domain.specs.Clear.{IsClearOf}
use Rattle.circle_domain.specs.Domain.{log_size, shift_of}
use Rattle.circle_commit.specs.DotProduct.{pairwise}
use Rattle.circle_domain.specs.Order.{natural_order}
use Rattle.circle_domain.specs.Selectors.{vanishing_on, zero_at, normaliser, first_row, last_row}
use Rattle.circle_domain.proofs.Reciprocals.{normaliser-nonzero, vanishing-nonzero, clear-first}
use Rattle.circle_domain.proofs.Reciprocals.{clear-last}
use Rattle.circle_domain.proofs.SelectorRows.{all-mapped, selector-rows}
use Rattle.circle_domain.proofs.Twiddles.{map-map}
use Rattle.circle_domain.proofs.domain.CircleDomainPolynomialSpace.selectors_on_coset.Goals as goal

pub natural_points-requires-clause-positive : goal.natural_points-requires-clause-positive
natural_points-requires-clause-positive g c = c.requires.coset_positive

pub natural_points-requires-clause-in_group : goal.natural_points-requires-clause-in_group
natural_points-requires-clause-in_group g c = c.requires.coset_in_group

pub vanishing_values-requires : goal.vanishing_values-requires
vanishing_values-requires g c = c.requires.genuine.0

pub row_selector-requires-clause-count : goal.row_selector-requires-clause-count
row_selector-requires-clause-count g c =
    let points = c.in_ok-points.points.items in
    let value = λ (p : Point g.row.F.Denot g.F.Operations). vanishing_on g.F.Operations.ops
    (log_size c.args.self.now) (shift_of c.args.self.now) (coordinates p) in
    ap length (c.deref-3.ensures.value ∙ c.in_ok-vanishing.ensures
    ∙ ap (map value) c.deref.ensures.value)
    ∙ length-map points value
    ∙ ap length (sym c.deref-2.ensures.value)

pub row_selector-requires-2-clause-count : goal.row_selector-requires-2-clause-count
row_selector-requires-2-clause-count g c =
    let points = c.in_ok-points.points.items in
    let value = λ (p : Point g.row.F.Denot g.F.Operations). vanishing_on g.F.Operations.ops
    (log_size c.args.self.now) (shift_of c.args.self.now) (coordinates p) in
    ap length (c.deref-5.ensures.value ∙ c.in_ok-vanishing.ensures
    ∙ ap (map value) c.deref.ensures.value)
    ∙ length-map points value
    ∙ ap length (sym c.deref-4.ensures.value)

pub s_p_at_p-requires-clause-positive : goal.s_p_at_p-requires-clause-positive
s_p_at_p-requires-clause-positive g c = c.requires.genuine.0

pub s_p_at_p-requires-clause-small : goal.s_p_at_p-requires-clause-small
s_p_at_p-requires-clause-small g c =
    omega (arith, c.requires.in_group, g.met.F.ComplexExtendable.at_most_62)

pub row_selector-requires-clause-apart : goal.row_selector-requires-clause-apart
row_selector-requires-clause-apart g c =
    let k = g.F.Operations.ops in
    let laws = g.F.Operations.laws in
    let n = log_size c.args.self.now in
    let s = shift_of c.args.self.now in
    let r = coordinates c.neg.result in
    let IsClear : Coordinates g.row.F.Denot → Type 0 =
    IsClearOf k (λ x. x) (natural_order k g.F.ComplexExtendable.generators n s) in
    let NonZero : g.row.F.Denot → Type 0 = λ y. y ≢ k.zero in
    let height =
    λ (p : Point g.row.F.Denot g.F.Operations). (plus k (coordinates p) (opposite k r)).y in
    all-mapped coordinates IsClear height NonZero c.deref-2.result.now
    (λ p clear. subst
    (λ (q : Coordinates g.row.F.Denot). (plus k (coordinates p) (opposite k q)).y ≢ k.zero)
    (sym c.neg.ensures.opposite)
    (clear-last laws laws (identity_embedding k) g.met.F.ComplexExtendable.generators_law n
    c.requires.genuine.0 c.requires.in_group s c.args.self.now.shift.on_circle (coordinates p)
    p.on_circle clear))
    (subst (All IsClear)
    (sym (ap (map coordinates) c.deref-2.ensures.value ∙ c.in_ok-points.ensures))
    c.requires.clear)

pub row_selector-requires-2-clause-apart : goal.row_selector-requires-2-clause-apart
row_selector-requires-2-clause-apart g c =
    let k = g.F.Operations.ops in
    let laws = g.F.Operations.laws in
    let n = log_size c.args.self.now in
    let s = shift_of c.args.self.now in
    let IsClear : Coordinates g.row.F.Denot → Type 0 =
    IsClearOf k (λ x. x) (natural_order k g.F.ComplexExtendable.generators n s) in
    let NonZero : g.row.F.Denot → Type 0 = λ y. y ≢ k.zero in
    let height =
    λ (p : Point g.row.F.Denot g.F.Operations). (plus k (coordinates p) (opposite k s)).y in
    all-mapped coordinates IsClear height NonZero c.deref-4.result.now
    (λ p clear. clear-first laws laws (identity_embedding k)
    g.met.F.ComplexExtendable.generators_law n c.requires.genuine.0 c.requires.in_group s
    c.args.self.now.shift.on_circle (coordinates p) p.on_circle clear)
    (subst (All IsClear)
    (sym (ap (map coordinates) c.deref-4.ensures.value ∙ c.in_ok-points.ensures))
    c.requires.clear)

pub inverse-normaliser-requires : goal.inverse-normaliser-requires
inverse-normaliser-requires g c = λ z.
    let k = g.F.Operations.ops in
    let n = log_size c.args.self.now in
    normaliser-nonzero g.F.Operations.laws n (shift_of c.args.self.now) c.requires.genuine
    c.args.self.now.shift.on_circle
    (ap (normaliser k n) (sym c.neg-2.ensures.opposite) ∙ sym c.s_p_at_p.ensures ∙ z)

pub batch_multiplicative_inverse-requires : goal.batch_multiplicative_inverse-requires
batch_multiplicative_inverse-requires g c =
    let k = g.F.Operations.ops in
    let laws = g.F.Operations.laws in
    let n = log_size c.args.self.now in
    let s = shift_of c.args.self.now in
    let IsClear : Coordinates g.row.F.Denot → Type 0 =
    IsClearOf k (λ x. x) (natural_order k g.F.ComplexExtendable.generators n s) in
    let NonZero : g.row.F.Denot → Type 0 = λ z. z ≢ k.zero in
    let value = λ (p : Point g.row.F.Denot g.F.Operations). vanishing_on k n s (coordinates p) in
    subst (All NonZero)
    (sym (c.deref-7.ensures.value ∙ c.in_ok-vanishing.ensures
    ∙ ap (map value) c.deref.ensures.value))
    (all-mapped coordinates IsClear value NonZero c.in_ok-points.points.items
    (λ p clear. vanishing-nonzero laws laws (identity_embedding k)
    g.met.F.ComplexExtendable.generators_law n c.requires.genuine.0 c.requires.in_group s
    c.args.self.now.shift.on_circle (coordinates p) p.on_circle clear)
    (subst (All IsClear) (sym c.in_ok-points.ensures) c.requires.clear))

pub returns-clause-first : goal.returns-clause-first
returns-clause-first g c =
    let k = g.F.Operations.ops in
    let n = log_size c.args.self.now in
    let s = shift_of c.args.self.now in
    let points = c.in_ok-points.points.items in
    let value = λ (p : Point g.row.F.Denot g.F.Operations). vanishing_on k n s (coordinates p) in
    let f = λ (z : g.row.F.Denot) (p : Point g.row.F.Denot g.F.Operations). k.mul z
    (k.inv (zero_at k s (coordinates p))) in
    c.in_ok-row_selector.ensures
    ∙ ap (λ zs. pairwise f zs c.deref-4.result.now)
    (c.deref-5.ensures.value ∙ c.in_ok-vanishing.ensures ∙ ap (map value) c.deref.ensures.value)
    ∙ ap (pairwise f (map value points)) c.deref-4.ensures.value
    ∙ selector-rows coordinates f value (first_row k n s) points (λ p. refl)
    ∙ ap (map (first_row k n s)) c.in_ok-points.ensures

pub returns-clause-last : goal.returns-clause-last
returns-clause-last g c =
    let k = g.F.Operations.ops in
    let n = log_size c.args.self.now in
    let s = shift_of c.args.self.now in
    let r = coordinates c.neg.result in
    let points = c.in_ok-points.points.items in
    let value = λ (p : Point g.row.F.Denot g.F.Operations). vanishing_on k n s (coordinates p) in
    let f = λ (z : g.row.F.Denot) (p : Point g.row.F.Denot g.F.Operations). k.mul z
    (k.inv (zero_at k r (coordinates p))) in
    c.in_ok-is_last_row.ensures
    ∙ ap (λ zs. pairwise f zs c.deref-2.result.now)
    (c.deref-3.ensures.value ∙ c.in_ok-vanishing.ensures ∙ ap (map value) c.deref.ensures.value)
    ∙ ap (pairwise f (map value points)) c.deref-2.ensures.value
    ∙ selector-rows coordinates f value (last_row k n s) points
    (λ p. ap
    (λ (q : Coordinates g.row.F.Denot). k.mul (value p) (k.inv (zero_at k q (coordinates p))))
    c.neg.ensures.opposite)
    ∙ ap (map (last_row k n s)) c.in_ok-points.ensures

pub returns-clause-transition : goal.returns-clause-transition
returns-clause-transition g c =
    let k = g.F.Operations.ops in
    let n = log_size c.args.self.now in
    let s = shift_of c.args.self.now in
    let coset = natural_order k g.F.ComplexExtendable.generators (log_size c.args.coset)
    (shift_of c.args.coset) in
    let less = λ (a v : g.row.F.Denot). sub k k.one (k.mul v a) in
    let scale : c.inverse-normaliser.result ≡ k.inv (normaliser k n (opposite k s)) =
    c.inverse-normaliser.ensures
    ∙ ap k.inv (c.s_p_at_p.ensures ∙ ap (normaliser k n) c.neg-2.ensures.opposite) in
    c.in_ok-one_less_scaled.ensures
    ∙ ap (map (less c.inverse-normaliser.result))
    (c.deref-6.ensures.value ∙ returns-clause-last g c)
    ∙ ap (λ a. map (less a) (map (last_row k n s) coset)) scale
    ∙ map-map (less (k.inv (normaliser k n (opposite k s)))) (last_row k n s) coset

pub returns-clause-inverse : goal.returns-clause-inverse
returns-clause-inverse g c =
    let k = g.F.Operations.ops in
    let n = log_size c.args.self.now in
    let s = shift_of c.args.self.now in
    let points = c.in_ok-points.points.items in
    let value = λ (p : Point g.row.F.Denot g.F.Operations). vanishing_on k n s (coordinates p) in
    let inverse = λ (q : Coordinates g.row.F.Denot). k.inv (vanishing_on k n s q) in
    c.in_ok-batch_multiplicative_inverse.ensures
    ∙ ap (map k.inv) (c.deref-7.ensures.value ∙ c.in_ok-vanishing.ensures
    ∙ ap (map value) c.deref.ensures.value)
    ∙ map-map k.inv value points
    ∙ sym (map-map inverse coordinates points)
    ∙ ap (map inverse) c.in_ok-points.ensures
