use Rattle.std.proofs.Common.{◌≡◌, ◌≢◌, ◌-◌, ◌^◌, ◌∙◌, sym, ap, subst, arith, map, length, All}
use Rattle.std.proofs.Common.{IfSome}
use Rattle.std.proofs.lemmas.List.{length-map}
use Rattle.circle_field.specs.Circle.{Coordinates, lifted, times}
use Rattle.circle_field.specs.Field.{sub, nth_power, two}
use Rattle.circle_field.proofs.Inverses.{some_unless}
use Rattle.circle_point.specs.Basis.{vanishing, value}
use Rattle.circle_point.specs.Point.{coordinates}
use Rattle.circle_point.specs.declared.point.Point.{Point}
use Rattle.circle_domain.specs.Domain.{log_size, shift_of}
use Rattle.circle_domain.specs.Order.{coset, cfft_order}
use Rattle.circle_commit.specs.DotProduct.{dot}
use Rattle.circle_domain.specs.Lagrange.{shares}
use Rattle.circle_domain.proofs.LagrangeShares.{length-shares}
use Rattle.circle_domain.proofs.LagrangeValues.{apart, normalisation-nonzero, lifted-scale}
use Rattle.circle_domain.proofs.LagrangeValues.{values-sum}
use Rattle.circle_domain.proofs.Orders.{two_halves}
use Rattle.circle_domain.proofs.Twiddles.{map-map, length-coset}
use Rattle.circle_domain.proofs.lagrange.lagrange_weights.Goals as goal

pub first_points-requires-clause-positive : goal.first_points-requires-clause-positive
first_points-requires-clause-positive g c = c.requires.genuine.0

pub first_points-requires-clause-in_group : goal.first_points-requires-clause-in_group
first_points-requires-clause-in_group g c = c.requires.in_group

pub s_p_at_p-requires-clause-positive : goal.s_p_at_p-requires-clause-positive
s_p_at_p-requires-clause-positive g c = omega (arith, c.log_n.ensures, c.requires.genuine.0)

pub s_p_at_p-requires-clause-small : goal.s_p_at_p-requires-clause-small
s_p_at_p-requires-clause-small g c =
    omega (arith, c.log_n.ensures, c.requires.in_group, g.met.F.ComplexExtendable.at_most_62)

pub shares_of-requires : goal.shares_of-requires
shares_of-requires g c =
    let k = g.F.Operations.ops in
    let l = g.EF.Operations.ops in
    let m = g.EF.ExtensionField.embed in
    let q = coordinates c.args.at in
    let n = log_size c.args.domain in
    let s = shift_of c.args.domain in
    let NonZero : g.row.EF.Denot → Type 0 = λ d. d ≢ l.zero in
    let f = λ (p : Coordinates g.row.F.Denot). sub l (m p.x) q.x in
    let points = c.in_ok-points.points.items in
    subst (All NonZero)
    (sym (ap (map (λ p. f (coordinates p))) c.deref.ensures.value
    ∙ sym (map-map f coordinates points) ∙ ap (map f) c.in_ok-points.ensures))
    (apart g.F.Operations.laws.ring g.EF.Operations.laws g.met.EF.ExtensionField.embedding
    g.met.F.ComplexExtendable.generators_law n s q c.requires.genuine
    (let fits = c.requires.in_group in omega (arith, fits)) c.args.domain.shift.on_circle
    c.args.at.on_circle c.requires.clear)

pub unwrap-normalisation-requires : goal.unwrap-normalisation-requires
unwrap-normalisation-requires g c =
    let k = g.F.Operations.ops in
    let n = log_size c.args.domain in
    let s = shift_of c.args.domain in
    let is : c.s_p_at_p.result ≡ k.neg (k.mul (nth_power k (two k) n) (times k (2 ^ (n - 1)) s).y) =
    c.s_p_at_p.ensures
    ∙ ap
    (λ j. k.neg
    (k.mul (nth_power k (two k) j)
    (times k (2 ^ (j - 1)) (coordinates c.shift-shift.result)).y)) c.log_n.ensures
    ∙ ap
    (λ (p : Coordinates g.row.F.Denot). k.neg
    (k.mul (nth_power k (two k) n) (times k (2 ^ (n - 1)) p).y)) c.shift-shift.ensures in
    some_unless c.try_inverse.result
    (λ none. normalisation-nonzero g.F.Operations.laws n s c.requires.genuine
    c.args.domain.shift.on_circle (sym is ∙ c.try_inverse.ensures.none.0 none))

pub returns-clause-count : goal.returns-clause-count
returns-clause-count g c =
    let k = g.F.Operations.ops in
    let l = g.EF.Operations.ops in
    let n = log_size c.args.domain in
    let s = shift_of c.args.domain in
    let points = c.deref.result.now in
    let up = λ (p : Point g.row.F.Denot g.F.Operations). lifted g.EF.ExtensionField.embed
    (coordinates p) in
    let halves = two_halves n c.requires.genuine.0 in
    let long : length points ≡ 2 ^ (n - 1) =
    ap length c.deref.ensures.value ∙ sym (length-map c.in_ok-points.points.items coordinates)
    ∙ ap length c.in_ok-points.ensures ∙ length-coset k g.F.ComplexExtendable.generators (n - 1)
    s in
    ap length c.in_ok-shares.ensures ∙ length-shares l (coordinates c.args.at) (map up points)
    ∙ omega (arith, length-map points up, long, halves)

pub returns-clause-sum : goal.returns-clause-sum
returns-clause-sum g c =
    let k = g.F.Operations.ops in
    let l = g.EF.Operations.ops in
    let m = g.EF.ExtensionField.embed in
    let q = coordinates c.args.at in
    let n = log_size c.args.domain in
    let s = shift_of c.args.domain in
    let points = c.in_ok-points.points.items in
    let normal = c.unwrap-normalisation.result in
    let is : c.s_p_at_p.result ≡ k.neg (k.mul (nth_power k (two k) n) (times k (2 ^ (n - 1)) s).y) =
    c.s_p_at_p.ensures
    ∙ ap
    (λ j. k.neg
    (k.mul (nth_power k (two k) j)
    (times k (2 ^ (j - 1)) (coordinates c.shift-shift.result)).y)) c.log_n.ensures
    ∙ ap
    (λ (p : Coordinates g.row.F.Denot). k.neg
    (k.mul (nth_power k (two k) n) (times k (2 ^ (n - 1)) p).y)) c.shift-shift.ensures in
    let inverse : normal ≡ k.inv c.s_p_at_p.result =
    subst (λ o. IfSome o (λ b. b ≡ k.inv c.s_p_at_p.result)) c.unwrap-normalisation.ensures
    c.try_inverse.ensures.inverse in
    let there : c.v_n.result ≡ vanishing l n q = c.v_n.ensures.polynomial
    ∙ ap (λ j. vanishing l j q) c.log_n-2.ensures in
    let here : c.v_n-2.result ≡ vanishing k n s =
    c.v_n-2.ensures.polynomial ∙ ap (λ j. vanishing k j (coordinates c.shift-shift.result))
    c.log_n-3.ensures ∙ ap (vanishing k n) c.shift-shift.ensures in
    let scale : c.mul.result ≡ l.mul (sub l (vanishing l n q) (m (vanishing k n s))) (m normal) =
    g.met.EF.Field.mul_law _ _ _ c.mul.ensures
    ∙ ap (λ a. l.mul a c.from_base-2.result) (g.met.EF.Field.sub_law _ _ _ c.sub-vanishing.ensures
    ∙ ap (λ a. sub l a c.from_base.result) there
    ∙ ap (sub l (vanishing l n q)) (c.from_base.ensures ∙ ap m here))
    ∙ ap (l.mul (sub l (vanishing l n q) (m (vanishing k n s)))) c.from_base-2.ensures in
    let made : c.in_ok-shares.shares.items ≡ shares l q
    (map (lifted m) (coset k g.F.ComplexExtendable.generators (n - 1) s)) =
    c.in_ok-shares.ensures ∙ ap (λ ps. shares l q (map (λ p. lifted m (coordinates p)) ps))
    c.deref.ensures.value
    ∙ ap (shares l q) (sym (map-map (lifted m) coordinates points)
    ∙ ap (map (lifted m)) c.in_ok-points.ensures) in
    λ coeffs long.
    ap
    (λ ws. l.mul
    (dot l ws
    (map m (map (value k coeffs) (cfft_order k g.F.ComplexExtendable.generators n s))))
    c.mul.result) made
    ∙ values-sum g.F.Operations.laws.ring g.EF.Operations.laws g.met.EF.ExtensionField.embedding
    g.met.F.ComplexExtendable.generators_law n s q c.requires.genuine
    (let fits = c.requires.in_group in omega (arith, fits)) c.args.domain.shift.on_circle
    c.args.at.on_circle c.requires.clear coeffs c.mul.result long
    (scale ∙ lifted-scale g.F.Operations.laws g.EF.Operations.laws g.met.EF.ExtensionField.embedding
    n s q normal (inverse ∙ ap k.inv is)
    (normalisation-nonzero g.F.Operations.laws n s c.requires.genuine
    c.args.domain.shift.on_circle))

pub sub-vanishing-requires : goal.sub-vanishing-requires
sub-vanishing-requires g c = g.met.EF.Field.can_sub_law c.v_n.result c.from_base.result

pub mul-requires : goal.mul-requires
mul-requires g c = g.met.EF.Field.can_mul_law c.sub-vanishing.result c.from_base-2.result
