use Rattle.std.proofs.Common.{◌≡◌, ◌≤◌, ◌<◌, ◌∙◌, sym, ap, arith, length}
use Rattle.std.proofs.lemmas.Nat.{pow_pos}
use Rattle.circle_point.specs.Basis.{iterated_x, x_value}
use Rattle.circle_domain.proofs.Lifted.{lifted-iterated_x}
use Rattle.circle_folding.proofs.Halves.{x_value-single, x_value-halves, half-power}
use Rattle.circle_folding.proofs.evaluation.+x_value.Goals as goal

pub bounds-coefficients-0 : goal.bounds-coefficients-0
bounds-coefficients-0 g t c = omega (arith, c.requires.1, pow_pos c.requires.0)

pub returns-then-half-eq0 : goal.returns-then-half-eq0
returns-then-half-eq0 g t c =
    let some : 1 ≤ length c.args.coefficients.now =
    omega (arith, c.requires.1, pow_pos c.requires.0) in
    x_value-single g.EF.Operations.laws.ring c.args.coefficients.now c.index-coefficients-0.result
    (g.EF.ExtensionField.embed c.args.x) c.if-half-eq0.true some c.index-coefficients-0.is

pub x_value-requires : goal.x_value-requires
x_value-requires g t c =
    let half = half-power (length c.args.coefficients.now) c.requires.0 c.requires.1
    c.if-half-eq0.false in
    let smaller : length c.split_at.result.0.now < length c.args.coefficients.now =
    omega (arith, c.split_at.ensures.front_len, half.3, c.if-half-eq0.false) in
    λ κs outlives. (
      omega (arith, smaller, c.decreases),
      (outlives.0, (outlives.1, (half.0, c.split_at.ensures.front_len ∙ half.2))),
    )

pub x_value-requires-2 : goal.x_value-requires-2
x_value-requires-2 g t c =
    let half = half-power (length c.args.coefficients.now) c.requires.0 c.requires.1
    c.if-half-eq0.false in
    let smaller : length c.split_at.result.1.now < length c.args.coefficients.now =
    omega (arith, c.split_at.ensures.back_len, half.3, c.if-half-eq0.false) in
    λ κs outlives. (
      omega (arith, smaller, c.decreases),
      (
        outlives.0,
        (outlives.1, (half.0, omega (arith, c.split_at.ensures.back_len, half.3, half.2))),
      ),
    )

pub log2_strict-requires : goal.log2_strict-requires
log2_strict-requires g t c =
    let half = half-power (length c.args.coefficients.now) c.requires.0 c.requires.1
    c.if-half-eq0.false in
    (half.0, half.2)

pub returns : goal.returns
returns g t c =
    let k = g.F.Operations.ops in
    let l = g.EF.Operations.ops in
    let embed = g.EF.ExtensionField.embed in
    let ring = g.EF.Operations.laws.ring in
    let x = c.args.x in
    let lo = c.split_at.result.0.now in
    let hi = c.split_at.result.1.now in
    let half = half-power (length c.args.coefficients.now) c.requires.0 c.requires.1
    c.if-half-eq0.false in
    let log : c.log2_strict.result ≡ half.0 = c.log2_strict.ensures.only half.0 half.2 in
    let factor : embed c.iterated_x.result ≡ iterated_x l half.0 (embed x) =
    ap embed c.iterated_x.ensures ∙ lifted-iterated_x g.met.EF.ExtensionField.embedding
    c.log2_strict.result x ∙ ap (λ n. iterated_x l n (embed x)) log in
    let upper : c.times_base.result ≡ l.mul (x_value l hi (embed x))
    (iterated_x l half.0 (embed x)) =
    c.times_base.ensures ∙ ap (λ v. l.mul v c.x_value-2.result) factor ∙ ring.mul_comm _ _
    ∙ ap (λ v. l.mul v (iterated_x l half.0 (embed x))) c.x_value-2.ensures in
    g.met.EF.Field.add_law _ _ _ c.add.ensures
    ∙ ap (λ v. l.add v c.times_base.result) c.x_value.ensures
    ∙ ap (l.add (x_value l lo (embed x))) upper
    ∙ sym (x_value-halves ring half.0 lo hi (embed x) (c.split_at.ensures.front_len ∙ half.2)
    (omega (arith, c.split_at.ensures.back_len, half.3, half.2)))
    ∙ ap (λ cs. x_value l cs (embed x)) (sym c.split_at.ensures.by_index.0)
