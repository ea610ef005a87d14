use Rattle.std.proofs.Common.{◌≡◌, ◌≢◌, ◌∙◌, sym, ap, subst, refl, arith, IsNone}
use Rattle.std.proofs.lemmas.Bool.{false≢true}
use Rattle.std.proofs.lemmas.Grind.{common_steps}
use Rattle.circle_field.specs.Circle.{at}
use Rattle.circle_field.specs.CircleGroup.{same-on_circle}
use Rattle.circle_point.specs.Projective.{line_norm, from_line, to_line}
use Rattle.circle_point.proofs.Projections.{line_norm-zero, from_line-on_circle, to_line-from_line}
use Rattle.circle_point.proofs.point.Point.from_projective_line.Goals as goal

pub returns-in_err-inverse-clause-none : goal.returns-in_err-inverse-clause-none
returns-in_err-inverse-clause-none g c =
    let k = g.F.Operations.ops in
    let norm : c.add.result ≡ line_norm k c.args.t =
    grind (arith, common_steps, g.met.F.Field.add_law, g.met.F.Field.one_law) in (
      λ _. line_norm-zero g.F.Operations.laws c.args.t
          (sym norm ∙ c.in_err-inverse.ensures.none.0 refl),
      λ _. subst IsNone (sym c.from_residual.ensures) refl,
    )

pub invariant_of-result : goal.invariant_of-result
invariant_of-result g c =
    let k = g.F.Operations.ops in
    let laws = g.F.Operations.laws in
    let norm : c.add.result ≡ line_norm k c.args.t =
    grind (arith, common_steps, g.met.F.Field.add_law, g.met.F.Field.one_law) in
    let nonzero : line_norm k c.args.t ≢ k.zero =
    λ z. false≢true (sym (c.in_ok-inverse.ensures.none.1 (norm ∙ z))) in
    let inverse : c.in_ok-inverse.inverse ≡ k.inv (line_norm k c.args.t) =
    c.in_ok-inverse.ensures.inverse ∙ ap k.inv norm in
    let e : at c.mul.result c.mul-2.result ≡ from_line k c.args.t =
    grind (
      arith,
      common_steps,
      g.met.F.Field.sub_law,
      g.met.F.Field.mul_law,
      g.met.F.Field.one_law,
      inverse,
    ) in
    record { on_circle = same-on_circle laws.ring _ e (from_line-on_circle laws c.args.t nonzero) }

pub returns-clause-back : goal.returns-clause-back
returns-clause-back g c =
    let k = g.F.Operations.ops in
    let norm : c.add.result ≡ line_norm k c.args.t =
    grind (arith, common_steps, g.met.F.Field.add_law, g.met.F.Field.one_law) in
    let nonzero : line_norm k c.args.t ≢ k.zero =
    λ z. false≢true (sym (c.in_ok-inverse.ensures.none.1 (norm ∙ z))) in
    let inverse : c.in_ok-inverse.inverse ≡ k.inv (line_norm k c.args.t) =
    c.in_ok-inverse.ensures.inverse ∙ ap k.inv norm in
    let e : at c.mul.result c.mul-2.result ≡ from_line k c.args.t =
    grind (
      arith,
      common_steps,
      g.met.F.Field.sub_law,
      g.met.F.Field.mul_law,
      g.met.F.Field.one_law,
      inverse,
    ) in
    ap (to_line k) e ∙ to_line-from_line g.F.Operations.laws c.args.t nonzero
