use Rattle.std.proofs.Common.{◌≡◌, ◌≢◌, ◌∙◌, sym, ap, subst, refl, arith, IsNone}
use Rattle.std.proofs.lemmas.Bool.{false≢true}
use Rattle.std.proofs.lemmas.Grind.{common_steps}
use Rattle.circle_field.specs.RingFacts.{neg_unique}
use Rattle.circle_point.specs.Point.{coordinates}
use Rattle.circle_point.specs.Projective.{from_line, to_line}
use Rattle.circle_point.proofs.Projections.{from_line-to_line}
use Rattle.circle_point.proofs.point.Point.to_projective_line.Goals as goal

pub returns-in_err-inverse-clause-none : goal.returns-in_err-inverse-clause-none
returns-in_err-inverse-clause-none g c =
    let k = g.F.Operations.ops in
    let laws = g.F.Operations.laws.ring in
    let x = c.args.self.x in
    let sum : c.add.result ≡ k.add x k.one =
    grind (arith, common_steps, g.met.F.Field.add_law, g.met.F.Field.one_law) in (
      λ _. neg_unique laws k.one x (laws.add_comm k.one x ∙ sym sum
          ∙ c.in_err-inverse.ensures.none.0 refl),
      λ _. subst IsNone (sym c.from_residual.ensures) refl,
    )

pub returns-clause-back : goal.returns-clause-back
returns-clause-back g c =
    let k = g.F.Operations.ops in
    let p = coordinates c.args.self in
    let sum : c.add.result ≡ k.add p.x k.one =
    grind (arith, common_steps, g.met.F.Field.add_law, g.met.F.Field.one_law) in
    let nonzero : k.add p.x k.one ≢ k.zero =
    λ z. false≢true (sym (c.in_ok-inverse.ensures.none.1 (sum ∙ z))) in
    let e : c.mul.result ≡ to_line k p = g.met.F.Field.mul_law _ _ _ c.mul.ensures
    ∙ ap (k.mul p.y) (c.in_ok-inverse.ensures.inverse ∙ ap k.inv sum) in
    ap (from_line k) e ∙ from_line-to_line g.F.Operations.laws p c.args.self.on_circle nonzero
