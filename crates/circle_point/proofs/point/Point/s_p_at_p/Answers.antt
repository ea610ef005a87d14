use Rattle.std.proofs.Common.{◌≡◌, ◌-◌, ◌*◌, ◌∙◌, ap}
use Rattle.circle_field.specs.Field.{nth_power, two}
use Rattle.circle_point.specs.Point.{coordinates}
use Rattle.circle_point.proofs.Selectors.{normalisation}
use Rattle.circle_point.proofs.point.Point.s_p_at_p.Goals as goal

pub returns : goal.returns
returns g c =
    let k = g.F.Operations.ops in
    let p = coordinates c.args.self in
    let scale = nth_power k (two k) (2 * c.args.log_n - 1) in
    let negated : c.neg.result ≡ _ =
    g.met.F.Field.neg_law _ _ c.neg.ensures
    ∙ ap k.neg (c.mul_2exp_u64.ensures ∙ ap (λ v. k.mul v scale) c.v_n_prod.ensures) in
    g.met.F.Field.mul_law _ _ _ c.mul.ensures ∙ ap (λ v. k.mul v p.y) negated
    ∙ normalisation g.F.Operations.laws c.args.log_n p c.requires.positive c.args.self.on_circle
