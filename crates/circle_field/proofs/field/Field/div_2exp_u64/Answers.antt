use Rattle.std.proofs.Common.{◌≡◌, ◌∙◌, ap}
use Rattle.circle_field.specs.Field.{nth_power, two}
use Rattle.circle_field.proofs.field.Field.div_2exp_u64.Goals as goal

pub returns : goal.returns
returns g c =
    let k = g.Self.Operations.ops in
    let half : c.halve.result ≡ k.inv (two k) =
    c.halve.ensures ∙ ap (λ x. k.mul x (k.inv (two k))) (c.ONE.ensures ∙ g.met.Self.Field.one_law)
    ∙ g.Self.Operations.laws.ring.one_mul _ in
    g.met.Self.Field.mul_law _ _ _ c.mul.ensures
    ∙ ap (k.mul c.args.self.now) (c.exp_u64.ensures ∙ ap (λ x. nth_power k x c.args.exp) half)
