use Rattle.std.proofs.Common.{◌/◌, ap, ◌∙◌, arith}
use Rattle.circle_field.specs.Field.{nth_power}
use Rattle.circle_field.proofs.Powers.{halved_even, halved_odd, no_more}
use Rattle.circle_field.proofs.field.Field.exp_u64.Goals as goal
use Rattle.circle_field.proofs.field.Field.exp_u64.Goals.{then-rest-eq1, else-rest-eq1}

pub loop-rest-init : goal.loop-rest-init
loop-rest-init g c =
    let k = g.Self.Operations.ops in
    ap (λ x. k.mul x (nth_power k c.args.self.now c.args.power))
    (c.ONE-result.ensures ∙ g.met.Self.Field.one_law)
    ∙ g.Self.Operations.laws.ring.one_mul _

pub loop-rest-preserved : goal.loop-rest-preserved
loop-rest-preserved g c =
    let k = g.Self.Operations.ops in
    let laws = g.Self.Operations.laws.ring in
    let n = c.loop-rest.rest / 2 in
    let squared = λ (r : _). ap (λ b. k.mul r (nth_power k b n)) c.square-base.ensures in
    elim c.if-rest-eq1.branch [
      | then-rest-eq1 w ↦
          squared _ ∙ ap (λ r. k.mul r (nth_power k (k.mul c.loop-rest.base c.loop-rest.base) n))
          (w.result-is ∙ g.met.Self.Field.mul_law _ _ _ w.mul-result.ensures)
          ∙ halved_odd laws _ _ _ _ c.loop-rest.invariant w.if-rest-eq1.true
      | else-rest-eq1 w ↦
          squared _ ∙ ap (λ r. k.mul r (nth_power k (k.mul c.loop-rest.base c.loop-rest.base) n))
          w.result-is
          ∙ halved_even laws _ _ _ _ c.loop-rest.invariant (omega (arith, w.if-rest-eq1.false))
    ]

pub returns : goal.returns
returns g c = no_more g.Self.Operations.laws.ring _ _ _ _ c.loop-rest.invariant
    c.loop-rest-test.false
