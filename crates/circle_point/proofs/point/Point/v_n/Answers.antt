use Rattle.std.proofs.Common.{◌≡◌, ◌+◌, ◌-◌, suc, ◌∙◌, sym, ap, arith}
use Rattle.std.proofs.lemmas.Grind.{common_steps}
use Rattle.circle_point.specs.Basis.{doubled_x, iterated_x}
use Rattle.circle_point.specs.Point.{coordinates}
use Rattle.circle_point.proofs.Multiples.{iterated_x-suc, iterated_x-times}
use Rattle.circle_point.proofs.point.Point.v_n.Goals as goal

pub loop-preserved : goal.loop-preserved
loop-preserved g c =
    let k = g.F.Operations.ops in
    let x = c.args.self.x in
    let step : c.sub-x.result ≡ doubled_x k c.loop.x =
    grind (
      arith,
      common_steps,
      g.met.F.Field.add_law,
      g.met.F.Field.sub_law,
      g.met.F.Field.one_law,
    ) in
    let e : suc (c.loop.counter - 1) ≡ c.loop.counter + 1 - 1 = omega arith in
    step ∙ ap (doubled_x k) c.loop.invariant ∙ sym (iterated_x-suc k (c.loop.counter - 1) x)
    ∙ ap (λ n. iterated_x k n x) e

pub returns-clause-multiple : goal.returns-clause-multiple
returns-clause-multiple g c =
    let k = g.F.Operations.ops in
    let p = coordinates c.args.self in
    let e : c.loop.counter ≡ c.args.log_n = omega arith in
    c.loop.invariant ∙ ap (λ n. iterated_x k (n - 1) p.x) e
    ∙ iterated_x-times g.F.Operations.laws.ring (c.args.log_n - 1) p c.args.self.on_circle
