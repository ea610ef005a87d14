use Rattle.std.proofs.Common.{◌≡◌, ◌+◌, suc, ◌∙◌, sym, ap, arith}
use Rattle.std.proofs.lemmas.Grind.{common_steps}
use Rattle.circle_point.specs.Basis.{doubled_x, iterated_x}
use Rattle.circle_point.proofs.Multiples.{iterated_x-suc}
use Rattle.circle_folding.proofs.evaluation.iterated_x.Goals as goal

pub loop-preserved : goal.loop-preserved
loop-preserved g c =
    let k = g.F.Operations.ops in
    let x = c.args.x in
    let step : c.sub-iterated.result ≡ doubled_x k c.loop.iterated =
    grind (
      arith,
      common_steps,
      g.met.F.Field.add_law,
      g.met.F.Field.sub_law,
      g.met.F.Field.one_law,
    ) in
    let e : suc c.loop.counter ≡ c.loop.counter + 1 = omega arith in
    step ∙ ap (doubled_x k) c.loop.invariant ∙ sym (iterated_x-suc k c.loop.counter x)
    ∙ ap (λ n. iterated_x k n x) e
