use Rattle.std.proofs.Common.{◌≡◌, ◌+◌, ◌-◌, suc, ◌∙◌, sym, ap, arith}
use Rattle.std.proofs.lemmas.Grind.{common_steps}
use Rattle.circle_point.specs.Basis.{doubled_x, iterated_x, vanishing_product}
use Rattle.circle_point.specs.Point.{coordinates}
use Rattle.circle_point.proofs.Multiples.{iterated_x-suc}
use Rattle.circle_point.proofs.point.Point.v_n_prod.Goals as goal

pub loop-preserved : goal.loop-preserved
loop-preserved g c =
    let k = g.F.Operations.ops in
    let p = coordinates c.args.self in
    let m = c.loop.counter - 1 in
    let step : c.sub-factor.result ≡ doubled_x k c.loop.factor =
    grind (
      arith,
      common_steps,
      g.met.F.Field.add_law,
      g.met.F.Field.sub_law,
      g.met.F.Field.one_law,
    ) in
    let e : suc m ≡ c.loop.counter + 1 - 1 = omega arith in
    let same : suc m - 1 ≡ m = omega arith in
    record {
      doubled = step ∙ ap (doubled_x k) c.loop.invariant.doubled ∙ sym (iterated_x-suc k m p.x)
          ∙ ap (λ n. iterated_x k n p.x) e;
      multiplied =
          g.met.F.Field.mul_law _ _ _ c.mul-product.ensures
          ∙ ap (λ v. k.mul v c.loop.factor) c.loop.invariant.multiplied
          ∙ ap (k.mul (vanishing_product k m p))
          (c.loop.invariant.doubled ∙ ap (λ n. iterated_x k n p.x) (sym same))
          ∙ ap (λ n. vanishing_product k n p) e;
      in_range = omega arith;
    }
