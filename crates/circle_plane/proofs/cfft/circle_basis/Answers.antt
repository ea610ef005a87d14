use Rattle.std.proofs.Common.{◌≡◌, ◌-◌, ◌+◌, ◌++◌, [], ◌∷◌, ℕ, suc, ◌∙◌, sym, ap, map, arith}
use Rattle.std.proofs.lemmas.Grind.{common_steps}
use Rattle.circle_point.specs.Basis.{doubled_x, iterated_x, basis_values}
use Rattle.circle_point.specs.Point.{coordinates}
use Rattle.circle_point.proofs.Bases.{basis_values-next}
use Rattle.circle_point.proofs.Multiples.{iterated_x-suc}
use Rattle.circle_plane.proofs.cfft.circle_basis.Goals as goal

pub loop-init : goal.loop-init
loop-init g c =
    let k = g.F.Operations.ops in
    let p = coordinates c.args.point in
    let laws = g.F.Operations.laws.ring in
    let first : c.push-2.new.self.items ≡ c.ONE.result ∷ c.y.result ∷ [] =
    grind (arith, common_steps) in
    record {
      made =
          first
          ∙ ap (λ b. b ∷ c.y.result ∷ []) (c.ONE.ensures ∙ g.met.F.Field.one_law
          ∙ sym (laws.one_mul k.one))
          ∙ ap (λ b. k.mul k.one k.one ∷ b ∷ []) (c.y.ensures ∙ sym (laws.one_mul p.y));
      next = c.x-factor.ensures;
    }

pub loop-preserved : goal.loop-preserved
loop-preserved g c =
    let k = g.F.Operations.ops in
    let p = coordinates c.args.point in
    let m = c.loop.counter - 1 in
    let here : suc m ≡ c.loop.counter = omega arith in
    let there : suc (suc m) ≡ c.loop.counter + 1 = omega arith in
    let later : suc m ≡ c.loop.counter + 1 - 1 = omega arith in
    let step : c.sub-factor.result ≡ doubled_x k c.loop.factor =
    grind (
      arith,
      common_steps,
      g.met.F.Field.add_law,
      g.met.F.Field.sub_law,
      g.met.F.Field.one_law,
    ) in
    let basis = λ (n : ℕ). basis_values k n p in
    record {
      made =
          c.in_ok-append_scaled.ensures
          ∙ ap (λ b. b ++ map (λ x. k.mul x c.loop.factor) b)
          (c.loop.invariant.made ∙ ap basis (sym here))
          ∙ ap (λ u. basis (suc m) ++ map (λ x. k.mul x u) (basis (suc m))) c.loop.invariant.next
          ∙ sym (basis_values-next g.F.Operations.laws.ring m p) ∙ ap basis there;
      next = step ∙ ap (doubled_x k) c.loop.invariant.next ∙ sym (iterated_x-suc k m p.x)
          ∙ ap (λ n. iterated_x k n p.x) later;
    }

pub returns : goal.returns
returns g c = c.loop.invariant.made
    ∙ ap (λ n. basis_values g.F.Operations.ops n (coordinates c.args.point)) (omega arith)
