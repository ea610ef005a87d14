-- Values on a domain of a field, times the shares of its points in a larger field, add up to the
-- value there.
use Rattle.std.specs.Prelude.{◌≡◌, ◌≢◌, ℕ, ◌-◌, ◌^◌, ◌≤◌, List, length, map, All}
use Rattle.std.specs.List.{AllByRecursion}
use Rattle.std.proofs.Common.{suc, sym, ◌∙◌, ap, subst, arith}
use Rattle.std.proofs.lemmas.List.{length-map}
use Rattle.circle_field.specs.Field.{FieldOps, RingLaws, FieldLaws, IsEmbedding, sub, nth_power}
use Rattle.circle_field.specs.Field.{two}
use Rattle.circle_field.specs.Circle.{Coordinates, IsOnCircle, AreGenerators, lifted, origin, times}
use Rattle.circle_field.specs.CircleGroup.{lifted-on_circle}
use Rattle.circle_field.proofs.Inverses.{inverse_unique}
use Rattle.circle_point.specs.Basis.{value, vanishing}
use Rattle.circle_domain.specs.Clear.{IsClearOf}
use Rattle.circle_commit.specs.DotProduct.{dot}
use Rattle.circle_domain.specs.Lagrange.{shares}
use Rattle.circle_domain.specs.Layers.{factor}
use Rattle.circle_domain.specs.Order.{IsGenuine, coset, cfft_order, natural_order, natural_from}
use Rattle.circle_domain.specs.Order.{with_opposites}
use Rattle.circle_domain.proofs.Apart.{differences-nonzero, lifted-apart}
use Rattle.circle_domain.proofs.LagrangeShares.{shares-sum, s_p-nonzero}
use Rattle.circle_domain.proofs.Lifted.{lifted-times, lifted-origin, lifted-injective}
use Rattle.circle_domain.proofs.Lifted.{lifted-generators, lifted-nth_power, lifted-two}
use Rattle.circle_domain.proofs.Lifted.{lifted-vanishing}
use Rattle.circle_domain.proofs.LiftedValues.{lifted-values, lifted-coset, lifted-with_opposites}

module _ {F E : Type 0} {k : FieldOps F} {l : FieldOps E} {m : F → E} (base : RingLaws k)
    (laws : FieldLaws l) (e : IsEmbedding k l m)
    {gen : ℕ → Coordinates F} {bits : ℕ} (gens : AreGenerators k bits gen) where
  -- by the logarithm of half the size
  sum-at : (i : ℕ) (s : Coordinates F) (q : Coordinates E) (c : List F) (scale : E) → i ≤ bits →
      IsOnCircle k s → IsOnCircle l q →
      times k (2 ^ suc i) s ≢ origin k → IsClearOf l m (natural_from k (2 ^ i) (gen i) s 0) q →
      length c ≡ 2 ^ suc i →
      scale ≡ l.mul (sub l (factor l (suc i) q) (factor l (suc i) (lifted m s)))
      (l.inv (l.neg (l.mul (nth_power l (two l) (suc i)) (times l (2 ^ i) (lifted m s)).y))) →
      l.mul
      (dot l (shares l q (map (lifted m) (coset k gen i s)))
      (map m (map (value k c) (with_opposites k (coset k gen i s))))) scale
      ≡ value l (map m c) q
  sum-at i s q c scale fits cs cq genuine clear long is_scale =
      let up : ℕ → Coordinates E = λ j. lifted m (gen j) in
      let ps = coset k gen i s in
      let s' = lifted m s in
      let there : map (lifted m) ps ≡ coset l up i s' = lifted-coset e gen i s in
      let genuine' : times l (2 ^ suc i) s' ≢ origin l =
      λ bad. genuine
      (lifted-injective e (times k (2 ^ suc i) s) (origin k) (lifted-times e (2 ^ suc i) s ∙ bad
      ∙ sym (lifted-origin e))) in
      let values : map m (map (value k c) (with_opposites k ps)) ≡ map (value l (map m c))
      (with_opposites l (coset l up i s')) =
      lifted-values e c (with_opposites k ps)
      ∙ ap (map (value l (map m c)))
      (lifted-with_opposites e ps ∙ ap (with_opposites l) there) in
      ap (λ rs. l.mul (dot l (shares l q rs) (map m (map (value k c) (with_opposites k ps)))) scale)
      there
      ∙ ap (λ vs. l.mul (dot l (shares l q (coset l up i s')) vs) scale) values
      ∙ ap
      (l.mul
      (dot l (shares l q (coset l up i s'))
      (map (value l (map m c)) (with_opposites l (coset l up i s'))))) is_scale
      ∙ shares-sum laws i s' q (lifted-on_circle e s cs) genuine' (lifted-generators e gens)
      (map m c) (length-map c m ∙ long) (omega (arith, fits))
      (subst (AllByRecursion (λ r. sub l r.x q.x ≢ l.zero)) there
      (lifted-apart base laws e gens i s q fits cs cq clear))

  module _ (n : ℕ) (s : Coordinates F) (q : Coordinates E) (genuine : IsGenuine k n s)
      (fits : n ≤ suc bits) (cs : IsOnCircle k s) (cq : IsOnCircle l q)
      (clear : IsClearOf l m (natural_order k gen n s) q) where
    -- no difference of x coordinates is 0
    pub apart : All (λ d. d ≢ l.zero)
        (map (λ (p : Coordinates F). sub l (m p.x) q.x) (coset k gen (n - 1) s))
    apart =
        differences-nonzero base laws e gens (n - 1) s q (let g = genuine.0 in
        omega (arith, fits, g)) cs cq clear

    pub values-sum : (c : List F) (scale : E) → length c ≡ 2 ^ n →
        scale ≡ l.mul (sub l (vanishing l n q) (vanishing l n (lifted m s)))
        (l.inv (l.neg (l.mul (nth_power l (two l) n) (times l (2 ^ (n - 1)) (lifted m s)).y))) →
        l.mul
        (dot l (shares l q (map (lifted m) (coset k gen (n - 1) s)))
        (map m (map (value k c) (cfft_order k gen n s)))) scale ≡ value l (map m c) q
    values-sum c scale long is_scale =
        let i = n - 1 in
        let g = genuine.0 in
        let e1 : suc i ≡ n = omega (arith, g) in
        sum-at i s q c scale (omega (arith, fits, g)) cs cq
        (λ bad. genuine.1 (ap (λ j. times k (2 ^ j) s) (sym e1) ∙ bad)) clear
        (long ∙ ap (λ j. 2 ^ j) (sym e1))
        (is_scale
        ∙ ap
        (λ j. l.mul (sub l (vanishing l n q) (vanishing l n (lifted m s)))
        (l.inv (l.neg (l.mul (nth_power l (two l) j) (times l (2 ^ (n - 1)) (lifted m s)).y))))
        (sym e1))

-- the normalisation of the first point, and the scale that it gives
module _ {F : Type 0} {k : FieldOps F} (base : FieldLaws k) (n : ℕ) (s : Coordinates F) where
  pub normalisation-nonzero : IsGenuine k n s → IsOnCircle k s →
      k.neg (k.mul (nth_power k (two k) n) (times k (2 ^ (n - 1)) s).y) ≢ k.zero
  normalisation-nonzero genuine cs =
      let g = genuine.0 in
      let e1 : suc (n - 1) ≡ n = omega (arith, g) in
      λ bad. s_p-nonzero base (n - 1) s s cs
      (λ flat. genuine.1 (ap (λ j. times k (2 ^ j) s) (sym e1) ∙ flat))
      (ap (λ j. k.neg (k.mul (nth_power k (two k) j) (times k (2 ^ (n - 1)) s).y)) e1 ∙ bad)

module _ {F E : Type 0} {k : FieldOps F} {l : FieldOps E} {m : F → E} (base : FieldLaws k)
    (laws : FieldLaws l) (e : IsEmbedding k l m) (n : ℕ) (s : Coordinates F) where
  pub lifted-scale : (q : Coordinates E) (normal : F) →
      normal ≡ k.inv (k.neg (k.mul (nth_power k (two k) n) (times k (2 ^ (n - 1)) s).y)) →
      k.neg (k.mul (nth_power k (two k) n) (times k (2 ^ (n - 1)) s).y) ≢ k.zero →
      l.mul (sub l (vanishing l n q) (m (vanishing k n s))) (m normal)
      ≡ l.mul (sub l (vanishing l n q) (vanishing l n (lifted m s)))
      (l.inv (l.neg (l.mul (nth_power l (two l) n) (times l (2 ^ (n - 1)) (lifted m s)).y)))
  lifted-scale q normal is nonzero =
      let a = k.neg (k.mul (nth_power k (two k) n) (times k (2 ^ (n - 1)) s).y) in
      let up : m a ≡ l.neg (l.mul (nth_power l (two l) n) (times l (2 ^ (n - 1)) (lifted m s)).y) =
      e.neg (k.mul (nth_power k (two k) n) (times k (2 ^ (n - 1)) s).y)
      ∙ ap l.neg (e.mul (nth_power k (two k) n) (times k (2 ^ (n - 1)) s).y
      ∙ ap (λ v. l.mul v (m (times k (2 ^ (n - 1)) s).y))
      (lifted-nth_power e n (two k) ∙ ap (λ v. nth_power l v n) (lifted-two e))
      ∙ ap (λ (r : Coordinates E). l.mul (nth_power l (two l) n) r.y)
      (lifted-times e (2 ^ (n - 1)) s)) in
      let inverse : m (k.inv a) ≡ l.inv (m a) =
      inverse_unique laws (m a) (m (k.inv a))
      (λ bad. nonzero (e.injective a k.zero (bad ∙ sym e.zero)))
      (sym (e.mul (k.inv a) a) ∙ ap m (base.ring.mul_comm (k.inv a) a ∙ base.mul_inv a nonzero)
      ∙ e.one) in
      ap (λ v. l.mul (sub l (vanishing l n q) v) (m normal)) (lifted-vanishing e n s)
      ∙ ap (l.mul (sub l (vanishing l n q) (vanishing l n (lifted m s))))
      (ap m is ∙ inverse ∙ ap l.inv up)
