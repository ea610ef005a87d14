-- What the blocks make of values are their number times coefficients of these values.
use Rattle.std.specs.Prelude.{◌≡◌, ◌≢◌, ℕ, ◌+◌, ◌-◌, ◌^◌, ◌≤◌, List, [], ◌∷◌, ◌++◌, length, map}
use Rattle.std.specs.Prelude.{take, drop}
use Rattle.std.proofs.Common.{zero, suc, sym, ◌∙◌, ap, refl, arith, length-drop}
use Rattle.std.proofs.Math.Nat.{pow-suc}
use Rattle.std.proofs.lemmas.List.{map-append, take_at, drop_at, length-map, take-append-drop}
use Rattle.circle_field.specs.Field.{FieldOps, FieldLaws, IsEmbedding, sub, two, nth_power}
use Rattle.circle_field.specs.Circle.{Coordinates, IsOnCircle, AreGenerators, plus, origin, times}
use Rattle.circle_point.specs.Basis.{iterated_x, x_value}
use Rattle.circle_domain.specs.Order.{coset}
use Rattle.circle_commit.specs.DotProduct.{pairwise}
use Rattle.circle_domain.proofs.Blocks.{second_half-on_circle}
use Rattle.circle_domain.proofs.Inversion.{factor-nonzero, first-genuine, second-genuine}
use Rattle.circle_domain.proofs.Lifted.{lifted-iterated_x, lifted-inverse}
use Rattle.circle_domain.proofs.Transform.{map-same, first-long}
use Rattle.circle_domain.proofs.Twiddles.{map-map}
use Rattle.circle_commit.proofs.Written.{length-pairwise}
use Rattle.circle_folding.specs.Interpolation.{multiples}
use Rattle.circle_folding.proofs.Factors.{point_factors, length-point_factors, factor-coset}
use Rattle.circle_folding.proofs.Factors.{factor-second}
use Rattle.circle_folding.proofs.Halves.{x_value-halves, x_value-single}
use Rattle.circle_folding.proofs.Lengths.{length-multiples}
use Rattle.circle_folding.proofs.Linear.{x_value-sum, x_value-difference, first-back, second-back}
use Rattle.circle_folding.proofs.Linear.{twice-multiples}

module _ {F E : Type 0} {k : FieldOps F} {l : FieldOps E} {embed : F → E} (base : FieldLaws k)
    (laws : FieldLaws l) (e : IsEmbedding k l embed)
    {gen : ℕ → Coordinates F} {bits : ℕ} (gens : AreGenerators k bits gen) where
  -- the values of a polynomial in x at the points of a block
  abbrev pub x_values : ℕ → Coordinates F → List E → List E
  x_values m q c = map (λ p. x_value l c (embed p.x)) (coset k gen m q)

  single-values : (q : Coordinates F) (ws : List E) → length ws ≡ 1 → x_values 0 q ws
      ≡ map (l.mul l.one) ws
  single-values q [] long = absurd (omega (arith, long))
  single-values q (w ∷ []) long =
      let one : x_value l (w ∷ []) (embed q.x) ≡ w =
      sym (x_value-single laws.ring (w ∷ []) w (embed q.x) refl (omega arith) refl) in
      ap (λ v. v ∷ []) (one ∙ sym (laws.ring.one_mul w))
  single-values q (w ∷ v ∷ ws) long = absurd (omega (arith, long))

  pub multiples-values : (m : ℕ) (q : Coordinates F) (ws : List E) → m ≤ bits → IsOnCircle k q →
      times k (2 ^ suc m) q ≢ origin k → length ws ≡ 2 ^ m →
      x_values m q (multiples l embed m (map k.inv (point_factors k gen m q)) ws)
      ≡ map (l.mul (nth_power l (two l) m)) ws
  multiples-values zero q ws fits c h long = single-values q ws long
  multiples-values (suc m) q ws fits c h long =
      let n = 2 ^ m in
      let double : 2 ^ suc m ≡ n + n = omega (arith, pow-suc 2 m) in
      let q' = plus k q (gen (suc m)) in
      let t = iterated_x k m q.x in
      let i = embed (k.inv t) in
      let factors = map k.inv (point_factors k gen m q) in
      let factors' = map k.inv (point_factors k gen m q') in
      let wa = take n ws in
      let wb = drop n ws in
      let la : length wa ≡ n = first-long n (2 ^ suc m) ws long double in
      let lb : length wb ≡ n = omega (arith, length-drop n ws, long, double) in
      let a = multiples l embed m factors wa in
      let b = multiples l embed m factors' wb in
      let ma : length a ≡ n = length-multiples l embed m factors wa la in
      let mb : length b ≡ n = length-multiples l embed m factors' wb lb in
      let same_long : length a ≡ length b = ma ∙ sym mb in
      let lo = pairwise l.add a b in
      let hi = pairwise (λ x y. l.mul i (sub l x y)) a b in
      let llo : length lo ≡ n = length-pairwise l.add a b same_long ∙ ma in
      let lhi : length hi ≤ n =
      omega (arith, length-pairwise (λ x y. l.mul i (sub l x y)) a b same_long, ma) in
      let counted : length factors ≡ n - 1 = length-map (point_factors k gen m q) k.inv
      ∙ omega (arith, length-point_factors k gen m q) in
      let split : map k.inv (point_factors k gen m q ++ point_factors k gen m q') ≡ factors ++
      factors' = map-append k.inv (point_factors k gen m q) (point_factors k gen m q') in
      let step = λ (xs ys : List F).
      pairwise l.add (multiples l embed m xs wa) (multiples l embed m ys wb)
      ++ pairwise (λ x y. l.mul i (sub l x y)) (multiples l embed m xs wa)
      (multiples l embed m ys wb) in
      let first_factors : take (n - 1)
      (map k.inv (point_factors k gen m q ++ point_factors k gen m q')) ≡ factors =
      ap (take (n - 1)) split ∙ take_at factors factors' (n - 1) counted in
      let second_factors : drop (n - 1)
      (map k.inv (point_factors k gen m q ++ point_factors k gen m q')) ≡ factors' =
      ap (drop (n - 1)) split ∙ drop_at factors factors' (n - 1) counted in
      let made : multiples l embed (suc m) (map k.inv (point_factors k gen (suc m) q)) ws ≡ lo ++
      hi =
      ap
      (λ xs. step xs
      (drop (n - 1) (map k.inv (point_factors k gen m q ++ point_factors k gen m q'))))
      first_factors ∙ ap (step factors) second_factors in
      let c' = second_half-on_circle base.ring gens (suc m) q fits c in
      let unit : l.mul i (embed t) ≡ l.one =
      lifted-inverse e base t (factor-nonzero base (suc m) q c h) in
      let there : (p : Coordinates F) → x_value l (lo ++ hi) (embed p.x)
      ≡ l.add (l.add (x_value l a (embed p.x)) (x_value l b (embed p.x)))
      (l.mul (l.mul i (sub l (x_value l a (embed p.x)) (x_value l b (embed p.x))))
      (embed (iterated_x k m p.x))) = λ p.
      x_value-halves laws.ring m lo hi (embed p.x) llo lhi
      ∙ ap (λ v. l.add v (l.mul (x_value l hi (embed p.x)) (iterated_x l m (embed p.x))))
      (x_value-sum laws.ring a b (embed p.x) same_long)
      ∙ ap
      (λ v. l.add (l.add (x_value l a (embed p.x)) (x_value l b (embed p.x)))
      (l.mul v (iterated_x l m (embed p.x))))
      (x_value-difference laws.ring i a b (embed p.x) same_long)
      ∙ ap
      (λ v. l.add (l.add (x_value l a (embed p.x)) (x_value l b (embed p.x)))
      (l.mul (l.mul i (sub l (x_value l a (embed p.x)) (x_value l b (embed p.x)))) v))
      (sym (lifted-iterated_x e m p.x)) in
      let twice = λ (v : E). l.add v v in
      let first : map (λ p. x_value l (lo ++ hi) (embed p.x)) (coset k gen m q) ≡ map
      (l.mul (nth_power l (two l) (suc m))) wa =
      map-same (λ p. x_value l (lo ++ hi) (embed p.x)) (λ p. twice (x_value l a (embed p.x)))
      (λ p. iterated_x k m p.x ≡ t) (coset k gen m q)
      (factor-coset base gens m q t (omega arith) c refl)
      (λ p is_t. there p
      ∙ ap
      (λ v. l.add (l.add (x_value l a (embed p.x)) (x_value l b (embed p.x)))
      (l.mul (l.mul i (sub l (x_value l a (embed p.x)) (x_value l b (embed p.x)))) (embed v)))
      is_t
      ∙ first-back laws.ring (x_value l a (embed p.x)) (x_value l b (embed p.x)) i (embed t) unit)
      ∙ sym (map-map twice (λ p. x_value l a (embed p.x)) (coset k gen m q))
      ∙ ap (map twice) (multiples-values m q wa (omega arith) c (first-genuine base (suc m) q h) la)
      ∙ twice-multiples laws.ring (nth_power l (two l) m) wa in
      let second : map (λ p. x_value l (lo ++ hi) (embed p.x)) (coset k gen m q') ≡ map
      (l.mul (nth_power l (two l) (suc m))) wb =
      map-same (λ p. x_value l (lo ++ hi) (embed p.x)) (λ p. twice (x_value l b (embed p.x)))
      (λ p. iterated_x k m p.x ≡ k.neg t) (coset k gen m q')
      (factor-coset base gens m q' (k.neg t) (omega arith) c' (factor-second base gens m q fits c))
      (λ p is_t. there p
      ∙ ap
      (λ v. l.add (l.add (x_value l a (embed p.x)) (x_value l b (embed p.x)))
      (l.mul (l.mul i (sub l (x_value l a (embed p.x)) (x_value l b (embed p.x)))) v))
      (ap embed is_t ∙ e.neg t)
      ∙ second-back laws.ring (x_value l a (embed p.x)) (x_value l b (embed p.x)) i (embed t) unit)
      ∙ sym (map-map twice (λ p. x_value l b (embed p.x)) (coset k gen m q'))
      ∙ ap (map twice)
      (multiples-values m q' wb (omega arith) c' (second-genuine base gens (suc m) q fits c h)
      lb)
      ∙ twice-multiples laws.ring (nth_power l (two l) m) wb in
      ap (λ cs. x_values (suc m) q cs) made
      ∙ map-append (λ p. x_value l (lo ++ hi) (embed p.x)) (coset k gen m q) (coset k gen m q')
      ∙ ap (λ xs. xs ++ map (λ p. x_value l (lo ++ hi) (embed p.x)) (coset k gen m q')) first
      ∙ ap (λ ys. map (l.mul (nth_power l (two l) (suc m))) wa ++ ys) second
      ∙ sym (map-append (l.mul (nth_power l (two l) (suc m))) wa wb)
      ∙ ap (map (l.mul (nth_power l (two l) (suc m)))) (take-append-drop n ws)
