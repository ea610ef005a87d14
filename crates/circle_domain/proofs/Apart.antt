-- A point that a domain is clear of differs from all its points in the x coordinate.
use Rattle.std.specs.Prelude.{◌≡◌, ◌≢◌, ℕ, ◌+◌, ◌^◌, ◌<◌, ◌≤◌, [], ◌∷◌, length, map, All}
use Rattle.std.specs.Prelude.{slice_index_or}
use Rattle.std.specs.List.{AllByRecursion}
use Rattle.std.proofs.Common.{zero, suc, sym, ◌∙◌, ap, refl, arith, subst}
use Rattle.std.proofs.Math.Nat.{pow-suc}
use Rattle.std.proofs.lemmas.List.{length-map, get_or-map}
use Rattle.std.proofs.lemmas.List.Elements.{recursion_from_All, All-from_recursion}
use Rattle.circle_field.specs.Field.{FieldOps, RingLaws, FieldLaws, IsEmbedding, sub}
use Rattle.circle_field.specs.Ring.{Expr, var, con, unit, plus as sum, times as prod, minus}
use Rattle.circle_field.specs.RingCombine.{given, combine}
use Rattle.circle_field.specs.Circle.{Coordinates, IsOnCircle, AreGenerators, plus, opposite}
use Rattle.circle_field.specs.Circle.{lifted, origin}
use Rattle.circle_field.specs.CircleGroup.{lifted-on_circle, plus-on_circle}
use Rattle.circle_field.proofs.Inverses.{nonzero_product}
use Rattle.circle_domain.specs.Clear.{IsClearOf}
use Rattle.circle_domain.specs.Order.{coset, natural_from, with_opposites}
use Rattle.circle_domain.specs.Ordering.{cfft_index}
use Rattle.circle_domain.proofs.Blocks.{all-append}
use Rattle.circle_domain.proofs.CosetOrder.{cfft-place, with_opposites-even, with_opposites-odd}
use Rattle.circle_domain.proofs.Orders.{length-natural_from}
use Rattle.circle_domain.proofs.Reversal.{cfft_index-below}
use Rattle.circle_domain.proofs.Twiddles.{length-coset}

module _ {F E : Type 0} {k : FieldOps F} {l : FieldOps E} {m : F → E} (base : RingLaws k)
    (laws : FieldLaws l) (e : IsEmbedding k l m) where
  -- one point and its opposite
  x_apart : (p : Coordinates F) (q : Coordinates E) → IsOnCircle k p → IsOnCircle l q →
      (plus l q (opposite l (lifted m p))).y ≢ l.zero →
      (plus l q (opposite l (lifted m (opposite k p)))).y ≢ l.zero → sub l (m p.x) q.x ≢ l.zero
  x_apart p q cp cq first second = λ bad.
      let a : Expr = var 0 in let b : Expr = var 1 in let c : Expr = var 2 in let d : Expr =
      var 3 in
      let first_y : Expr = sum (prod c (minus b)) (prod d a) in
      let second_y : Expr = sum (prod c (minus (minus b))) (prod d a) in
      nonzero_product laws (plus l q (opposite l (lifted m p))).y
      (plus l q (opposite l (lifted m (opposite k p)))).y first second
      (ap
      (λ y. l.mul (plus l q (opposite l (lifted m p))).y
      (l.add (l.mul q.x (l.neg y)) (l.mul q.y (m p.x)))) (e.neg p.y)
      ∙ combine laws.ring (m p.x ∷ m p.y ∷ q.x ∷ q.y ∷ []) (prod first_y second_y) (con 0)
      (given (minus (prod c c)) (sum (prod a a) (prod b b)) unit
      ∷ given (prod a a) (sum (prod c c) (prod d d)) unit
      ∷ given (sum a c) (sum a (minus c)) (con 0) ∷ []) refl
      (lifted-on_circle e p cp, (cq, (bad, tt))))

  module _ {gen : ℕ → Coordinates F} {bits : ℕ} (gens : AreGenerators k bits gen) where
    coset-on_circle : (i : ℕ) (p : Coordinates F) → i ≤ bits → IsOnCircle k p →
        AllByRecursion (IsOnCircle k) (coset k gen i p)
    coset-on_circle zero p h c = (c, tt)
    coset-on_circle (suc i) p h c =
        let p' = plus k p (gen (suc i)) in
        all-append (IsOnCircle k) (coset k gen i p) (coset k gen i p')
        (coset-on_circle i p (omega arith) c)
        (coset-on_circle i p' (omega arith)
        (plus-on_circle base p (gen (suc i)) c (gens.on_circle (suc i) h)))

    module _ (i : ℕ) (s : Coordinates F) (q : Coordinates E) (fits : i ≤ bits) (cs : IsOnCircle k s)
        (cq : IsOnCircle l q)
        (clear : IsClearOf l m (natural_from k (2 ^ i) (gen i) s 0) q) where
      at_place : (h : ℕ) → h < 2 ^ i →
          sub l (m (slice_index_or (coset k gen i s) h (origin k)).x) q.x ≢ l.zero
      at_place h lt =
          let o = origin k in
          let ps = coset k gen i s in
          let p = slice_index_or ps h o in
          let pow = pow-suc 2 i in
          let long : length ps ≡ 2 ^ i = length-coset k gen i s in
          let there : h < length ps = omega (arith, lt, long) in
          let Clear : Coordinates F → Type 0 =
          λ r. (plus l q (opposite l (lifted m r))).y ≢ l.zero in
          let natural = natural_from k (2 ^ i) (gen i) s 0 in
          let size : length natural ≡ 2 ^ suc i = length-natural_from k (2 ^ i) (gen i) s 0
          ∙ omega (arith, pow) in
          let at : (j : ℕ) → j < 2 ^ suc i → Clear (slice_index_or (with_opposites k ps) j o) =
          λ j below. subst Clear (sym (cfft-place base gens i j s o below fits))
          (clear (cfft_index (suc i) j) o (let b = cfft_index-below (suc i) j in
          omega (arith, b, size))) in
          x_apart p q (All-from_recursion (IsOnCircle k) ps (coset-on_circle i s fits cs) h o there)
          cq
          (subst Clear (with_opposites-even k ps h (h + h) o refl there)
          (at (h + h) (omega (arith, lt, pow))))
          (subst Clear (with_opposites-odd k ps h (suc (h + h)) o refl there)
          (at (suc (h + h)) (omega (arith, lt, pow))))

      -- in the form that an inversion requires
      pub differences-nonzero : All (λ d. d ≢ l.zero)
          (map (λ (p : Coordinates F). sub l (m p.x) q.x) (coset k gen i s))
      differences-nonzero h d lt =
          let ps = coset k gen i s in
          let f = λ (p : Coordinates F). sub l (m p.x) q.x in
          let there : h < length ps = omega (arith, lt, length-map ps f) in
          let read = get_or-map f ps h (origin k) d there in
          λ bad. at_place h (omega (arith, there, length-coset k gen i s)) (sym read ∙ bad)

      pub lifted-apart : AllByRecursion (λ r. sub l r.x q.x ≢ l.zero)
          (map (lifted m) (coset k gen i s))
      lifted-apart =
          let ps = coset k gen i s in
          recursion_from_All (λ r. sub l r.x q.x ≢ l.zero) (map (lifted m) ps)
          (λ h d lt.
          let there : h < length ps = omega (arith, lt, length-map ps (lifted m)) in
          let read = get_or-map (lifted m) ps h (origin k) d there in
          λ bad. at_place h (omega (arith, there, length-coset k gen i s))
          (sym (ap (λ (r : Coordinates E). sub l r.x q.x) read) ∙ bad))
