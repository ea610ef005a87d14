-- Polynomials in a challenge whose coefficients are codewords: where their values at as many
-- challenges as there are coefficients are of a kind that sums of multiples keep, so are the
-- coefficients.
use Rattle.std.specs.Prelude.{◌≡◌, ◌≢◌, ℕ, ◌+◌, ◌<◌, List, [], ◌∷◌, ◌++◌, length, map}
use Rattle.std.specs.List.{AllByRecursion, range_with_len}
use Rattle.std.proofs.Common.{zero, suc, ◌∙◌, ap, refl, arith, add-one}
use Rattle.std.proofs.lemmas.List.Elements.{recursion_from_All}
use Rattle.circle_field.specs.Field.{FieldOps, FieldLaws, sub, nth_power}
use Rattle.circle_field.specs.Ring.{Expr, var, con, unit, plus as sum, times as prod, minus}
use Rattle.circle_field.specs.RingSound.{ring}
use Rattle.circle_field.specs.RingCombine.{given, combine}
use Rattle.circle_field.specs.RingFacts.{neg_zero_cancel}
use Rattle.circle_commit.specs.DotProduct.{dot}
use Rattle.circle_folding.specs.Claims.{AreDistinct}

module _ {E : Type 0} (l : FieldOps E) where
  -- the sum of the entries, each times a power of a
  abbrev pub power_sum : E → List E → E
  power_sum a [] = l.zero
  power_sum a (x ∷ xs) = l.add x (l.mul a (power_sum a xs))

  -- likewise for codewords, at a place
  abbrev pub word_sum : List (ℕ → E) → E → ℕ → E
  word_sum [] a i = l.zero
  word_sum (t ∷ ts) a i = l.add (t i) (l.mul a (word_sum ts a i))

  -- the quotient by the difference of the challenge and a
  abbrev divided : E → List (ℕ → E) → List (ℕ → E)
  divided a [] = []
  divided a (t ∷ ts) = word_sum (t ∷ ts) a ∷ divided a ts

module _ {E : Type 0} {l : FieldOps E} (laws : FieldLaws l) where
  division : (a b : E) (ts : List (ℕ → E)) (i : ℕ) →
      sub l (l.mul b (word_sum l ts b i)) (l.mul a (word_sum l ts a i))
      ≡ l.mul (sub l b a) (word_sum l (divided l a ts) b i)
  division a b [] i =
      ring laws.ring (a ∷ b ∷ []) (sum (prod (var 1) (con 0)) (minus (prod (var 0) (con 0))))
      (prod (sum (var 1) (minus (var 0))) (con 0)) refl
  division a b (t ∷ ts) i =
      let a' : Expr = var 0 in let b' : Expr = var 1 in let t' : Expr = var 2 in
      let at_a : Expr = var 3 in let at_b : Expr = var 4 in let u : Expr = var 5 in
      combine laws.ring (a ∷ b ∷ t i ∷ word_sum l ts a i ∷ word_sum l ts b i
      ∷ word_sum l (divided l a ts) b i ∷ [])
      (sum (prod b' (sum t' (prod b' at_b))) (minus (prod a' (sum t' (prod a' at_a)))))
      (prod (sum b' (minus a')) (sum (sum t' (prod a' at_a)) (prod b' u)))
      (given b' (sum (prod b' at_b) (minus (prod a' at_a))) (prod (sum b' (minus a')) u) ∷ []) refl
      (division a b ts i, tt)

  length-divided : (a : E) (ts : List (ℕ → E)) → length (divided l a ts) ≡ length ts
  length-divided a [] = refl
  length-divided a (t ∷ ts) = ap suc (length-divided a ts)

  module _ (count : ℕ) (Is : (ℕ → E) → Type 0)
      (closed : (a b : E) (u w t : ℕ → E) → Is u → Is w →
      ((i : ℕ) → i < count → t i ≡ l.add (l.mul a (u i)) (l.mul b (w i))) → Is t) where
    -- from the quotient and the value
    recovered : (a : E) (ts : List (ℕ → E)) → AllByRecursion Is (divided l a ts) →
        AllByRecursion Is ts
    recovered a [] all = tt
    recovered a (t ∷ []) all = (
      closed l.one l.zero (word_sum l (t ∷ []) a) (word_sum l (t ∷ []) a) t all.0 all.0
          (λ i lt. ring laws.ring (a ∷ t i ∷ []) (var 1)
          (sum (prod unit (sum (var 1) (prod (var 0) (con 0))))
          (prod (con 0) (sum (var 1) (prod (var 0) (con 0))))) refl),
      tt,
    )
    recovered a (t ∷ s ∷ ts) all =
        let next = word_sum l (s ∷ ts) a in (
          closed l.one (l.neg a) (word_sum l (t ∷ s ∷ ts) a) next t all.0 all.1.0
              (λ i lt. ring laws.ring (a ∷ t i ∷ next i ∷ []) (var 1)
              (sum (prod unit (sum (var 1) (prod (var 0) (var 2))))
              (prod (minus (var 0)) (var 2))) refl),
          recovered a (s ∷ ts) all.1,
        )

    quotients : (a : E) (t : ℕ → E) (ts : List (ℕ → E)) (bs : List E) → Is (word_sum l (t ∷ ts) a) →
        AllByRecursion (λ b. b ≢ a) bs →
        AllByRecursion (λ b. Is (word_sum l (t ∷ ts) b)) bs →
        AllByRecursion (λ b. Is (word_sum l (divided l a ts) b)) bs
    quotients a t ts [] at_a other all = tt
    quotients a t ts (b ∷ bs) at_a other all =
        let i = l.inv (sub l b a) in
        let inverse : l.mul (sub l b a) i ≡ l.one =
        laws.mul_inv (sub l b a) (λ none. other.0 (neg_zero_cancel laws.ring b a none)) in (
          closed i (l.neg i) (word_sum l (t ∷ ts) b) (word_sum l (t ∷ ts) a)
              (word_sum l (divided l a ts) b) all.0 at_a (λ j lt.
              let a' : Expr = var 0 in let b' : Expr = var 1 in let t' : Expr = var 2 in
              let i' : Expr = var 3 in
              let sum_a : Expr = var 4 in let sum_b : Expr = var 5 in let u : Expr = var 6 in
              combine laws.ring (a ∷ b ∷ t j ∷ i ∷ word_sum l ts a j ∷ word_sum l ts b j
              ∷ word_sum l (divided l a ts) b j ∷ [])
              u (sum (prod i' (sum t' (prod b' sum_b))) (prod (minus i') (sum t' (prod a' sum_a))))
              (given (minus i') (sum (prod b' sum_b) (minus (prod a' sum_a)))
              (prod (sum b' (minus a')) u)
              ∷ given (minus u) (prod (sum b' (minus a')) i') unit ∷ []) refl (
                division a b ts j,
                (inverse, tt),
              )),
          quotients a t ts bs at_a other.1 all.1,
        )

    pub coefficients-are : (alphas : List E) (ts : List (ℕ → E)) → length alphas ≡ length ts →
        AreDistinct alphas →
        AllByRecursion (λ a. Is (word_sum l ts a)) alphas → AllByRecursion Is ts
    coefficients-are [] [] same distinct all = tt
    coefficients-are [] (t ∷ ts) same distinct all = absurd (omega (arith, same))
    coefficients-are (a ∷ alphas) [] same distinct all = tt
    coefficients-are (a ∷ alphas) (t ∷ ts) same distinct all =
        recovered a (t ∷ ts) (
          all.0,
          coefficients-are alphas (divided l a ts) (omega (arith, same, length-divided a ts))
              distinct.1
              (quotients a t ts alphas all.0 (recursion_from_All (λ b. b ≢ a) alphas distinct.0)
              all.1),
        )

  -- sums by powers of a list after another, and of multiples
  pub word_sum-append : (ts us : List (ℕ → E)) (a : E) (i : ℕ) → word_sum l (ts ++ us) a i
      ≡ l.add (word_sum l ts a i) (l.mul (nth_power l a (length ts)) (word_sum l us a i))
  word_sum-append [] us a i =
      ring laws.ring (word_sum l us a i ∷ []) (var 0) (sum (con 0) (prod unit (var 0))) refl
  word_sum-append (t ∷ ts) us a i =
      ap (λ v. l.add (t i) (l.mul a v)) (word_sum-append ts us a i)
      ∙ ring laws.ring (t i ∷ a ∷ word_sum l ts a i ∷ nth_power l a (length ts) ∷ word_sum l us a i
      ∷ [])
      (sum (var 0) (prod (var 1) (sum (var 2) (prod (var 3) (var 4)))))
      (sum (sum (var 0) (prod (var 1) (var 2))) (prod (prod (var 1) (var 3)) (var 4))) refl

  pub word_sum-scaled : {X : Type 0} (s : ℕ → E) (g : X → ℕ → E) (js : List X) (a : E) (i : ℕ) →
      word_sum l (map (λ j i. l.mul (s i) (g j i)) js) a i
      ≡ l.mul (s i) (power_sum l a (map (λ j. g j i) js))
  word_sum-scaled s g [] a i = ring laws.ring (s i ∷ []) (con 0) (prod (var 0) (con 0)) refl
  word_sum-scaled s g (j ∷ js) a i =
      ap (λ v. l.add (l.mul (s i) (g j i)) (l.mul a v)) (word_sum-scaled s g js a i)
      ∙ ring laws.ring (s i ∷ g j i ∷ a ∷ power_sum l a (map (λ j. g j i) js) ∷ [])
      (sum (prod (var 0) (var 1)) (prod (var 2) (prod (var 0) (var 3))))
      (prod (var 0) (sum (var 1) (prod (var 2) (var 3)))) refl

  -- sums with powers for weights
  pub dot-powers : (a : E) (s n : ℕ) (xs : List E) → length xs ≡ n →
      dot l (map (nth_power l a) (range_with_len s n)) xs
      ≡ l.mul (nth_power l a s) (power_sum l a xs)
  dot-powers a s zero [] long = ring laws.ring (nth_power l a s ∷ []) (con 0) (prod (var 0) (con 0))
      refl
  dot-powers a s zero (x ∷ xs) long = absurd (omega (arith, long))
  dot-powers a s (suc n) [] long = absurd (omega (arith, long))
  dot-powers a s (suc n) (x ∷ xs) long =
      ap (l.add (l.mul (nth_power l a s) x)) (dot-powers a (s + 1) n xs (omega (arith, long)))
      ∙ ap (λ m. l.add (l.mul (nth_power l a s) x) (l.mul (nth_power l a m) (power_sum l a xs)))
      (add-one s)
      ∙ ring laws.ring (nth_power l a s ∷ x ∷ a ∷ power_sum l a xs ∷ [])
      (sum (prod (var 0) (var 1)) (prod (prod (var 2) (var 0)) (var 3)))
      (prod (var 0) (sum (var 1) (prod (var 2) (var 3)))) refl
