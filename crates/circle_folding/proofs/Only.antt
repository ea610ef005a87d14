-- Polynomials by their coefficients, and the only one with given values at the points of a block.
use Rattle.std.specs.Prelude.{◌≡◌, ◌≢◌, ℕ, ◌-◌, ◌^◌, ◌<◌, ◌≤◌, List, [], ◌∷◌, ◌++◌, length, map}
use Rattle.std.specs.Prelude.{take, drop, replicate, slice_index_or}
use Rattle.std.specs.List.{AllByRecursion}
use Rattle.std.proofs.Common.{zero, suc, sym, ◌∙◌, ap, refl, arith, length-append}
use Rattle.std.proofs.Math.Nat.{pow-suc}
use Rattle.std.proofs.lemmas.Nat.{pow_pos}
use Rattle.std.proofs.lemmas.List.{take_at, drop_at, length-replicate}
use Rattle.circle_field.specs.Field.{FieldOps, FieldLaws}
use Rattle.circle_field.specs.Ring.{var, con, unit, plus as sum, times as prod}
use Rattle.circle_field.specs.RingSound.{ring}
use Rattle.circle_field.specs.RingFacts.{zero_mul}
use Rattle.circle_field.specs.Circle.{Coordinates, IsOnCircle, AreGenerators, times, origin}
use Rattle.circle_point.specs.Basis.{circle_basis, weighted_sum, value, iterated_x, vanishing}
use Rattle.circle_domain.specs.Layers.{factor, second_half}
use Rattle.circle_domain.proofs.Blocks.{points, all-append, second_half-on_circle}
use Rattle.circle_domain.proofs.HalfSums.{value-halves}
use Rattle.circle_domain.proofs.Inversion.{finish-injective}
use Rattle.circle_domain.proofs.Powers.{pow_within}
use Rattle.circle_domain.proofs.Transform.{finish-value, halves_of, map-same}
use Rattle.circle_folding.specs.WideSpans.{wide_value}
use Rattle.circle_folding.proofs.Polynomials.{IsPolynomial}

-- functions that agree at each entry
pub map-read : {X Y : Type 0} (f g : X → Y) (xs : List X) (d : X) →
    ((i : ℕ) → i < length xs → f (slice_index_or xs i d) ≡ g (slice_index_or xs i d)) →
    map f xs ≡ map g xs
map-read f g [] d e = refl
map-read f g (x ∷ xs) d e = ap (λ v. v ∷ map f xs) (e 0 (omega arith))
    ∙ ap (λ vs. g x ∷ vs) (map-read f g xs d (λ i lt. e (suc i) (omega arith)))

module _ {E : Type 0} {l : FieldOps E} (laws : FieldLaws l) where
  one-value : (a : E) (p : Coordinates E) → value l (a ∷ []) p ≡ a
  one-value a p = ring laws.ring (a ∷ []) (sum (prod (var 0) (prod unit unit)) (con 0)) (var 0) refl

  pub of_coefficients : (m : ℕ) (c : List E) → length c ≡ 2 ^ m → IsPolynomial l m (value l c)
  of_coefficients zero [] e = absurd (omega (arith, e))
  of_coefficients zero (a ∷ []) e = (a, λ p on. one-value a p)
  of_coefficients zero (a ∷ b ∷ c) e = absurd (omega (arith, e))
  of_coefficients (suc m) c e =
      let lo = take (2 ^ m) c in
      let hi = take (2 ^ m) (drop (2 ^ m) c) in
      let h = halves_of l m l.zero c e in (
        value l lo,
        value l hi,
        of_coefficients m lo h.low,
        of_coefficients m hi h.high,
        λ p on. ap (λ c. value l c p) (sym h.joined)
            ∙ value-halves laws.ring m lo hi p h.low (omega (arith, h.high)),
      )

  pub to_coefficients : (m : ℕ) (f : Coordinates E → E) → IsPolynomial l m f →
      (c : List E) × (length c ≡ 2 ^ m) × ((p : Coordinates E) → IsOnCircle l p → value l c p ≡ f p)
  to_coefficients zero f s = (s.0 ∷ [], refl, λ p on. one-value s.0 p ∙ sym (s.1 p on))
  to_coefficients (suc m) f s =
      let a = to_coefficients m s.0 s.2 in
      let b = to_coefficients m s.1 s.3 in (
        a.0 ++ b.0,
        length-append a.0 b.0 ∙ omega (arith, a.1, b.1, pow-suc 2 m),
        λ p on.
            value-halves laws.ring m a.0 b.0 p a.1 (omega (arith, b.1))
            ∙ ap (λ v. l.add v (l.mul (value l b.0 p) (factor l m p))) (a.2 p on)
            ∙ ap (λ v. l.add (s.0 p) (l.mul v (factor l m p))) (b.2 p on) ∙ sym (s.4 p on),
      )

  -- zeros after the coefficients change no value
  zeros-sum : (f : ℕ → E) (j count : ℕ) → weighted_sum l f j (replicate count l.zero) ≡ l.zero
  zeros-sum f j zero = refl
  zeros-sum f j (suc count) = ap (λ x. l.add x (weighted_sum l f (suc j) (replicate count l.zero)))
      (zero_mul laws.ring (f j)) ∙ laws.ring.zero_add _ ∙ zeros-sum f (suc j) count

  more-zeros : (f : ℕ → E) (j count : ℕ) (xs : List E) →
      weighted_sum l f j (xs ++ replicate count l.zero) ≡ weighted_sum l f j xs
  more-zeros f j count [] = zeros-sum f j count
  more-zeros f j count (x ∷ xs) = ap (l.add (l.mul x (f j))) (more-zeros f (suc j) count xs)

  -- v_n as the factor of 2^n coefficients
  pub vanishing-factor : (n : ℕ) (p : Coordinates E) → 1 ≤ n → vanishing l n p ≡ factor l n p
  vanishing-factor zero p positive = absurd (omega arith)
  vanishing-factor (suc j) p positive = let e : suc j - 1 ≡ j = omega arith in
      ap (λ i. iterated_x l i p.x) e

  -- a polynomial and a multiple of v_n by one list of coefficients
  abbrev wide_list : ℕ → List E → E → List E
  wide_list n c a = c ++ a ∷ replicate (2 ^ n - 1) l.zero

  length-wide : (n : ℕ) (c : List E) (a : E) → length c ≡ 2 ^ n → length (wide_list n c a)
      ≡ 2 ^ suc n
  length-wide n c a e =
      length-append c (a ∷ replicate (2 ^ n - 1) l.zero)
      ∙ omega (arith, e, length-replicate (2 ^ n - 1) l.zero, pow_pos n, pow-suc 2 n)

  value-wide : (n : ℕ) (c : List E) (a : E) (p : Coordinates E) → 1 ≤ n → length c ≡ 2 ^ n →
      value l (wide_list n c a) p ≡ wide_value l n c a p
  value-wide n c a p positive e =
      let f = λ (j : ℕ). circle_basis l j p in
      let long : length (a ∷ replicate (2 ^ n - 1) l.zero) ≤ 2 ^ n =
      omega (arith, length-replicate (2 ^ n - 1) l.zero, pow_pos n) in
      value-halves laws.ring n c (a ∷ replicate (2 ^ n - 1) l.zero) p e long
      ∙ ap (λ v. l.add (value l c p) (l.mul (l.add (l.mul a (f 0)) v) (factor l n p)))
      (zeros-sum f 1 (2 ^ n - 1))
      ∙ ap (λ v. l.add (value l c p) (l.mul v (factor l n p))) (one-value a p)
      ∙ ap (λ v. l.add (value l c p) (l.mul a v)) (sym (vanishing-factor n p positive))

  module _ {gen : ℕ → Coordinates E} {bits : ℕ} (gens : AreGenerators l bits gen) where
    pub points-on_circle : (m : ℕ) (q : Coordinates E) → m ≤ suc bits → IsOnCircle l q →
        AllByRecursion (IsOnCircle l) (points l gen m q)
    points-on_circle zero q fits on = (on, tt)
    points-on_circle (suc m) q fits on =
        all-append (IsOnCircle l) (points l gen m q) (points l gen m (second_half l gen m q))
        (points-on_circle m q (omega arith) on)
        (points-on_circle m (second_half l gen m q) (omega arith)
        (second_half-on_circle laws.ring gens m q (omega arith) on))

    module _ (m : ℕ) (q : Coordinates E) (fits : m ≤ suc bits) (on : IsOnCircle l q)
        (genuine : times l (2 ^ m) q ≢ origin l) where
      abbrev ps : List (Coordinates E)
      ps = points l gen m q

      coefficients-only : (c d : List E) → length c ≡ 2 ^ m → length d ≡ 2 ^ m → map (value l c) ps
          ≡ map (value l d) ps → c ≡ d
      coefficients-only c d long_c long_d e =
          finish-injective laws gens m q c d long_c long_d fits on genuine
          (finish-value laws.ring gens m q c long_c fits on ∙ e
          ∙ sym (finish-value laws.ring gens m q d long_d fits on))

      -- two polynomials with the same values there have the same values everywhere
      pub polynomials-only : (f g : Coordinates E → E) → IsPolynomial l m f → IsPolynomial l m g →
          map f ps ≡ map g ps → (z : Coordinates E) → IsOnCircle l z → f z ≡ g z
      polynomials-only f g s t e z on_z =
          let c = to_coefficients m f s in
          let d = to_coefficients m g t in
          let all = points-on_circle m q fits on in
          let equal : c.0 ≡ d.0 =
          coefficients-only c.0 d.0 c.1 d.1
          (map-same (value l c.0) f (IsOnCircle l) ps all (λ p on. c.2 p on) ∙ e
          ∙ sym (map-same (value l d.0) g (IsOnCircle l) ps all (λ p on. d.2 p on))) in
          sym (c.2 z on_z) ∙ ap (λ c. value l c z) equal ∙ d.2 z on_z

      -- and fewer coefficients are the same
      pub values-only : (c d : List E) (n : ℕ) → n ≤ m → length c ≡ 2 ^ n → length d ≡ 2 ^ n →
          map (value l c) ps ≡ map (value l d) ps → c ≡ d
      values-only c d n le long_c long_d e =
          let zeros = replicate (2 ^ m - 2 ^ n) l.zero in
          let within : 2 ^ n ≤ 2 ^ m = pow_within n m le in
          let long : (c : List E) → length c ≡ 2 ^ n → length (c ++ zeros) ≡ 2 ^ m =
          λ c is. length-append c zeros
          ∙ omega (arith, is, length-replicate (2 ^ m - 2 ^ n) l.zero, within) in
          let padded : (c : List E) → map (value l (c ++ zeros)) ps ≡ map (value l c) ps =
          λ c. map-same (value l (c ++ zeros)) (value l c) (IsOnCircle l) ps
          (points-on_circle m q fits on)
          (λ p on. more-zeros (λ j. circle_basis l j p) 0 (2 ^ m - 2 ^ n) c) in
          sym (take_at c zeros (2 ^ n) long_c)
          ∙ ap (take (2 ^ n))
          (coefficients-only (c ++ zeros) (d ++ zeros) (long c long_c) (long d long_d)
          (padded c ∙ e ∙ sym (padded d)))
          ∙ take_at d zeros (2 ^ n) long_d

      pub wide-only : (n : ℕ) (c d : List E) (a b : E) → 1 ≤ n → suc n ≤ m → length c ≡ 2 ^ n →
          length d ≡ 2 ^ n →
          map (wide_value l n c a) ps ≡ map (wide_value l n d b) ps → (c ≡ d) × (a ≡ b)
      wide-only n c d a b positive le long_c long_d e =
          let rest = replicate (2 ^ n - 1) l.zero in
          let listed : (c : List E) (a : E) → length c ≡ 2 ^ n →
          map (value l (wide_list n c a)) ps ≡ map (wide_value l n c a) ps =
          λ c a is. map-same (value l (wide_list n c a)) (wide_value l n c a) (IsOnCircle l) ps
          (points-on_circle m q fits on) (λ p on. value-wide n c a p positive is) in
          let equal : wide_list n c a ≡ wide_list n d b =
          values-only (wide_list n c a) (wide_list n d b) (suc n) le (length-wide n c a long_c)
          (length-wide n d b long_d)
          (listed c a long_c ∙ e ∙ sym (listed d b long_d)) in
          let high : a ∷ rest ≡ b ∷ rest =
          sym (drop_at c (a ∷ rest) (2 ^ n) long_c) ∙ ap (drop (2 ^ n)) equal
          ∙ drop_at d (b ∷ rest) (2 ^ n) long_d in (
            sym (take_at c (a ∷ rest) (2 ^ n) long_c) ∙ ap (take (2 ^ n)) equal
                ∙ take_at d (b ∷ rest) (2 ^ n) long_d,
            ap (λ xs. slice_index_or xs 0 l.zero) high,
          )
