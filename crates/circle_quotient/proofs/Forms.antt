-- Functions on the circle as a(x) + y b(x), by the numbers of coefficients of a and b: what a
-- polynomial of the circle basis is, what a translation makes of it, and where such a function is
-- 0.
use Rattle.std.specs.Prelude.{◌≡◌, ◌≢◌, ℕ, ◌+◌, ◌-◌, ◌^◌, ◌≤◌, List, [], ◌∷◌, length, map}
use Rattle.std.specs.List.{AllByRecursion}
use Rattle.std.proofs.Common.{zero, suc, sym, ◌∙◌, ap, refl, subst, arith}
use Rattle.std.proofs.Math.Nat.{pow-suc}
use Rattle.std.proofs.lemmas.List.{length-map}
use Rattle.circle_field.specs.Field.{FieldOps, FieldLaws, sub}
use Rattle.circle_field.specs.Ring.{var, con, unit, plus as sum, times as prod, minus}
use Rattle.circle_field.specs.RingSound.{ring}
use Rattle.circle_field.specs.RingCombine.{given, combine}
use Rattle.circle_field.specs.Circle.{Coordinates, IsOnCircle, opposite, plus, times}
use Rattle.circle_field.specs.CircleGroup.{opposite-on_circle}
use Rattle.circle_point.specs.Basis.{iterated_x}
use Rattle.circle_point.proofs.Multiples.{iterated_x-suc}
use Rattle.circle_folding.proofs.Polynomials.{IsPolynomial}
use Rattle.circle_quotient.proofs.Monomials.{HasCoefficients, IsDistinct, constant, added, scaled}
use Rattle.circle_quotient.proofs.Monomials.{raised_by, multiplied, multiplied_within}
use Rattle.circle_quotient.proofs.Monomials.{roots, zero_factor}
use Rattle.circle_quotient.proofs.Monomials.{all-both, same, nothing}
use Rattle.circle_quotient.proofs.Waves.{IsWave, translated, with_tops}
use Rattle.circle_quotient.proofs.Waves.{same as same_wave}

module _ {E : Type 0} (l : FieldOps E) where
  -- the values of a(x) + y b(x), where a and b have so many coefficients
  abbrev pub HasForm : ℕ → ℕ → (Coordinates E → E) → Type 0
  HasForm m n f =
      (a : E → E) × (b : E → E) × HasCoefficients l m a × HasCoefficients l n b
      × ((p : Coordinates E) → IsOnCircle l p → f p ≡ l.add (a p.x) (l.mul p.y (b p.x)))

module _ {E : Type 0} {l : FieldOps E} (laws : FieldLaws l) where
  -- the x coordinate after j doublings
  iterated : (j : ℕ) → HasCoefficients l (suc (2 ^ j)) (iterated_x l j)
  iterated zero = (
    l.zero,
    (λ x. l.one),
    constant laws zero l.one,
    λ x. ring laws.ring (x ∷ []) (var 0) (sum (con 0) (prod (var 0) unit)) refl,
  )
  iterated (suc j) =
      let u = iterated_x l j in
      let n = suc (2 ^ suc j) in
      let e : 2 ^ j + suc (2 ^ j) ≡ n = omega (arith, pow-suc 2 j) in
      let square = subst (λ i. HasCoefficients l i (λ x. l.mul (u x) (u x))) e
      (multiplied laws (2 ^ j) (suc (2 ^ j)) u u (iterated j) (iterated j)) in
      same laws n
      (λ x. l.add (l.add (l.mul (u x) (u x)) (l.mul (u x) (u x))) (l.neg l.one))
      (iterated_x l (suc j))
      (added laws n (λ x. l.add (l.mul (u x) (u x)) (l.mul (u x) (u x))) (λ x. l.neg l.one)
      (added laws n (λ x. l.mul (u x) (u x)) (λ x. l.mul (u x) (u x)) square square)
      (constant laws (2 ^ suc j) (l.neg l.one)))
      (λ x. iterated_x-suc l j x)

  pub form-doubled : (j : ℕ) → HasForm l (suc (2 ^ j)) 0 (λ p. iterated_x l j p.x)
  form-doubled j = (
    iterated_x l j,
    (λ x. l.zero),
    iterated j,
    (λ x. refl),
    λ p on. ring laws.ring (iterated_x l j p.x ∷ p.y ∷ []) (var 0)
        (sum (var 0) (prod (var 1) (con 0))) refl,
  )

  one_less_square : HasCoefficients l 3 (λ x. sub l l.one (l.mul x x))
  one_less_square = (
    l.one,
    (λ x. l.neg x),
    (
      l.zero,
      (λ x. l.neg l.one),
      constant laws zero (l.neg l.one),
      λ x. ring laws.ring (x ∷ []) (minus (var 0)) (sum (con 0) (prod (var 0) (minus unit))) refl,
    ),
    λ x. ring laws.ring (x ∷ []) (sum unit (minus (prod (var 0) (var 0))))
        (sum unit (prod (var 0) (minus (var 0)))) refl,
  )

  -- 2^(m + 1) coefficients of the circle basis are as many of both parts
  pub form-of_polynomial : (m : ℕ) (f : Coordinates E → E) → IsPolynomial l (suc m) f →
      HasForm l (2 ^ m) (2 ^ m) f
  form-of_polynomial zero f s = (
    (λ x. s.2.0),
    (λ x. s.3.0),
    constant laws zero s.2.0,
    constant laws zero s.3.0,
    λ p on. s.4 p on ∙ ap (λ v. l.add v (l.mul (s.1 p) p.y)) (s.2.1 p on)
        ∙ ap (λ v. l.add s.2.0 (l.mul v p.y)) (s.3.1 p on)
        ∙ ap (l.add s.2.0) (laws.ring.mul_comm s.3.0 p.y),
  )
  form-of_polynomial (suc m) f s =
      let u = iterated_x l m in
      let low = form-of_polynomial m s.0 s.2 in
      let high = form-of_polynomial m s.1 s.3 in
      let e : 2 ^ m + 2 ^ m ≡ 2 ^ suc m = omega (arith, pow-suc 2 m) in
      let times_u : (b : E → E) → HasCoefficients l (2 ^ m) b →
      HasCoefficients l (2 ^ suc m) (λ x. l.mul (u x) (b x)) =
      λ b of_b. subst (λ i. HasCoefficients l i (λ x. l.mul (u x) (b x))) e
      (multiplied laws (2 ^ m) (2 ^ m) u b (iterated m) of_b) in (
        (λ x. l.add (low.0 x) (l.mul (u x) (high.0 x))),
        (λ x. l.add (low.1 x) (l.mul (u x) (high.1 x))),
        added laws (2 ^ suc m) low.0 (λ x. l.mul (u x) (high.0 x))
            (raised_by laws (2 ^ m) (2 ^ m) (2 ^ suc m) low.0 (sym e) low.2)
            (times_u high.0 high.2),
        added laws (2 ^ suc m) low.1 (λ x. l.mul (u x) (high.1 x))
            (raised_by laws (2 ^ m) (2 ^ m) (2 ^ suc m) low.1 (sym e) low.3)
            (times_u high.1 high.3),
        λ p on.
            s.4 p on ∙ ap (λ v. l.add v (l.mul (s.1 p) (u p.x))) (low.4 p on)
            ∙ ap (λ v. l.add (l.add (low.0 p.x) (l.mul p.y (low.1 p.x))) (l.mul v (u p.x)))
            (high.4 p on)
            ∙ ring laws.ring
            (low.0 p.x ∷ low.1 p.x ∷ high.0 p.x ∷ high.1 p.x ∷ p.y ∷ u p.x ∷ [])
            (sum (sum (var 0) (prod (var 4) (var 1)))
            (prod (sum (var 2) (prod (var 4) (var 3))) (var 5)))
            (sum (sum (var 0) (prod (var 5) (var 2)))
            (prod (var 4) (sum (var 1) (prod (var 5) (var 3))))) refl,
      )

  -- with as many coefficients in both parts the highest power of x has none
  wave : (d : ℕ) (a b : E → E) → HasCoefficients l (suc d) a → HasCoefficients l (suc d) b →
      (v : E) × IsWave l d (λ p. l.add (a p.x) (l.mul p.y (b p.x))) l.zero v
  wave zero a b s t = (
    t.0,
    (
      s.0,
      λ p on.
          ap (λ v. l.add v (l.mul p.y (b p.x)))
          (s.3 p.x ∙ ap (λ v. l.add s.0 (l.mul p.x v)) (s.2 p.x))
          ∙ ap (λ v. l.add (l.add s.0 (l.mul p.x l.zero)) (l.mul p.y v))
          (t.3 p.x ∙ ap (λ v. l.add t.0 (l.mul p.x v)) (t.2 p.x))
          ∙ ring laws.ring (s.0 ∷ t.0 ∷ p.x ∷ p.y ∷ [])
          (sum (sum (var 0) (prod (var 2) (con 0)))
          (prod (var 3) (sum (var 1) (prod (var 2) (con 0)))))
          (sum (var 0) (sum (prod (con 0) (var 2)) (prod (var 1) (var 3)))) refl,
    ),
  )
  wave (suc d) a b s t =
      let inner = wave d s.1 t.1 s.2 t.2 in (
        inner.0,
        (
          s.0,
          t.0,
          (λ p. l.add (s.1 p.x) (l.mul p.y (t.1 p.x))),
          inner.1,
          λ p on.
              ap (λ v. l.add v (l.mul p.y (b p.x))) (s.3 p.x)
              ∙ ap (λ v. l.add (l.add s.0 (l.mul p.x (s.1 p.x))) (l.mul p.y v)) (t.3 p.x)
              ∙ ring laws.ring (s.0 ∷ t.0 ∷ p.x ∷ p.y ∷ s.1 p.x ∷ t.1 p.x ∷ [])
              (sum (sum (var 0) (prod (var 2) (var 4)))
              (prod (var 3) (sum (var 1) (prod (var 2) (var 5)))))
              (sum (var 0)
              (sum (prod (var 1) (var 3)) (prod (var 2) (sum (var 4) (prod (var 3) (var 5))))))
              refl,
        ),
      )

  form-of_wave : (d : ℕ) (f : Coordinates E → E) (v : E) → IsWave l d f l.zero v →
      HasForm l (suc d) (suc d) f
  form-of_wave zero f v s = (
    (λ x. s.0),
    (λ x. v),
    constant laws zero s.0,
    constant laws zero v,
    λ p on. s.1 p on
        ∙ ring laws.ring (s.0 ∷ v ∷ p.x ∷ p.y ∷ [])
        (sum (var 0) (sum (prod (con 0) (var 2)) (prod (var 1) (var 3))))
        (sum (var 0) (prod (var 3) (var 1))) refl,
  )
  form-of_wave (suc d) f v s =
      let inner = form-of_wave d s.2 v s.3 in (
        (λ x. l.add s.0 (l.mul x (inner.0 x))),
        (λ x. l.add s.1 (l.mul x (inner.1 x))),
        (s.0, inner.0, inner.2, λ x. refl),
        (s.1, inner.1, inner.3, λ x. refl),
        λ p on.
            s.4 p on
            ∙ ap (λ w. l.add s.0 (l.add (l.mul s.1 p.y) (l.mul p.x w))) (inner.4 p on)
            ∙ ring laws.ring (s.0 ∷ s.1 ∷ p.x ∷ p.y ∷ inner.0 p.x ∷ inner.1 p.x ∷ [])
            (sum (var 0)
            (sum (prod (var 1) (var 3)) (prod (var 2) (sum (var 4) (prod (var 3) (var 5))))))
            (sum (sum (var 0) (prod (var 2) (var 4)))
            (prod (var 3) (sum (var 1) (prod (var 2) (var 5))))) refl,
      )

  -- a step by t, of whose multiple by the degree the y coordinate is 0, keeps this form
  pub form-translated : (d : ℕ) (f : Coordinates E → E) (t : Coordinates E) → IsOnCircle l t →
      (times l (suc d) t).y ≡ l.zero → HasForm l (suc d) (suc d) f →
      HasForm l (suc d) (suc d) (λ p. f (plus l p t))
  form-translated d f t on_t flat s =
      let r = times l (suc d) t in
      let of_parts = wave d s.0 s.1 s.2 s.3 in
      let v = of_parts.0 in
      let g = λ (p : Coordinates E). l.add (s.0 p.x) (l.mul p.y (s.1 p.x)) in
      let moved = translated laws.ring d f l.zero v t on_t
      (same_wave laws.ring d g f l.zero v of_parts.1 s.4) in
      form-of_wave d (λ p. f (plus l p t)) (l.mul r.x v)
      (with_tops laws.ring d (λ p. f (plus l p t)) moved
      (combine laws.ring (r.x ∷ r.y ∷ v ∷ []) (con 0)
      (sum (prod (var 0) (con 0)) (prod (var 1) (var 2)))
      (given (minus (var 2)) (var 1) (con 0) ∷ []) refl (flat, tt))
      (ring laws.ring (r.x ∷ r.y ∷ v ∷ []) (prod (var 0) (var 2))
      (sum (prod (var 0) (var 2)) (minus (prod (var 1) (con 0)))) refl))

  -- y^2 = 1 - x^2 times a product of two parts
  square-part : (n m p : ℕ) (f g : E → E) → (1 ≤ n → 1 ≤ m → n + m + 1 ≤ p) →
      HasCoefficients l n f → HasCoefficients l m g →
      HasCoefficients l p (λ x. l.mul (sub l l.one (l.mul x x)) (l.mul (f x) (g x)))
  square-part zero m p f g room s t =
      multiplied_within laws 3 0 p (λ x. sub l l.one (l.mul x x)) (λ x. l.mul (f x) (g x))
      (λ a b. absurd (omega (arith, b))) one_less_square
      (multiplied_within laws zero m 0 f g (λ a b. absurd (omega (arith, a))) s t)
  square-part (suc n) zero p f g room s t =
      multiplied_within laws 3 0 p (λ x. sub l l.one (l.mul x x)) (λ x. l.mul (f x) (g x))
      (λ a b. absurd (omega (arith, b))) one_less_square
      (multiplied_within laws (suc n) zero 0 f g (λ a b. absurd (omega (arith, b))) s t)
  square-part (suc n) (suc m) p f g room s t =
      let fits : suc n + suc m + 1 ≤ p = room (omega arith) (omega arith) in
      multiplied_within laws 3 (n + suc m) p (λ x. sub l l.one (l.mul x x))
      (λ x. l.mul (f x) (g x)) (λ a b. omega (arith, fits)) one_less_square
      (multiplied_within laws (suc n) (suc m) (n + suc m) f g (λ a b. omega arith) s t)

  -- a product, with room for what its parts make
  pub form-product : (m n m' n' p q : ℕ) (f g : Coordinates E → E) →
      (1 ≤ m → 1 ≤ m' → m + m' ≤ suc p) → (1 ≤ n → 1 ≤ n' → n + n' + 1 ≤ p) →
      (1 ≤ m → 1 ≤ n' → m + n' ≤ suc q) → (1 ≤ n → 1 ≤ m' → n + m' ≤ suc q) →
      HasForm l m n f → HasForm l m' n' g → HasForm l p q (λ r. l.mul (f r) (g r))
  form-product m n m' n' p q f g evens squares odds others s t =
      let plain = λ (x : E). l.mul (s.0 x) (t.0 x) in
      let square = λ (x : E). l.mul (sub l l.one (l.mul x x)) (l.mul (s.1 x) (t.1 x)) in
      let first = λ (x : E). l.mul (s.0 x) (t.1 x) in
      let second = λ (x : E). l.mul (s.1 x) (t.0 x) in (
        (λ x. l.add (plain x) (square x)),
        (λ x. l.add (first x) (second x)),
        added laws p plain square
            (multiplied_within laws m m' p s.0 t.0 evens s.2 t.2)
            (square-part n n' p s.1 t.1 squares s.3 t.3),
        added laws q first second
            (multiplied_within laws m n' q s.0 t.1 odds s.2 t.3)
            (multiplied_within laws n m' q s.1 t.0 others s.3 t.2),
        λ r on.
            ap (λ v. l.mul v (g r)) (s.4 r on)
            ∙ ap (l.mul (l.add (s.0 r.x) (l.mul r.y (s.1 r.x)))) (t.4 r on)
            ∙ combine laws.ring (s.0 r.x ∷ s.1 r.x ∷ t.0 r.x ∷ t.1 r.x ∷ r.x ∷ r.y ∷ [])
            (prod (sum (var 0) (prod (var 5) (var 1))) (sum (var 2) (prod (var 5) (var 3))))
            (sum (sum (prod (var 0) (var 2))
            (prod (sum unit (minus (prod (var 4) (var 4)))) (prod (var 1) (var 3))))
            (prod (var 5) (sum (prod (var 0) (var 3)) (prod (var 1) (var 2)))))
            (given (prod (var 1) (var 3)) (sum (prod (var 4) (var 4)) (prod (var 5) (var 5))) unit
            ∷ []) refl (on, tt),
      )

  -- with more coefficients, the others 0
  pub form-raised : (m n p q : ℕ) (f : Coordinates E → E) → m ≤ p → n ≤ q → HasForm l m n f →
      HasForm l p q f
  form-raised m n p q f a b s = (
    s.0,
    s.1,
    raised_by laws (p - m) m p s.0 (omega (arith, a)) s.2,
    raised_by laws (q - n) n q s.1 (omega (arith, b)) s.3,
    s.4,
  )

  pub form-constant : (m n : ℕ) (a : E) → HasForm l (suc m) n (λ p. a)
  form-constant m n a = (
    (λ x. a),
    (λ x. l.zero),
    constant laws m a,
    nothing laws n,
    λ p on. ring laws.ring (a ∷ p.y ∷ []) (var 0) (sum (var 0) (prod (var 1) (con 0))) refl,
  )

  pub form-combined : (m n : ℕ) (u v : E) (f g : Coordinates E → E) → HasForm l m n f →
      HasForm l m n g → HasForm l m n (λ p. l.add (l.mul u (f p)) (l.mul v (g p)))
  form-combined m n u v f g s t = (
    (λ x. l.add (l.mul u (s.0 x)) (l.mul v (t.0 x))),
    (λ x. l.add (l.mul u (s.1 x)) (l.mul v (t.1 x))),
    added laws m (λ x. l.mul u (s.0 x)) (λ x. l.mul v (t.0 x)) (scaled laws m u s.0 s.2)
        (scaled laws m v t.0 t.2),
    added laws n (λ x. l.mul u (s.1 x)) (λ x. l.mul v (t.1 x)) (scaled laws n u s.1 s.3)
        (scaled laws n v t.1 t.3),
    λ p on.
        ap (λ w. l.add (l.mul u w) (l.mul v (g p))) (s.4 p on)
        ∙ ap (λ w. l.add (l.mul u (l.add (s.0 p.x) (l.mul p.y (s.1 p.x)))) (l.mul v w)) (t.4 p on)
        ∙ ring laws.ring (u ∷ v ∷ s.0 p.x ∷ s.1 p.x ∷ t.0 p.x ∷ t.1 p.x ∷ p.y ∷ [])
        (sum (prod (var 0) (sum (var 2) (prod (var 6) (var 3))))
        (prod (var 1) (sum (var 4) (prod (var 6) (var 5)))))
        (sum (sum (prod (var 0) (var 2)) (prod (var 1) (var 4)))
        (prod (var 6) (sum (prod (var 0) (var 3)) (prod (var 1) (var 5))))) refl,
  )

  pub form-same : (m n : ℕ) (f g : Coordinates E → E) → HasForm l m n f →
      ((p : Coordinates E) → IsOnCircle l p → g p ≡ f p) → HasForm l m n g
  form-same m n f g s e = (s.0, s.1, s.2, s.3, λ p on. e p on ∙ s.4 p on)

  pub form-difference : (m n : ℕ) (f g : Coordinates E → E) → HasForm l m n f → HasForm l m n g →
      HasForm l m n (λ p. sub l (f p) (g p))
  form-difference m n f g s t =
      form-same m n (λ p. l.add (l.mul l.one (f p)) (l.mul (l.neg l.one) (g p)))
      (λ p. sub l (f p) (g p)) (form-combined m n l.one (l.neg l.one) f g s t)
      (λ p on. ring laws.ring (f p ∷ g p ∷ []) (sum (var 0) (minus (var 1)))
      (sum (prod unit (var 0)) (prod (minus unit) (var 1))) refl)

  -- a function is 0 at the point and at its opposite, which are different
  pub record IsRoot (f : Coordinates E → E) (p : Coordinates E) : Type 0 where
    pub on : IsOnCircle l p
    pub apart : p.y ≢ l.zero
    pub here : f p ≡ l.zero
    pub opposite : f (opposite l p) ≡ l.zero

  half : (u : E) → l.add u u ≡ l.zero → u ≡ l.zero
  half u e = zero_factor laws (l.add l.one l.one) u laws.two_nonzero
      (ring laws.ring (u ∷ []) (prod (sum unit unit) (var 0)) (sum (var 0) (var 0)) refl ∙ e)

  all-x : (P : E → Type 0) (ps : List (Coordinates E)) →
      AllByRecursion (λ (p : Coordinates E). P p.x) ps → AllByRecursion P (map (λ p. p.x) ps)
  all-x P [] all = tt
  all-x P (p ∷ ps) all = (all.0, all-x P ps all.1)

  pub vanishes : (ps : List (Coordinates E)) (f : Coordinates E → E) →
      HasForm l (length ps) (length ps) f → IsDistinct (map (λ p. p.x) ps) →
      AllByRecursion (IsRoot f) ps → (p : Coordinates E) → IsOnCircle l p → f p ≡ l.zero
  vanishes ps f s distinct all p on =
      let xs = map (λ (p : Coordinates E). p.x) ps in
      let count : length ps ≡ length xs = sym (length-map ps (λ p. p.x)) in
      let both : (p : Coordinates E) → IsRoot f p → (s.0 p.x ≡ l.zero) × (s.1 p.x ≡ l.zero) =
      λ p is.
      let env = s.0 p.x ∷ s.1 p.x ∷ p.y ∷ f p ∷ f (opposite l p) ∷ [] in
      let here : l.add (s.0 p.x) (l.mul p.y (s.1 p.x)) ≡ l.zero = sym (s.4 p is.on) ∙ is.here in
      let there : l.add (s.0 p.x) (l.mul (l.neg p.y) (s.1 p.x)) ≡ l.zero =
      sym (s.4 (opposite l p) (opposite-on_circle laws.ring p is.on)) ∙ is.opposite in (
        half (s.0 p.x) (combine laws.ring env (sum (var 0) (var 0)) (con 0)
            (given unit (sum (var 0) (prod (var 2) (var 1))) (con 0)
            ∷ given unit (sum (var 0) (prod (minus (var 2)) (var 1))) (con 0) ∷ []) refl
            (here, (there, tt))),
        zero_factor laws p.y (s.1 p.x) is.apart (half (l.mul p.y (s.1 p.x))
            (combine laws.ring env (sum (prod (var 2) (var 1)) (prod (var 2) (var 1))) (con 0)
            (given unit (sum (var 0) (prod (var 2) (var 1))) (con 0)
            ∷ given (minus unit) (sum (var 0) (prod (minus (var 2)) (var 1))) (con 0) ∷ []) refl
            (here, (there, tt)))),
      ) in
      let first : s.0 p.x ≡ l.zero =
      roots laws xs s.0 (subst (λ i. HasCoefficients l i s.0) count s.2) distinct
      (all-x (λ x. s.0 x ≡ l.zero) ps
      (all-both (IsRoot f) (IsRoot f) (λ p. s.0 p.x ≡ l.zero) ps (λ p is _. (both p is).0) all all))
      p.x in
      let second : s.1 p.x ≡ l.zero =
      roots laws xs s.1 (subst (λ i. HasCoefficients l i s.1) count s.3) distinct
      (all-x (λ x. s.1 x ≡ l.zero) ps
      (all-both (IsRoot f) (IsRoot f) (λ p. s.1 p.x ≡ l.zero) ps (λ p is _. (both p is).1) all all))
      p.x in
      s.4 p on ∙ ap (λ v. l.add v (l.mul p.y (s.1 p.x))) first
      ∙ ap (λ v. l.add l.zero (l.mul p.y v)) second
      ∙ ring laws.ring (p.y ∷ []) (sum (con 0) (prod (var 0) (con 0))) (con 0) refl
