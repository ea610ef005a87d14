-- Functions on the circle that are the values of a polynomial with few coefficients: sums,
-- multiples, and products with linear functions.
use Rattle.std.specs.Prelude.{◌≡◌, ℕ, [], ◌∷◌}
use Rattle.std.proofs.Common.{zero, suc, ◌∙◌, ap, refl}
use Rattle.circle_field.specs.Field.{FieldOps, FieldLaws, two}
use Rattle.circle_field.specs.Ring.{Expr, var, con, unit, plus as sum, times as prod, minus}
use Rattle.circle_field.specs.RingSound.{ring}
use Rattle.circle_field.specs.RingCombine.{given, combine}
use Rattle.circle_field.specs.Circle.{Coordinates, IsOnCircle}
use Rattle.circle_point.proofs.Multiples.{iterated_x-suc}
use Rattle.circle_domain.specs.Layers.{factor}

module _ {E : Type 0} (l : FieldOps E) where
  -- the values of a polynomial with 2^m coefficients, by its two halves
  abbrev pub IsPolynomial : ℕ → (Coordinates E → E) → Type 0
  IsPolynomial zero f = (a : E) × ((p : Coordinates E) → IsOnCircle l p → f p ≡ a)
  IsPolynomial (suc m) f =
      (g : Coordinates E → E) × (h : Coordinates E → E) × IsPolynomial m g × IsPolynomial m h
      × ((p : Coordinates E) → IsOnCircle l p → f p ≡ l.add (g p) (l.mul (h p) (factor l m p)))

  -- the value of r + s x + t y
  abbrev pub linear : E → E → E → Coordinates E → E
  linear r s t p = l.add r (l.add (l.mul s p.x) (l.mul t p.y))

  -- the values of a polynomial with 2^n coefficients plus a multiple of v_n
  abbrev pub IsWide : ℕ → (Coordinates E → E) → Type 0
  IsWide n f =
      (g : Coordinates E → E) × (a : E) × IsPolynomial n g
      × ((p : Coordinates E) → IsOnCircle l p → f p ≡ l.add (g p) (l.mul a (factor l n p)))

module _ {E : Type 0} {l : FieldOps E} (laws : FieldLaws l) where
  pub same : (m : ℕ) (f g : Coordinates E → E) → IsPolynomial l m f →
      ((p : Coordinates E) → IsOnCircle l p → g p ≡ f p) → IsPolynomial l m g
  same zero f g s e = (s.0, λ p on. e p on ∙ s.1 p on)
  same (suc m) f g s e = (s.0, s.1, s.2, s.3, λ p on. e p on ∙ s.4 p on)

  pub constant : (m : ℕ) (a : E) → IsPolynomial l m (λ p. a)
  constant zero a = (a, λ p on. refl)
  constant (suc m) a = (
    (λ p. a),
    (λ p. l.zero),
    constant m a,
    constant m l.zero,
    λ p on. ring laws.ring (a ∷ factor l m p ∷ []) (var 0) (sum (var 0) (prod (con 0) (var 1)))
        refl,
  )

  pub combined : (m : ℕ) (a b : E) (f g : Coordinates E → E) → IsPolynomial l m f →
      IsPolynomial l m g → IsPolynomial l m (λ p. l.add (l.mul a (f p)) (l.mul b (g p)))
  combined zero a b f g s t = (
    l.add (l.mul a s.0) (l.mul b t.0),
    λ p on. ap (λ v. l.add (l.mul a v) (l.mul b (g p))) (s.1 p on)
        ∙ ap (λ v. l.add (l.mul a s.0) (l.mul b v)) (t.1 p on),
  )
  combined (suc m) a b f g s t = (
    (λ p. l.add (l.mul a (s.0 p)) (l.mul b (t.0 p))),
    (λ p. l.add (l.mul a (s.1 p)) (l.mul b (t.1 p))),
    combined m a b s.0 t.0 s.2 t.2,
    combined m a b s.1 t.1 s.3 t.3,
    λ p on.
        ap (λ v. l.add (l.mul a v) (l.mul b (g p))) (s.4 p on)
        ∙ ap (λ v. l.add (l.mul a (l.add (s.0 p) (l.mul (s.1 p) (factor l m p)))) (l.mul b v))
        (t.4 p on)
        ∙ ring laws.ring (a ∷ b ∷ s.0 p ∷ s.1 p ∷ t.0 p ∷ t.1 p ∷ factor l m p ∷ [])
        (sum (prod (var 0) (sum (var 2) (prod (var 3) (var 6))))
        (prod (var 1) (sum (var 4) (prod (var 5) (var 6)))))
        (sum (sum (prod (var 0) (var 2)) (prod (var 1) (var 4)))
        (prod (sum (prod (var 0) (var 3)) (prod (var 1) (var 5))) (var 6))) refl,
  )

  pub scaled : (m : ℕ) (a : E) (f : Coordinates E → E) → IsPolynomial l m f →
      IsPolynomial l m (λ p. l.mul a (f p))
  scaled m a f s =
      same m (λ p. l.add (l.mul a (f p)) (l.mul l.zero (f p))) (λ p. l.mul a (f p))
      (combined m a l.zero f f s s)
      (λ p on. ring laws.ring (a ∷ f p ∷ []) (prod (var 0) (var 1))
      (sum (prod (var 0) (var 1)) (prod (con 0) (var 1))) refl)

  -- with twice as many coefficients, the upper ones 0
  pub raised : (m : ℕ) (f : Coordinates E → E) → IsPolynomial l m f → IsPolynomial l (suc m) f
  raised m f s = (
    f,
    (λ p. l.zero),
    s,
    constant m l.zero,
    λ p on. ring laws.ring (f p ∷ factor l m p ∷ []) (var 0) (sum (var 0) (prod (con 0) (var 1)))
        refl,
  )

  -- or the lower ones
  pub upper : (m : ℕ) (f : Coordinates E → E) → IsPolynomial l m f →
      IsPolynomial l (suc m) (λ p. l.mul (f p) (factor l m p))
  upper m f s = (
    (λ p. l.zero),
    f,
    constant m l.zero,
    s,
    λ p on. ring laws.ring (f p ∷ factor l m p ∷ []) (prod (var 0) (var 1))
        (sum (con 0) (prod (var 0) (var 1))) refl,
  )

  half_inverse : l.mul (l.add l.one l.one) (l.inv (two l)) ≡ l.one
  half_inverse = laws.mul_inv (two l) laws.two_nonzero

  -- a function that takes polynomials to those with twice as many coefficients does so of longer
  -- ones
  step : (j : ℕ) (t : Coordinates E → E) →
      ((f : Coordinates E → E) → IsPolynomial l (suc j) f →
      IsPolynomial l (suc (suc j)) (λ p. l.mul (t p) (f p))) →
      (f : Coordinates E → E) → IsPolynomial l (suc (suc j)) f →
      IsPolynomial l (suc (suc (suc j))) (λ p. l.mul (t p) (f p))
  step j t times f s =
      let half = l.inv (two l) in
      let high = times s.1 s.3 in
      let low = λ (p : Coordinates E). l.mul (t p) (s.0 p) in
      let rest = λ (p : Coordinates E). l.mul half (high.1 p) in
      let of_rest : IsPolynomial l (suc j) rest = scaled (suc j) half high.1 high.3 in
      let carried = λ (p : Coordinates E). l.add (rest p) (l.mul (high.0 p) (factor l (suc j) p)) in
      let of_carried : IsPolynomial l (suc (suc j)) carried =
      (rest, high.0, of_rest, high.2, λ p on. refl) in (
        (λ p. l.add (l.mul l.one (low p)) (l.mul l.one (carried p))),
        rest,
        combined (suc (suc j)) l.one l.one low carried (times s.0 s.2) of_carried,
        raised (suc j) rest of_rest,
        λ p on.
            let u : Expr = var 0 in let w : Expr = var 1 in let g : Expr = var 2 in let h : Expr =
            var 3 in
            let e : Expr = var 4 in let c : Expr = var 5 in let d : Expr = var 6 in let i : Expr =
            var 7 in let v : Expr = var 8 in
            let square : Expr = sum (sum (prod c c) (prod c c)) (minus unit) in
            combine laws.ring (high.0 p ∷ high.1 p ∷ s.0 p ∷ s.1 p ∷ t p ∷ factor l (suc j) p
            ∷ factor l (suc (suc j)) p ∷ half ∷ f p ∷ [])
            (prod e v)
            (sum (sum (prod unit (prod e g)) (prod unit (sum (prod i w) (prod u c))))
            (prod (prod i w) d))
            (given e v (sum g (prod h c)) ∷ given c (prod e h) (sum u (prod w c))
            ∷ given (minus (prod i w)) d square
            ∷ given (minus (prod (prod w c) c)) (prod (sum unit unit) i) unit ∷ []) refl
            (s.4 p on, (high.4 p on, (iterated_x-suc l j p.x, (half_inverse, tt)))),
      )

  -- x and y times a polynomial
  x_times : (j : ℕ) (f : Coordinates E → E) → IsPolynomial l (suc j) f →
      IsPolynomial l (suc (suc j)) (λ p. l.mul p.x (f p))
  x_times zero f s =
      same (suc (suc zero)) (λ p. l.mul (f p) (factor l (suc zero) p)) (λ p. l.mul p.x (f p))
      (upper (suc zero) f s) (λ p on. laws.ring.mul_comm p.x (f p))
  x_times (suc j) f s = step j (λ p. p.x) (x_times j) f s

  y_times : (j : ℕ) (f : Coordinates E → E) → IsPolynomial l (suc (suc j)) f →
      IsPolynomial l (suc (suc (suc j))) (λ p. l.mul p.y (f p))
  y_times zero f s =
      let half = l.inv (two l) in
      let less = l.neg half in
      let g = s.2 in
      let h = s.3 in
      let pair = λ (a : E) (u v : Coordinates E → E) (p : Coordinates E). l.add (l.mul a (u p))
      (l.mul (v p) p.y) in
      let of_pair : (a : E) (u v : Coordinates E → E) → IsPolynomial l zero u →
      IsPolynomial l zero v → IsPolynomial l (suc zero) (pair a u v) =
      λ a u v is_u is_v. ((λ p. l.mul a (u p)), v, scaled zero a u is_u, is_v, λ p on. refl) in
      let none = λ (p : Coordinates E). l.zero in
      let of_none = constant zero l.zero in
      let low =
      λ (p : Coordinates E). l.add (pair half g.1 g.0 p) (l.mul (pair half h.1 h.0 p) p.x) in
      let high =
      λ (p : Coordinates E). l.add (pair less g.1 none p) (l.mul (pair less h.1 none p) p.x) in (
        low,
        high,
        (
          pair half g.1 g.0,
          pair half h.1 h.0,
          of_pair half g.1 g.0 g.3 g.2,
          of_pair half h.1 h.0 h.3 h.2,
          λ p on. refl,
        ),
        (
          pair less g.1 none,
          pair less h.1 none,
          of_pair less g.1 none g.3 of_none,
          of_pair less h.1 none h.3 of_none,
          λ p on. refl,
        ),
        λ p on.
            let x : Expr = var 0 in let y : Expr = var 1 in let v : Expr = var 2 in let b : Expr =
            var 3 in let c : Expr = var 4 in
            let b0 : Expr = var 5 in let b1 : Expr = var 6 in let c0 : Expr = var 7 in
            let c1 : Expr = var 8 in let i : Expr = var 9 in let d : Expr = var 10 in
            let two_of : Expr → Expr → Expr → Expr = λ q m n. sum (prod q m) (prod n y) in
            let square : Expr = sum (sum (prod x x) (prod x x)) (minus unit) in
            let all : Expr = sum b1 (prod c1 x) in
            combine laws.ring (p.x ∷ p.y ∷ f p ∷ s.0 p ∷ s.1 p ∷ g.0 p ∷ g.1 p ∷ h.0 p ∷ h.1 p
            ∷ half ∷ factor l (suc (suc zero)) p ∷ [])
            (prod y v)
            (sum (sum (two_of i b1 b0) (prod (two_of i c1 c0) x))
            (prod (sum (two_of (minus i) b1 (con 0)) (prod (two_of (minus i) c1 (con 0)) x)) d))
            (given y v (sum b (prod c x)) ∷ given y b (sum b0 (prod b1 y))
            ∷ given (prod x y) c (sum c0 (prod c1 y))
            ∷ given (prod i all) d square ∷ given all (sum (prod x x) (prod y y)) unit
            ∷ given (minus (prod all (sum unit (minus (prod x x))))) (prod (sum unit unit) i) unit
            ∷ []) refl (
              s.4 p on,
              (g.4 p on, (h.4 p on, (iterated_x-suc l zero p.x, (on, (half_inverse, tt))))),
            ),
      )
  y_times (suc j) f s = step (suc j) (λ p. p.y) (y_times j) f s

  -- and a linear function
  linear_times : (j : ℕ) (r s t : E) (f : Coordinates E → E) → IsPolynomial l (suc (suc j)) f →
      IsPolynomial l (suc (suc (suc j))) (λ p. l.mul (linear l r s t p) (f p))
  linear_times j r s t f is =
      let n = suc (suc j) in
      let first = λ (p : Coordinates E). l.add (l.mul r (f p)) (l.mul s (l.mul p.x (f p))) in
      let of_first : IsPolynomial l (suc n) first =
      combined (suc n) r s f (λ p. l.mul p.x (f p)) (raised n f is) (x_times (suc j) f is) in
      same (suc n) (λ p. l.add (l.mul l.one (first p)) (l.mul t (l.mul p.y (f p))))
      (λ p. l.mul (linear l r s t p) (f p))
      (combined (suc n) l.one t first (λ p. l.mul p.y (f p)) of_first (y_times j f is))
      (λ p on. ring laws.ring (r ∷ s ∷ t ∷ p.x ∷ p.y ∷ f p ∷ [])
      (prod (sum (var 0) (sum (prod (var 1) (var 3)) (prod (var 2) (var 4)))) (var 5))
      (sum (prod unit (sum (prod (var 0) (var 5)) (prod (var 1) (prod (var 3) (var 5)))))
      (prod (var 2) (prod (var 4) (var 5)))) refl)

  linear_is : (j : ℕ) (r s t : E) → IsPolynomial l (suc (suc j)) (linear l r s t)
  linear_is zero r s t = (
    (λ p. l.add r (l.mul t p.y)),
    (λ p. s),
    ((λ p. r), (λ p. t), constant zero r, constant zero t, λ p on. refl),
    constant (suc zero) s,
    λ p on. ring laws.ring (r ∷ s ∷ t ∷ p.x ∷ p.y ∷ [])
        (sum (var 0) (sum (prod (var 1) (var 3)) (prod (var 2) (var 4))))
        (sum (sum (var 0) (prod (var 2) (var 4))) (prod (var 1) (var 3))) refl,
  )
  linear_is (suc j) r s t = raised (suc (suc j)) (linear l r s t) (linear_is j r s t)

  -- a linear function times a polynomial plus a multiple of v_n
  pub linear_wide : (j : ℕ) (r s t : E) (f : Coordinates E → E) → IsWide l (suc (suc j)) f →
      IsPolynomial l (suc (suc (suc j))) (λ p. l.mul (linear l r s t p) (f p))
  linear_wide j r s t f is =
      let n = suc (suc j) in
      let line = linear l r s t in
      same (suc n)
      (λ p. l.add (l.mul l.one (l.mul (line p) (is.0 p)))
      (l.mul is.1 (l.mul (line p) (factor l n p)))) (λ p. l.mul (line p) (f p))
      (combined (suc n) l.one is.1 (λ p. l.mul (line p) (is.0 p))
      (λ p. l.mul (line p) (factor l n p)) (linear_times j r s t is.0 is.2)
      (upper n line (linear_is j r s t)))
      (λ p on. ap (l.mul (line p)) (is.3 p on)
      ∙ ring laws.ring (line p ∷ is.0 p ∷ is.1 ∷ factor l n p ∷ [])
      (prod (var 0) (sum (var 1) (prod (var 2) (var 3))))
      (sum (prod unit (prod (var 0) (var 1))) (prod (var 2) (prod (var 0) (var 3)))) refl)

  -- sums of multiples of such
  pub wide-combined : (n : ℕ) (a b : E) (f g : Coordinates E → E) → IsWide l n f → IsWide l n g →
      IsWide l n (λ p. l.add (l.mul a (f p)) (l.mul b (g p)))
  wide-combined n a b f g s t = (
    (λ p. l.add (l.mul a (s.0 p)) (l.mul b (t.0 p))),
    l.add (l.mul a s.1) (l.mul b t.1),
    combined n a b s.0 t.0 s.2 t.2,
    λ p on.
        ap (λ v. l.add (l.mul a v) (l.mul b (g p))) (s.3 p on)
        ∙ ap (λ v. l.add (l.mul a (l.add (s.0 p) (l.mul s.1 (factor l n p)))) (l.mul b v))
        (t.3 p on)
        ∙ ring laws.ring (a ∷ b ∷ s.0 p ∷ s.1 ∷ t.0 p ∷ t.1 ∷ factor l n p ∷ [])
        (sum (prod (var 0) (sum (var 2) (prod (var 3) (var 6))))
        (prod (var 1) (sum (var 4) (prod (var 5) (var 6)))))
        (sum (sum (prod (var 0) (var 2)) (prod (var 1) (var 4)))
        (prod (sum (prod (var 0) (var 3)) (prod (var 1) (var 5))) (var 6))) refl,
  )
