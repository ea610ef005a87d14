-- Where the quotient of a polynomial by the vanishing function of a point is one on a domain, the
-- polynomial is 0 at that point.
use Rattle.std.specs.Prelude.{◌≡◌, ◌≢◌, ℕ, ◌+◌, ◌-◌, ◌^◌, ◌<◌, ◌≤◌, List, [], ◌∷◌, length}
use Rattle.std.specs.Prelude.{slice_index_or}
use Rattle.std.specs.List.{AllByRecursion}
use Rattle.std.proofs.Common.{zero, suc, sym, ◌∙◌, ap, refl, subst, arith}
use Rattle.circle_field.specs.Field.{FieldOps, FieldLaws, sub, two}
use Rattle.circle_field.specs.Ring.{Expr, var, con, unit, plus as sum, times as prod, minus}
use Rattle.circle_field.specs.RingCombine.{given, combine}
use Rattle.circle_field.specs.RingFacts.{zero_mul}
use Rattle.circle_field.specs.Circle.{Coordinates, IsOnCircle, AreGenerators, times, origin}
use Rattle.circle_field.proofs.Halves.{half_unique}
use Rattle.circle_domain.proofs.Blocks.{points}
use Rattle.circle_folding.specs.Quotient.{real_part, imaginary_part}
use Rattle.circle_folding.proofs.Only.{map-read, points-on_circle, polynomials-only}
use Rattle.circle_folding.proofs.Polynomials.{IsPolynomial, IsWide, linear, linear_wide, raised}
use Rattle.circle_folding.proofs.Polynomials.{wide-combined}

-- what holds of each entry holds at each index
pub all-read : {X : Type 0} (P : X → Type 0) (xs : List X) (d : X) → AllByRecursion P xs → (i : ℕ) →
    i < length xs → P (slice_index_or xs i d)
all-read P [] d all i lt = absurd (omega arith)
all-read P (x ∷ xs) d all zero lt = all.0
all-read P (x ∷ xs) d all (suc i) lt = all-read P xs d all.1 i (omega arith)

module _ {E : Type 0} (l : FieldOps E) (n : ℕ) (ps : List (Coordinates E)) where
  -- the point at an index
  abbrev pub point_at : ℕ → Coordinates E
  point_at i = slice_index_or ps i (origin l)

  -- entries by index that are the values of a polynomial with 2^n coefficients plus a multiple of
  -- v_n
  abbrev pub AreWide : (ℕ → E) → Type 0
  AreWide u = (f : Coordinates E → E) × IsWide l n f
      × ((i : ℕ) → i < length ps → f (point_at i) ≡ u i)

module _ {E : Type 0} {l : FieldOps E} (laws : FieldLaws l) where
  pub are-combined : (n : ℕ) (ps : List (Coordinates E)) (a b : E) (u w t : ℕ → E) →
      AreWide l n ps u → AreWide l n ps w →
      ((i : ℕ) → i < length ps → t i ≡ l.add (l.mul a (u i)) (l.mul b (w i))) → AreWide l n ps t
  are-combined n ps a b u w t s r e = (
    (λ p. l.add (l.mul a (s.0 p)) (l.mul b (r.0 p))),
    wide-combined laws n a b s.0 r.0 s.1 r.1,
    λ i lt.
        ap (λ v. l.add (l.mul a v) (l.mul b (r.0 (point_at l n ps i)))) (s.2 i lt)
        ∙ ap (λ v. l.add (l.mul a (u i)) (l.mul b v)) (r.2 i lt) ∙ sym (e i lt),
  )

  raised_by : (m d i : ℕ) (f : Coordinates E → E) → i ≡ d + m → IsPolynomial l m f →
      IsPolynomial l i f
  raised_by m zero i f e s = let same : m ≡ i = omega (arith, e) in
      subst (λ i. IsPolynomial l i f) same s
  raised_by m (suc d) i f e s = let same : suc (d + m) ≡ i = omega (arith, e) in
      subst (λ i. IsPolynomial l i f) same (raised laws (d + m) f (raised_by m d (d + m) f refl s))

  -- the imaginary part over twice the real part
  abbrev pub ratio : Coordinates E → Coordinates E → E
  ratio z p = let re = real_part l (λ r. r) p z in
      l.mul (imaginary_part l (λ r. r) p z) (l.inv (l.add re re))

  -- at a point of the circle: (2 - re) f = 2 im g, where g is f times the ratio
  sides : (z p : Coordinates E) (f g : E) → IsOnCircle l z → IsOnCircle l p →
      (let re = real_part l (λ r. r) p z in l.add re re ≢ l.zero) → g ≡ l.mul (ratio z p) f →
      l.mul (linear l l.one z.x z.y p) f
      ≡ l.mul (linear l l.zero (l.add z.y z.y) (l.neg (l.add z.x z.x)) p) g
  sides z p f g on_z on_p nonzero e =
      let re = real_part l (λ r. r) p z in
      let x : Expr = var 0 in let y : Expr = var 1 in let zx : Expr = var 2 in let zy : Expr =
      var 3 in
      let i : Expr = var 4 in let v : Expr = var 5 in let w : Expr = var 6 in
      let r : Expr = sum unit (minus (sum (prod zx x) (minus (prod (minus zy) y)))) in
      let m : Expr = minus (sum (prod zx y) (prod (minus zy) x)) in
      let left : Expr = sum unit (sum (prod zx x) (prod zy y)) in
      let right : Expr = sum (con 0) (sum (prod (sum zy zy) x) (prod (minus (sum zx zx)) y)) in
      let norm : Expr → Expr → Expr = λ a b. sum (prod a a) (prod b b) in
      let double : Expr = prod (sum v v) i in
      combine laws.ring (p.x ∷ p.y ∷ z.x ∷ z.y ∷ l.inv (l.add re re) ∷ f ∷ g ∷ []) (prod left v)
      (prod right w)
      (given (minus right) w (prod (prod m i) v) ∷ given (minus (prod v left)) (prod (sum r r) i)
      unit
      ∷ given (minus (prod double (norm zx zy))) (norm x y) unit
      ∷ given (minus double) (norm zx zy) unit ∷ []) refl
      (e, (laws.mul_inv (l.add re re) nonzero, (on_p, (on_z, tt))))

  module _ {gen : ℕ → Coordinates E} {bits : ℕ} (gens : AreGenerators l bits gen) (m : ℕ)
      (q : Coordinates E) (fits : m ≤ suc bits) (on : IsOnCircle l q)
      (genuine : times l (2 ^ m) q ≢ origin l) where
    abbrev ps : List (Coordinates E)
    ps = points l gen m q

    module _ (j : ℕ) (room : suc (suc (suc j)) ≤ m) (z : Coordinates E) (on_z : IsOnCircle l z)
        (off : (i : ℕ) → i < length ps → let re = real_part l (λ r. r) (point_at l j ps i) z in
        l.add re re ≢ l.zero) where
      abbrev n : ℕ
      n = suc (suc j)

      pub vanishes : (f : Coordinates E → E) → IsWide l n f →
          AreWide l n ps (λ i. l.mul (ratio z (point_at l n ps i)) (f (point_at l n ps i))) →
          f z ≡ l.zero
      vanishes f is quotients =
          let g = quotients.0 in
          let left = λ (p : Coordinates E). l.mul (linear l l.one z.x z.y p) (f p) in
          let right =
          λ (p : Coordinates E). l.mul
          (linear l l.zero (l.add z.y z.y) (l.neg (l.add z.x z.x)) p) (g p) in
          let more : m ≡ (m - suc n) + suc n = omega (arith, room) in
          let at_z : left z ≡ right z =
          polynomials-only laws gens m q fits on genuine left right
          (raised_by (suc n) (m - suc n) m left more (linear_wide laws j l.one z.x z.y f is))
          (raised_by (suc n) (m - suc n) m right more
          (linear_wide laws j l.zero (l.add z.y z.y) (l.neg (l.add z.x z.x)) g quotients.1))
          (map-read left right ps (origin l) (λ i lt.
          let p = point_at l n ps i in
          sides z p (f p) (g p) on_z
          (all-read (IsOnCircle l) ps (origin l) (points-on_circle laws gens m q fits on) i lt)
          (off i lt) (quotients.2 i lt)))
          z on_z in
          let x : Expr = var 0 in let y : Expr = var 1 in let v : Expr = var 2 in let w : Expr =
          var 3 in
          let twice : l.add (f z) (f z) ≡ l.zero =
          combine laws.ring (z.x ∷ z.y ∷ f z ∷ g z ∷ []) (sum v v) (con 0)
          (given unit (prod (sum unit (sum (prod x x) (prod y y))) v)
          (prod (sum (con 0) (sum (prod (sum y y) x) (prod (minus (sum x x)) y))) w)
          ∷ given (minus v) (sum (prod x x) (prod y y)) unit ∷ []) refl (at_z, (on_z, tt)) in
          half_unique laws l.zero (f z) twice ∙ zero_mul laws.ring _

      -- the same by one quotient under a challenge alpha
      pub vanishes-by : (alpha : E) (f : Coordinates E → E) → alpha ≢ l.zero → IsWide l n f →
          AreWide l n ps (λ i. let p = point_at l n ps i in let re = real_part l (λ r. r) p z in
          l.mul
          (l.mul (sub l re (l.mul alpha (imaginary_part l (λ r. r) p z))) (l.inv (l.add re re)))
          (f p)) → f z ≡ l.zero
      vanishes-by alpha f nonzero is quotients =
          let at = point_at l n ps in
          let i2 = l.inv (two l) in
          let ia = l.inv alpha in
          let re = λ (p : Coordinates E). real_part l (λ r. r) p z in
          let im = λ (p : Coordinates E). imaginary_part l (λ r. r) p z in
          let quotient =
          λ (i : ℕ). l.mul
          (l.mul (sub l (re (at i)) (l.mul alpha (im (at i))))
          (l.inv (l.add (re (at i)) (re (at i))))) (f (at i)) in
          vanishes f is
          (are-combined n ps (l.mul ia i2) (l.neg ia) (λ i. f (at i)) quotient
          (λ i. l.mul (ratio z (at i)) (f (at i))) (f, is, λ i lt. refl) quotients (λ i lt.
          let p = at i in
          let a : Expr = var 0 in let b : Expr = var 1 in let h : Expr = var 2 in let r : Expr =
          var 3 in let m : Expr = var 4 in let j : Expr = var 5 in let v : Expr = var 6 in
          combine laws.ring (alpha ∷ ia ∷ i2 ∷ re p ∷ im p ∷ l.inv (l.add (re p) (re p)) ∷ f p ∷ [])
          (prod (prod m j) v)
          (sum (prod (prod b h) v) (prod (minus b) (prod (prod (sum r (minus (prod a m))) j) v)))
          (given (minus (prod (prod m j) v)) (prod a b) unit
          ∷ given (prod (prod b h) v) (prod (sum r r) j) unit
          ∷ given (minus (prod (prod b v) (prod r j))) (prod (sum unit unit) h) unit ∷ []) refl (
            laws.mul_inv alpha nonzero,
            (
              laws.mul_inv (l.add (re p) (re p)) (off i lt),
              (laws.mul_inv (two l) laws.two_nonzero, tt),
            ),
          )))
