-- A function on the circle that is 0 at more coordinates of the projective line than twice its
-- degree
-- is 0 at all of them.
use Rattle.std.specs.Prelude.{◌≡◌, ◌≢◌, ℕ, ◌+◌, ◌-◌, ◌≤◌, List, [], ◌∷◌, length}
use Rattle.std.specs.List.{AllByRecursion}
use Rattle.std.proofs.Common.{zero, suc, sym, ◌∙◌, ap, refl, subst, arith}
use Rattle.circle_field.specs.Field.{FieldOps, FieldLaws, sub, nth_power}
use Rattle.circle_field.specs.Ring.{var, con, unit, plus as sum, times as prod, minus}
use Rattle.circle_field.specs.RingSound.{ring}
use Rattle.circle_field.specs.RingCombine.{given, combine}
use Rattle.circle_field.specs.Circle.{Coordinates}
use Rattle.circle_field.proofs.Inverses.{nonzero_product, one_nonzero}
use Rattle.circle_point.specs.Projective.{from_line, line_norm}
use Rattle.circle_point.proofs.Projections.{from_line-on_circle}
use Rattle.circle_quotient.proofs.Forms.{HasForm}
use Rattle.circle_quotient.proofs.Monomials.{HasCoefficients, IsDistinct, constant, added, scaled}
use Rattle.circle_quotient.proofs.Monomials.{shifted, raised_by, multiplied_within, roots}
use Rattle.circle_quotient.proofs.Monomials.{zero_factor, all-both}

module _ {E : Type 0} {l : FieldOps E} (laws : FieldLaws l) where
  abbrev norm_power : ℕ → E → E
  norm_power d t = nth_power l (line_norm l t) d

  norm-polynomial : HasCoefficients l 3 (line_norm l)
  norm-polynomial = (
    l.one,
    (λ t. t),
    (
      l.zero,
      (λ t. l.one),
      constant laws 0 l.one,
      λ t. ring laws.ring (t ∷ []) (var 0) (sum (con 0) (prod (var 0) unit)) refl,
    ),
    λ t. refl,
  )

  one_less : HasCoefficients l 3 (λ t. sub l l.one (l.mul t t))
  one_less = (
    l.one,
    (λ t. l.neg t),
    (
      l.zero,
      (λ t. l.neg l.one),
      constant laws 0 (l.neg l.one),
      λ t. ring laws.ring (t ∷ []) (minus (var 0)) (sum (con 0) (prod (var 0) (minus unit))) refl,
    ),
    λ t. ring laws.ring (t ∷ []) (sum unit (minus (prod (var 0) (var 0))))
        (sum unit (prod (var 0) (minus (var 0)))) refl,
  )

  power-polynomial : (d : ℕ) → HasCoefficients l (suc (d + d)) (norm_power d)
  power-polynomial zero = constant laws 0 l.one
  power-polynomial (suc d) =
      multiplied_within laws 3 (suc (d + d)) (suc (suc d + suc d)) (line_norm l) (norm_power d)
      (λ a b. omega arith) norm-polynomial (power-polynomial d)

  -- a polynomial in x times a power of 1 + t^2 is one in t
  cleared : (d : ℕ) (a : E → E) → HasCoefficients l (suc d) a →
      (f : E → E) × HasCoefficients l (suc (d + d)) f
      × ((t : E) → line_norm l t ≢ l.zero →
      f t ≡ l.mul (norm_power d t) (a (from_line l t).x))
  cleared zero a s = (
    (λ t. s.0),
    constant laws 0 s.0,
    λ t nonzero.
        let x = (from_line l t).x in
        sym (ap (l.mul l.one) (s.3 x ∙ ap (λ v. l.add s.0 (l.mul x v)) (s.2 x))
        ∙ ring laws.ring (s.0 ∷ x ∷ []) (prod unit (sum (var 0) (prod (var 1) (con 0)))) (var 0)
        refl),
  )
  cleared (suc d) a s =
      let inner = cleared d s.1 s.2 in
      let size = suc (suc d + suc d) in
      let low = λ (t : E). l.mul s.0 (norm_power (suc d) t) in
      let high = λ (t : E). l.mul (sub l l.one (l.mul t t)) (inner.0 t) in (
        (λ t. l.add (low t) (high t)),
        added laws size low high
            (scaled laws size s.0 (norm_power (suc d)) (power-polynomial (suc d)))
            (multiplied_within laws 3 (suc (d + d)) size (λ t. sub l l.one (l.mul t t)) inner.0
            (λ a b. omega arith) one_less inner.1),
        λ t nonzero.
            let x = (from_line l t).x in
            let n = line_norm l t in
            ap (λ v. l.add (low t) (l.mul (sub l l.one (l.mul t t)) v)) (inner.2 t nonzero)
            ∙ combine laws.ring
            (s.0 ∷ n ∷ norm_power d t ∷ sub l l.one (l.mul t t) ∷ s.1 x ∷ l.inv n ∷ a x ∷ [])
            (sum (prod (var 0) (prod (var 1) (var 2))) (prod (var 3) (prod (var 2) (var 4))))
            (prod (prod (var 1) (var 2)) (var 6))
            (given (minus (prod (var 1) (var 2))) (var 6)
            (sum (var 0) (prod (prod (var 3) (var 5)) (var 4)))
            ∷ given (minus (prod (prod (var 3) (var 2)) (var 4))) (prod (var 1) (var 5)) unit ∷ [])
            refl
            (s.3 x, (laws.mul_inv n nonzero, tt)),
      )

  -- a function of degree d, times 1 + t^2 to the power of its degree
  cleared-form : (d : ℕ) (f : Coordinates E → E) → HasForm l (d + 1) d f →
      (g : E → E) × HasCoefficients l (suc (d + d)) g
      × ((t : E) → line_norm l t ≢ l.zero → g t ≡ l.mul (norm_power d t) (f (from_line l t)))
  cleared-form zero f s =
      let even = cleared 0 s.0 s.2 in (
        even.0,
        even.1,
        λ t nonzero.
            let p = from_line l t in
            even.2 t nonzero
            ∙ ap (l.mul l.one) (sym (s.4 p (from_line-on_circle laws t nonzero)
            ∙ ap (λ v. l.add (s.0 p.x) (l.mul p.y v)) (s.3 p.x)
            ∙ ring laws.ring (s.0 p.x ∷ p.y ∷ []) (sum (var 0) (prod (var 1) (con 0))) (var 0)
            refl)),
      )
  cleared-form (suc d) f s =
      let size = suc (suc d + suc d) in
      let one : suc d + 1 ≡ suc (suc d) = omega arith in
      let even = cleared (suc d) s.0 (subst (λ i. HasCoefficients l i s.0) one s.2) in
      let odd = cleared d s.1 s.3 in
      let two = l.add l.one l.one in
      let shift = λ (t : E). l.mul t (odd.0 t) in
      let high = λ (t : E). l.mul two (shift t) in (
        (λ t. l.add (even.0 t) (high t)),
        added laws size even.0 high even.1
            (scaled laws size two shift
            (raised_by laws 1 (suc (suc (d + d))) size shift (omega arith)
            (shifted laws (suc (d + d)) odd.0 odd.1))),
        λ t nonzero.
            let p = from_line l t in
            let n = line_norm l t in
            ap (λ v. l.add v (high t)) (even.2 t nonzero)
            ∙ ap (λ v. l.add (l.mul (norm_power (suc d) t) (s.0 p.x)) (l.mul two (l.mul t v)))
            (odd.2 t nonzero)
            ∙ combine laws.ring
            (n ∷ norm_power d t ∷ s.0 p.x ∷ t ∷ s.1 p.x ∷ l.inv n ∷ f p ∷ [])
            (sum (prod (prod (var 0) (var 1)) (var 2))
            (prod (sum unit unit) (prod (var 3) (prod (var 1) (var 4)))))
            (prod (prod (var 0) (var 1)) (var 6))
            (given (minus (prod (var 0) (var 1))) (var 6)
            (sum (var 2) (prod (prod (sum (var 3) (var 3)) (var 5)) (var 4)))
            ∷ given (minus (prod (prod (sum (var 3) (var 3)) (var 1)) (var 4)))
            (prod (var 0) (var 5)) unit ∷ []) refl
            (s.4 p (from_line-on_circle laws t nonzero), (laws.mul_inv n nonzero, tt)),
      )

  power-nonzero : (d : ℕ) (t : E) → line_norm l t ≢ l.zero → norm_power d t ≢ l.zero
  power-nonzero zero t nonzero = one_nonzero laws
  power-nonzero (suc d) t nonzero =
      nonzero_product laws (line_norm l t) (norm_power d t) nonzero (power-nonzero d t nonzero)

  -- a coordinate that is not at infinity, where a function is 0
  pub record IsLineRoot (f : Coordinates E → E) (t : E) : Type 0 where
    pub finite : line_norm l t ≢ l.zero
    pub root : f (from_line l t) ≡ l.zero

  pub zero-on_line : (d : ℕ) (f : Coordinates E → E) → HasForm l (d + 1) d f → (ts : List E) →
      suc (d + d) ≤ length ts → IsDistinct ts → AllByRecursion (IsLineRoot f) ts → (t : E) →
      line_norm l t ≢ l.zero → f (from_line l t) ≡ l.zero
  zero-on_line d f s ts enough distinct all t nonzero =
      let clear = cleared-form d f s in
      let g = clear.0 in
      let gone : g t ≡ l.zero =
      roots laws ts g
      (raised_by laws (length ts - suc (d + d)) (suc (d + d)) (length ts) g (omega (arith, enough))
      clear.1) distinct
      (all-both (IsLineRoot f) (IsLineRoot f) (λ t. g t ≡ l.zero) ts
      (λ t is _. clear.2 t is.finite ∙ ap (l.mul (norm_power d t)) is.root
      ∙ ring laws.ring (norm_power d t ∷ []) (prod (var 0) (con 0)) (con 0) refl) all all) t in
      zero_factor laws (norm_power d t) (f (from_line l t)) (power-nonzero d t nonzero)
      (sym (clear.2 t nonzero) ∙ gone)
