-- What doublings of the point make of the degree of a function on the circle.
use Rattle.std.specs.Prelude.{◌≡◌, ℕ, ◌+◌, ◌-◌, ◌*◌, ◌^◌, ◌≤◌, [], ◌∷◌}
use Rattle.std.proofs.Common.{zero, suc, sym, ◌∙◌, ap, refl, subst, arith}
use Rattle.std.proofs.Math.Nat.{pow-suc, mul-le-mul_left}
use Rattle.std.proofs.lemmas.Nat.{pow_pos}
use Rattle.circle_field.specs.Field.{FieldOps, FieldLaws}
use Rattle.circle_field.specs.Ring.{var, con, unit, plus as sum, times as prod, minus}
use Rattle.circle_field.specs.RingSound.{ring}
use Rattle.circle_field.specs.Circle.{Coordinates, plus, times}
use Rattle.circle_field.specs.CircleGroup.{plus-on_circle}
use Rattle.circle_point.specs.Basis.{doubled_x}
use Rattle.circle_point.proofs.Multiples.{times-double, times-one, doubled_x-plus}
use Rattle.circle_quotient.proofs.Monomials.{HasCoefficients, constant, added, scaled, shifted}
use Rattle.circle_quotient.proofs.Monomials.{same}
use Rattle.circle_quotient.proofs.Monomials.{raised_by, multiplied_within}
use Rattle.circle_quotient.proofs.Forms.{HasForm, form-same}

module _ {E : Type 0} {l : FieldOps E} (laws : FieldLaws l) where
  square : HasCoefficients l 3 (doubled_x l)
  square = (
    l.neg l.one,
    (λ x. l.add x x),
    (
      l.zero,
      (λ x. l.add l.one l.one),
      constant laws 0 (l.add l.one l.one),
      λ x. ring laws.ring (x ∷ []) (sum (var 0) (var 0))
          (sum (con 0) (prod (var 0) (sum unit unit))) refl,
    ),
    λ x. ring laws.ring (x ∷ [])
        (sum (sum (prod (var 0) (var 0)) (prod (var 0) (var 0))) (minus unit))
        (sum (minus unit) (prod (var 0) (sum (var 0) (var 0)))) refl,
  )

  composed : (n : ℕ) (f : E → E) → HasCoefficients l (suc n) f →
      HasCoefficients l (suc (n + n)) (λ x. f (doubled_x l x))
  composed zero f s =
      same laws 1 (λ x. s.0) (λ x. f (doubled_x l x)) (constant laws 0 s.0)
      (λ x. s.3 (doubled_x l x) ∙ ap (λ v. l.add s.0 (l.mul (doubled_x l x) v))
      (s.2 (doubled_x l x))
      ∙ ring laws.ring (s.0 ∷ doubled_x l x ∷ []) (sum (var 0) (prod (var 1) (con 0))) (var 0) refl)
  composed (suc n) f s =
      let size = suc (suc n + suc n) in
      let inner = λ (x : E). s.1 (doubled_x l x) in
      same laws size (λ x. l.add s.0 (l.mul (doubled_x l x) (inner x))) (λ x. f (doubled_x l x))
      (added laws size (λ x. s.0) (λ x. l.mul (doubled_x l x) (inner x))
      (constant laws (suc n + suc n) s.0)
      (multiplied_within laws 3 (suc (n + n)) size (doubled_x l) inner (λ a b. omega arith) square
      (composed n s.1 s.2)))
      (λ x. s.3 (doubled_x l x))

  -- at the double of a point
  doubled-form : (n : ℕ) (f : Coordinates E → E) → HasForm l (suc n) (suc n) f →
      HasForm l (suc n + suc n) (suc n + suc n) (λ p. f (plus l p p))
  doubled-form n f s =
      let size = suc n + suc n in
      let a = λ (x : E). s.0 (doubled_x l x) in
      let b = λ (x : E). s.1 (doubled_x l x) in
      let two = l.add l.one l.one in
      let e : suc (suc (n + n)) ≡ size = omega arith in (
        a,
        (λ x. l.mul two (l.mul x (b x))),
        raised_by laws 1 (suc (n + n)) size a (omega arith) (composed n s.0 s.2),
        subst (λ i. HasCoefficients l i (λ x. l.mul two (l.mul x (b x)))) e
            (scaled laws (suc (suc (n + n))) two (λ x. l.mul x (b x))
            (shifted laws (suc (n + n)) b (composed n s.1 s.3))),
        λ p on.
            let back : (plus l p p).x ≡ doubled_x l p.x = sym (doubled_x-plus laws.ring p on) in
            s.4 (plus l p p) (plus-on_circle laws.ring p p on on)
            ∙ ap (λ x. l.add (s.0 x) (l.mul (plus l p p).y (s.1 x))) back
            ∙ ring laws.ring (a p.x ∷ b p.x ∷ p.x ∷ p.y ∷ [])
            (sum (var 0) (prod (sum (prod (var 2) (var 3)) (prod (var 3) (var 2))) (var 1)))
            (sum (var 0) (prod (var 3) (prod (sum unit unit) (prod (var 2) (var 1))))) refl,
      )

  -- at its multiple by 2^d
  pub multiple-form : (d n : ℕ) (f : Coordinates E → E) → 1 ≤ n → HasForm l n n f →
      HasForm l (2 ^ d * n) (2 ^ d * n) (λ p. f (times l (2 ^ d) p))
  multiple-form zero n f positive s =
      let e : n ≡ 2 ^ 0 * n = omega arith in
      subst (λ i. HasForm l i i (λ p. f (times l (2 ^ 0) p))) e
      (form-same laws n n f (λ p. f (times l (2 ^ 0) p)) s (λ p on. ap f (times-one laws.ring p)))
  multiple-form (suc d) zero f positive s = absurd (omega arith)
  multiple-form (suc d) (suc n) f positive s =
      let size = 2 ^ d * suc n in
      let inner = λ (p : Coordinates E). f (times l (2 ^ d) p) in
      let one : 1 ≤ suc n = omega arith in
      let low : suc (size - 1) ≡ size = omega (arith, pow_pos d, mul-le-mul_left (2 ^ d) one) in
      let half : 2 ^ suc d ≡ 2 ^ d + 2 ^ d = omega (arith, pow-suc 2 d) in
      let e : size + size ≡ 2 ^ suc d * suc n = omega arith ∙ ap (λ i. i * suc n) (sym half) in
      form-same laws (2 ^ suc d * suc n) (2 ^ suc d * suc n) (λ p. inner (plus l p p))
      (λ p. f (times l (2 ^ suc d) p))
      (subst (λ i. HasForm l i i (λ p. inner (plus l p p))) e
      (subst (λ i. HasForm l (i + i) (i + i) (λ p. inner (plus l p p))) low
      (doubled-form (size - 1) inner
      (subst (λ i. HasForm l i i inner) (sym low) (multiple-form d (suc n) f positive s)))))
      (λ p on. ap f (ap (λ i. times l i p) half ∙ sym (times-double laws.ring (2 ^ d) p)))
