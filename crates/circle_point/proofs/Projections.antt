-- The two projective maps undo each other.
use Rattle.std.specs.Prelude.{◌≡◌, ◌≢◌, List, [], ◌∷◌, refl}
use Rattle.std.proofs.Common.{sym, ◌∙◌, ap}
use Rattle.circle_field.specs.Field.{FieldOps, FieldLaws}
use Rattle.circle_field.specs.Circle.{Coordinates, IsOnCircle}
use Rattle.circle_field.specs.CircleGroup.{same_coordinates}
use Rattle.circle_field.specs.Ring.{Expr, var, con, unit, plus as sum, times as prod, minus}
use Rattle.circle_field.specs.RingSound.{ring}
use Rattle.circle_field.specs.RingCombine.{given, combine}
use Rattle.circle_field.specs.RingFacts.{neg_unique, add_neg, mul_one}
use Rattle.circle_point.specs.Projective.{line_norm, from_line, to_line}

module _ {F : Type 0} {k : FieldOps F} (laws : FieldLaws k) where
  -- a quotient, from its product with the divisor
  pub quotient : (x d n : F) → d ≢ k.zero → k.mul x d ≡ n → x ≡ k.mul n (k.inv d)
  quotient x d n h e =
      sym (mul_one laws.ring x) ∙ ap (k.mul x) (sym (laws.mul_inv d h))
      ∙ sym (laws.ring.mul_assoc x d (k.inv d)) ∙ ap (λ v. k.mul v (k.inv d)) e

  -- 1 + t^2 is 0 where t^2 is -1
  pub line_norm-zero : (t : F) → line_norm k t ≡ k.zero → k.mul t t ≡ k.neg k.one
  line_norm-zero t h = neg_unique laws.ring k.one (k.mul t t) h

  pub zero-line_norm : (t : F) → k.mul t t ≡ k.neg k.one → line_norm k t ≡ k.zero
  zero-line_norm t h = ap (k.add k.one) h ∙ add_neg laws.ring k.one

  pub from_line-on_circle : (t : F) → line_norm k t ≢ k.zero → IsOnCircle k (from_line k t)
  from_line-on_circle t h =
      let t_ : Expr = var 0 in let i : Expr = var 1 in
      let s : Expr = sum unit (prod t_ t_) in
      let x : Expr = prod (sum unit (minus (prod t_ t_))) i in
      let y : Expr = prod (sum t_ t_) i in
      combine laws.ring (t ∷ k.inv (line_norm k t) ∷ []) (sum (prod x x) (prod y y)) unit
      (given (sum (prod s i) unit) (prod s i) unit ∷ []) refl (laws.mul_inv (line_norm k t) h, tt)

  two_inverse_nonzero : (s i : F) → k.mul s i ≡ k.one → k.add i i ≢ k.zero
  two_inverse_nonzero s i e = λ z.
      laws.two_nonzero
      (combine laws.ring (s ∷ i ∷ []) (sum unit unit) (con 0)
      (given (minus (sum unit unit)) (prod (var 0) (var 1)) unit
      ∷ given (var 0) (sum (var 1) (var 1)) (con 0) ∷ []) refl (e, (z, tt)))

  -- x + 1 at the point of t is 2 / (1 + t^2)
  from_line-next : (t : F) → line_norm k t ≢ k.zero → k.add (from_line k t).x k.one
      ≡ k.add (k.inv (line_norm k t)) (k.inv (line_norm k t))
  from_line-next t h =
      let t_ : Expr = var 0 in let i : Expr = var 1 in
      let s : Expr = sum unit (prod t_ t_) in
      combine laws.ring (t ∷ k.inv (line_norm k t) ∷ [])
      (sum (prod (sum unit (minus (prod t_ t_))) i) unit) (sum i i)
      (given (minus unit) (prod s i) unit ∷ []) refl (laws.mul_inv (line_norm k t) h, tt)

  pub from_line-nonzero : (t : F) → line_norm k t ≢ k.zero → k.add (from_line k t).x k.one ≢ k.zero
  from_line-nonzero t h = λ z. two_inverse_nonzero (line_norm k t) (k.inv (line_norm k t))
      (laws.mul_inv (line_norm k t) h) (sym (from_line-next t h) ∙ z)

  pub to_line-from_line : (t : F) → line_norm k t ≢ k.zero → to_line k (from_line k t) ≡ t
  to_line-from_line t h =
      let i = k.inv (line_norm k t) in
      sym (quotient t (k.add (from_line k t).x k.one) (from_line k t).y (from_line-nonzero t h)
      (ap (k.mul t) (from_line-next t h)
      ∙ ring laws.ring (t ∷ i ∷ []) (prod (var 0) (sum (var 1) (var 1)))
      (prod (sum (var 0) (var 0)) (var 1)) refl))

  -- with j the inverse of x + 1: 1 + t^2 = 2 j
  module _ (p : Coordinates F) (on_circle : IsOnCircle k p) (h : k.add p.x k.one ≢ k.zero) where
    to_line-norm : line_norm k (to_line k p)
        ≡ k.add (k.inv (k.add p.x k.one)) (k.inv (k.add p.x k.one))
    to_line-norm =
        let x : Expr = var 0 in let y : Expr = var 1 in let j : Expr = var 2 in
        combine laws.ring (p.x ∷ p.y ∷ k.inv (k.add p.x k.one) ∷ [])
        (sum unit (prod (prod y j) (prod y j))) (sum j j)
        (given (prod j j) (sum (prod x x) (prod y y)) unit
        ∷ given (sum (sum j (minus (prod x j))) (minus unit)) (prod (sum x unit) j) unit ∷ []) refl
        (on_circle, (laws.mul_inv (k.add p.x k.one) h, tt))

    pub to_line-nonzero : line_norm k (to_line k p) ≢ k.zero
    to_line-nonzero = λ z. two_inverse_nonzero (k.add p.x k.one) (k.inv (k.add p.x k.one))
        (laws.mul_inv (k.add p.x k.one) h) (sym to_line-norm ∙ z)

    pub from_line-to_line : from_line k (to_line k p) ≡ p
    from_line-to_line =
        let x : Expr = var 0 in let y : Expr = var 1 in let j : Expr = var 2 in
        let env : List F = p.x ∷ p.y ∷ k.inv (k.add p.x k.one) ∷ [] in
        let given_inverse = laws.mul_inv (k.add p.x k.one) h in
        same_coordinates
        (sym (quotient p.x (line_norm k (to_line k p)) _ to_line-nonzero
        (ap (k.mul p.x) to_line-norm
        ∙ combine laws.ring env (prod x (sum j j)) (sum unit (minus (prod (prod y j) (prod y j))))
        (given (prod j j) (sum (prod x x) (prod y y)) unit
        ∷ given (sum unit (sum j (minus (prod x j)))) (prod (sum x unit) j) unit ∷ []) refl
        (on_circle, (given_inverse, tt)))))
        (sym (quotient p.y (line_norm k (to_line k p)) _ to_line-nonzero
        (ap (k.mul p.y) to_line-norm
        ∙ ring laws.ring env (prod y (sum j j)) (sum (prod y j) (prod y j)) refl)))
