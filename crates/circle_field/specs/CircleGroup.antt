-- The points of the circle are a commutative group.
use Rattle.std.specs.Prelude.{◌≡◌, List, [], ◌∷◌, refl}
use Rattle.std.proofs.Common.{sym, ◌∙◌, ap}
use Rattle.circle_field.specs.Field.{FieldOps, RingLaws, IsEmbedding}
use Rattle.circle_field.specs.Ring.{Expr, var, con, unit, plus as sum, times as prod, minus}
use Rattle.circle_field.specs.RingSound.{ring}
use Rattle.circle_field.specs.RingCombine.{given, combine}
use Rattle.circle_field.specs.Circle.{Coordinates, at, IsOnCircle, plus, opposite, origin, lifted}

-- pairs with equal coordinates are equal
pub same_coordinates : {F : Type 0} {a b c d : F} → a ≡ c → b ≡ d → at a b ≡ at c d
same_coordinates p q = cc

module _ {F : Type 0} {k : FieldOps F} (laws : RingLaws k) where
  -- the sum of two pairs of expressions, by coordinates
  abbrev sum_x : Expr → Expr → Expr → Expr → Expr
  sum_x a b c d = sum (prod a c) (minus (prod b d))

  abbrev sum_y : Expr → Expr → Expr → Expr → Expr
  sum_y a b c d = sum (prod a d) (prod b c)

  abbrev norm_of : Expr → Expr → Expr
  norm_of a b = sum (prod a a) (prod b b)

  pub plus_comm : (p q : Coordinates F) → plus k p q ≡ plus k q p
  plus_comm p q =
      let a : Expr = var 0 in let b : Expr = var 1 in let c : Expr = var 2 in
      let d : Expr = var 3 in
      let env : List F = p.x ∷ p.y ∷ q.x ∷ q.y ∷ [] in
      same_coordinates (ring laws env (sum_x a b c d) (sum_x c d a b) refl)
      (ring laws env (sum_y a b c d) (sum_y c d a b) refl)

  pub plus_assoc : (p q r : Coordinates F) → plus k (plus k p q) r ≡ plus k p (plus k q r)
  plus_assoc p q r =
      let a : Expr = var 0 in let b : Expr = var 1 in let c : Expr = var 2 in
      let d : Expr = var 3 in
      let e : Expr = var 4 in let f : Expr = var 5 in
      let env : List F = p.x ∷ p.y ∷ q.x ∷ q.y ∷ r.x ∷ r.y ∷ [] in
      same_coordinates
      (ring laws env (sum_x (sum_x a b c d) (sum_y a b c d) e f)
      (sum_x a b (sum_x c d e f) (sum_y c d e f)) refl)
      (ring laws env (sum_y (sum_x a b c d) (sum_y a b c d) e f)
      (sum_y a b (sum_x c d e f) (sum_y c d e f)) refl)

  -- a sum of points of the circle is on the circle
  pub plus-on_circle : (p q : Coordinates F) → IsOnCircle k p → IsOnCircle k q →
      IsOnCircle k (plus k p q)
  plus-on_circle p q hp hq =
      let a : Expr = var 0 in let b : Expr = var 1 in let c : Expr = var 2 in
      let d : Expr = var 3 in
      combine laws (p.x ∷ p.y ∷ q.x ∷ q.y ∷ []) (norm_of (sum_x a b c d) (sum_y a b c d)) unit
      (given (norm_of c d) (norm_of a b) unit ∷ given unit (norm_of c d) unit ∷ []) refl
      (hp, (hq, tt))

  -- a point of the circle and its opposite
  pub plus-opposite : (p : Coordinates F) → IsOnCircle k p → plus k p (opposite k p) ≡ origin k
  plus-opposite p h =
      let a : Expr = var 0 in let b : Expr = var 1 in
      let env : List F = p.x ∷ p.y ∷ [] in
      same_coordinates
      (combine laws env (sum_x a b a (minus b)) unit (given unit (norm_of a b) unit ∷ []) refl
      (h, tt))
      (ring laws env (sum_y a b a (minus b)) (con 0) refl)

  pub plus-origin : (p : Coordinates F) → plus k p (origin k) ≡ p
  plus-origin p =
      let a : Expr = var 0 in let b : Expr = var 1 in
      let env : List F = p.x ∷ p.y ∷ [] in
      same_coordinates (ring laws env (sum_x a b unit (con 0)) a refl)
      (ring laws env (sum_y a b unit (con 0)) b refl)

  -- what has the coordinates of a point of the circle is on the circle
  pub same-on_circle : (p : Coordinates F) {q : Coordinates F} → q ≡ p → IsOnCircle k p →
      IsOnCircle k q
  same-on_circle p e h = rw e h

  pub opposite-on_circle : (p : Coordinates F) → IsOnCircle k p → IsOnCircle k (opposite k p)
  opposite-on_circle p h =
      let a : Expr = var 0 in let b : Expr = var 1 in
      combine laws (p.x ∷ p.y ∷ []) (norm_of a (minus b)) unit
      (given unit (norm_of a b) unit ∷ []) refl (h, tt)

  -- the doubling formulas 2 x^2 - 1 and 2 x y
  pub doubling : (p : Coordinates F) → IsOnCircle k p →
      at (k.add (k.add (k.mul p.x p.x) (k.mul p.x p.x)) (k.neg k.one)) (k.mul (k.add p.x p.x) p.y)
      ≡ plus k p p
  doubling p h =
      let a : Expr = var 0 in let b : Expr = var 1 in
      let env : List F = p.x ∷ p.y ∷ [] in
      same_coordinates
      (combine laws env (sum (sum (prod a a) (prod a a)) (minus unit)) (sum_x a b a b)
      (given unit (norm_of a b) unit ∷ []) refl (h, tt))
      (ring laws env (prod (sum a a) b) (sum_y a b a b) refl)

  pub origin-on_circle : IsOnCircle k (origin k)
  origin-on_circle = ring laws [] (norm_of unit (con 0)) unit refl

  -- a difference by coordinates
  pub difference : (p q : Coordinates F) →
      at (k.add (k.mul p.x q.x) (k.mul p.y q.y)) (k.add (k.mul p.y q.x) (k.neg (k.mul p.x q.y)))
      ≡ plus k p (opposite k q)
  difference p q =
      let a : Expr = var 0 in let b : Expr = var 1 in let c : Expr = var 2 in
      let d : Expr = var 3 in
      let env : List F = p.x ∷ p.y ∷ q.x ∷ q.y ∷ [] in
      same_coordinates
      (ring laws env (sum (prod a c) (prod b d)) (sum_x a b c (minus d)) refl)
      (ring laws env (sum (prod b c) (minus (prod a d))) (sum_y a b c (minus d)) refl)

  -- a difference and what was taken off
  pub difference-plus : (p q : Coordinates F) → IsOnCircle k q →
      plus k (plus k p (opposite k q)) q ≡ p
  difference-plus p q h =
      plus_assoc p (opposite k q) q ∙ ap (plus k p) (plus_comm (opposite k q) q ∙ plus-opposite q h)
      ∙ plus-origin p

-- an embedding keeps points on the circle
pub lifted-on_circle : {F E : Type 0} {k : FieldOps F} {l : FieldOps E} {m : F → E} →
    IsEmbedding k l m → (p : Coordinates F) → IsOnCircle k p → IsOnCircle l (lifted m p)
lifted-on_circle {l = l} {m = m} e p h =
    ap (λ v. l.add v (l.mul (m p.y) (m p.y))) (sym (e.mul p.x p.x))
    ∙ ap (l.add (m _)) (sym (e.mul p.y p.y))
    ∙ sym (e.add _ _) ∙ ap m h ∙ e.one
