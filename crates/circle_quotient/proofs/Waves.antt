-- Functions on the circle as a(x) + y b(x), by their degree and their two highest coefficients, and
-- what a translation makes of them.
use Rattle.std.specs.Prelude.{◌≡◌, ℕ, [], ◌∷◌}
use Rattle.std.proofs.Common.{zero, suc, sym, ◌∙◌, ap, refl, subst}
use Rattle.circle_field.specs.Field.{FieldOps, RingLaws}
use Rattle.circle_field.specs.Ring.{Expr, var, unit, plus as sum, times as prod, minus}
use Rattle.circle_field.specs.RingSound.{ring}
use Rattle.circle_field.specs.RingCombine.{given, combine}
use Rattle.circle_field.specs.Circle.{Coordinates, IsOnCircle, plus, times}
use Rattle.circle_field.specs.CircleGroup.{plus-on_circle, plus-origin}

module _ {E : Type 0} (l : FieldOps E) where
  -- the value of a + b x + c y
  abbrev pub linear : E → E → E → Coordinates E → E
  linear a b c p = l.add a (l.add (l.mul b p.x) (l.mul c p.y))

  -- the values of a polynomial of degree d + 1, in which x^(d+1) and y x^d have these coefficients
  abbrev pub IsWave : ℕ → (Coordinates E → E) → E → E → Type 0
  IsWave zero f high_x high_y =
      (a : E) × ((p : Coordinates E) → IsOnCircle l p → f p ≡ linear a high_x high_y p)
  IsWave (suc d) f high_x high_y =
      (a : E) × (b : E) × (g : Coordinates E → E) × IsWave d g high_x high_y
      × ((p : Coordinates E) → IsOnCircle l p →
      f p ≡ l.add a (l.add (l.mul b p.y) (l.mul p.x (g p))))

module _ {E : Type 0} {l : FieldOps E} (laws : RingLaws l) where
  pub same : (d : ℕ) (f g : Coordinates E → E) (u v : E) → IsWave l d f u v →
      ((p : Coordinates E) → IsOnCircle l p → g p ≡ f p) → IsWave l d g u v
  same zero f g u v s e = (s.0, λ p on. e p on ∙ s.1 p on)
  same (suc d) f g u v s e = (s.0, s.1, s.2, s.3, λ p on. e p on ∙ s.4 p on)

  pub with_tops : {u v u' v' : E} (d : ℕ) (f : Coordinates E → E) → IsWave l d f u v → u' ≡ u →
      v' ≡ v → IsWave l d f u' v'
  with_tops {u = u} {v' = v'} d f s eu ev =
      subst (λ a. IsWave l d f a v') (sym eu) (subst (λ b. IsWave l d f u b) (sym ev) s)

  -- a number more
  pub raised : (d : ℕ) (f : Coordinates E → E) (u v r : E) → IsWave l d f u v →
      IsWave l d (λ p. l.add (f p) r) u v
  raised zero f u v r s = (
    l.add s.0 r,
    λ p on. ap (λ w. l.add w r) (s.1 p on)
        ∙ ring laws (s.0 ∷ u ∷ v ∷ p.x ∷ p.y ∷ r ∷ [])
        (sum (sum (var 0) (sum (prod (var 1) (var 3)) (prod (var 2) (var 4)))) (var 5))
        (sum (sum (var 0) (var 5)) (sum (prod (var 1) (var 3)) (prod (var 2) (var 4)))) refl,
  )
  raised (suc d) f u v r s = (
    l.add s.0 r,
    s.1,
    s.2,
    s.3,
    λ p on. ap (λ w. l.add w r) (s.4 p on)
        ∙ ring laws (s.0 ∷ s.1 ∷ p.y ∷ l.mul p.x (s.2 p) ∷ r ∷ [])
        (sum (sum (var 0) (sum (prod (var 1) (var 2)) (var 3))) (var 4))
        (sum (sum (var 0) (var 4)) (sum (prod (var 1) (var 2)) (var 3))) refl,
  )

  -- a linear function more
  pub with_linear : (d : ℕ) (f : Coordinates E → E) (u v r s t : E) → IsWave l (suc d) f u v →
      IsWave l (suc d) (λ p. l.add (f p) (linear l r s t p)) u v
  with_linear d f u v r s t w = (
    l.add w.0 r,
    l.add w.1 t,
    (λ p. l.add (w.2 p) s),
    raised d w.2 u v s w.3,
    λ p on. ap (λ z. l.add z (linear l r s t p)) (w.4 p on)
        ∙ ring laws (w.0 ∷ w.1 ∷ p.y ∷ p.x ∷ w.2 p ∷ r ∷ s ∷ t ∷ [])
        (sum (sum (var 0) (sum (prod (var 1) (var 2)) (prod (var 3) (var 4))))
        (sum (var 5) (sum (prod (var 6) (var 3)) (prod (var 7) (var 2)))))
        (sum (sum (var 0) (var 5))
        (sum (prod (sum (var 1) (var 7)) (var 2)) (prod (var 3) (sum (var 4) (var 6))))) refl,
  )

  -- times the x coordinate of the point that is t further on
  pub times_x : (d : ℕ) (f : Coordinates E → E) (u v : E) (t : Coordinates E) → IsWave l d f u v →
      IsWave l (suc d) (λ p. l.mul (plus l p t).x (f p))
      (l.add (l.mul t.x u) (l.mul t.y v)) (l.add (l.mul t.x v) (l.neg (l.mul t.y u)))
  times_x zero f u v t s =
      let x : Expr = var 0 in let y : Expr = var 1 in let tx : Expr = var 2 in
      let ty : Expr = var 3 in let a : Expr = var 4 in let eu : Expr = var 5 in
      let ev : Expr = var 6 in let w : Expr = var 7 in
      let hx : Expr = sum (prod tx eu) (prod ty ev) in
      let hy : Expr = sum (prod tx ev) (minus (prod ty eu)) in (
        l.neg (l.mul t.y v),
        l.neg (l.mul t.y s.0),
        linear l (l.mul t.x s.0) (l.add (l.mul t.x u) (l.mul t.y v))
            (l.add (l.mul t.x v) (l.neg (l.mul t.y u))),
        (l.mul t.x s.0, λ p on. refl),
        λ p on. combine laws (p.x ∷ p.y ∷ t.x ∷ t.y ∷ s.0 ∷ u ∷ v ∷ f p ∷ [])
            (prod (sum (prod x tx) (minus (prod y ty))) w)
            (sum (minus (prod ty ev)) (sum (prod (minus (prod ty a)) y)
            (prod x (sum (prod tx a) (sum (prod hx x) (prod hy y))))))
            (given (sum (prod x tx) (minus (prod y ty))) w (sum a (sum (prod eu x) (prod ev y)))
            ∷ given (minus (prod ty ev)) (sum (prod x x) (prod y y)) unit ∷ []) refl
            (s.1 p on, (on, tt)),
      )
  times_x (suc d) f u v t s =
      let hx = l.add (l.mul t.x u) (l.mul t.y v) in
      let hy = l.add (l.mul t.x v) (l.neg (l.mul t.y u)) in
      let inner = λ (p : Coordinates E). l.mul (plus l p t).x (s.2 p) in
      let more = λ (p : Coordinates E). l.add (inner p)
      (linear l (l.mul s.0 t.x) (l.mul s.1 t.y) (l.mul s.1 t.x) p) in
      let x : Expr = var 0 in let y : Expr = var 1 in let tx : Expr = var 2 in
      let ty : Expr = var 3 in let a : Expr = var 4 in let b : Expr = var 5 in
      let g : Expr = var 6 in let w : Expr = var 7 in
      let step : Expr = sum (prod x tx) (minus (prod y ty)) in (
        l.neg (l.mul s.1 t.y),
        l.neg (l.mul s.0 t.y),
        more,
        with_linear d inner hx hy (l.mul s.0 t.x) (l.mul s.1 t.y) (l.mul s.1 t.x)
            (times_x d s.2 u v t s.3),
        λ p on. combine laws (p.x ∷ p.y ∷ t.x ∷ t.y ∷ s.0 ∷ s.1 ∷ s.2 p ∷ f p ∷ [])
            (prod step w)
            (sum (minus (prod b ty)) (sum (prod (minus (prod a ty)) y)
            (prod x (sum (prod step g)
            (sum (prod a tx) (sum (prod (prod b ty) x) (prod (prod b tx) y)))))))
            (given step w (sum a (sum (prod b y) (prod x g)))
            ∷ given (minus (prod b ty)) (sum (prod x x) (prod y y)) unit ∷ []) refl
            (s.4 p on, (on, tt)),
      )

  -- the two highest coefficients after a translation turn by its multiple
  abbrev pub turned_x : Coordinates E → E → E → E
  turned_x r u v = l.add (l.mul r.x u) (l.mul r.y v)

  abbrev pub turned_y : Coordinates E → E → E → E
  turned_y r u v = l.add (l.mul r.x v) (l.neg (l.mul r.y u))

  pub translated : (d : ℕ) (f : Coordinates E → E) (u v : E) (t : Coordinates E) →
      IsOnCircle l t → IsWave l d f u v →
      IsWave l d (λ p. f (plus l p t)) (turned_x (times l (suc d) t) u v)
      (turned_y (times l (suc d) t) u v)
  translated zero f u v t on_t s = (
    s.0,
    λ p on.
        s.1 (plus l p t) (plus-on_circle laws p t on on_t)
        ∙ ring laws (p.x ∷ p.y ∷ t.x ∷ t.y ∷ s.0 ∷ u ∷ v ∷ [])
        (sum (var 4)
        (sum (prod (var 5) (sum (prod (var 0) (var 2)) (minus (prod (var 1) (var 3)))))
        (prod (var 6) (sum (prod (var 0) (var 3)) (prod (var 1) (var 2))))))
        (sum (var 4)
        (sum (prod (sum (prod (var 2) (var 5)) (prod (var 3) (var 6))) (var 0))
        (prod (sum (prod (var 2) (var 6)) (minus (prod (var 3) (var 5)))) (var 1)))) refl
        ∙ ap (λ (r : Coordinates E). linear l s.0 (turned_x r u v) (turned_y r u v) p)
        (sym (plus-origin laws t)),
  )
  translated (suc d) f u v t on_t s =
      let r = times l (suc d) t in
      let g = λ (p : Coordinates E). s.2 (plus l p t) in
      let inner = λ (p : Coordinates E). l.mul (plus l p t).x (g p) in
      let of_inner = times_x d g (turned_x r u v) (turned_y r u v) t
      (translated d s.2 u v t on_t s.3) in
      let env = r.x ∷ r.y ∷ t.x ∷ t.y ∷ u ∷ v ∷ [] in
      let rx : Expr = var 0 in let ry : Expr = var 1 in let tx : Expr = var 2 in
      let ty : Expr = var 3 in let eu : Expr = var 4 in let ev : Expr = var 5 in
      let ux : Expr = sum (prod rx eu) (prod ry ev) in
      let uy : Expr = sum (prod rx ev) (minus (prod ry eu)) in
      let sx : Expr = sum (prod tx rx) (minus (prod ty ry)) in
      let sy : Expr = sum (prod tx ry) (prod ty rx) in
      with_tops (suc d) (λ p. f (plus l p t))
      (same (suc d) (λ p. l.add (inner p)
      (linear l s.0 (l.mul s.1 t.y) (l.mul s.1 t.x) p)) (λ p. f (plus l p t))
      (turned_x t (turned_x r u v) (turned_y r u v)) (turned_y t (turned_x r u v) (turned_y r u v))
      (with_linear d inner (turned_x t (turned_x r u v) (turned_y r u v))
      (turned_y t (turned_x r u v) (turned_y r u v)) s.0 (l.mul s.1 t.y) (l.mul s.1 t.x) of_inner)
      (λ p on. s.4 (plus l p t) (plus-on_circle laws p t on on_t)
      ∙ ring laws (p.x ∷ p.y ∷ t.x ∷ t.y ∷ s.0 ∷ s.1 ∷ g p ∷ [])
      (sum (var 4) (sum (prod (var 5) (sum (prod (var 0) (var 3)) (prod (var 1) (var 2))))
      (prod (sum (prod (var 0) (var 2)) (minus (prod (var 1) (var 3)))) (var 6))))
      (sum (prod (sum (prod (var 0) (var 2)) (minus (prod (var 1) (var 3)))) (var 6))
      (sum (var 4) (sum (prod (prod (var 5) (var 3)) (var 0))
      (prod (prod (var 5) (var 2)) (var 1))))) refl))
      (ring laws env (sum (prod sx eu) (prod sy ev)) (sum (prod tx ux) (prod ty uy)) refl)
      (ring laws env (sum (prod sx ev) (minus (prod sy eu)))
      (sum (prod tx uy) (minus (prod ty ux))) refl)
