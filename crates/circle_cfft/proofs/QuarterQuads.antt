-- Four factors of a layer and the two above them: their products are those two, up to the factor 2
-- and a sign.
use Rattle.std.specs.Prelude.{◌≡◌, ℕ, ◌+◌, ◌-◌, ◌*◌, ◌<◌, ◌≤◌, List, [], ◌∷◌, ◌++◌, length, map}
use Rattle.std.specs.Prelude.{slice_index_or}
use Rattle.std.specs.List.{AllByRecursion}
use Rattle.std.proofs.Common.{zero, suc, sym, ◌∙◌, ap, refl, arith, subst}
use Rattle.std.proofs.lemmas.List.{map-append}
use Rattle.circle_field.specs.Field.{FieldOps, RingLaws, FieldLaws}
use Rattle.circle_field.specs.Circle.{Coordinates, plus, IsOnCircle, AreGenerators}
use Rattle.circle_field.specs.CircleGroup.{plus_comm, plus_assoc, plus-on_circle, doubling}
use Rattle.circle_field.specs.Ring.{Expr, var, con, unit, plus as sum, times as prod, minus}
use Rattle.circle_field.specs.RingCombine.{given, combine}
use Rattle.circle_point.specs.Basis.{doubled_x, iterated_x}
use Rattle.circle_domain.specs.Layers.{factor, second_half, block_starts, layer_factors}
use Rattle.circle_domain.proofs.Blocks.{all-append, second_half-on_circle}
use Rattle.circle_domain.proofs.Layering.{halves, block_starts-halves}
use Rattle.circle_cfft.specs.Twiddles.{twice}
use Rattle.circle_cfft.proofs.QuarterTurns.{with_turns, second_layer-is, quarter-x, quarter-y}

-- the factors of a layer, four at a time, and those of the next, two at a time
abbrev pub Quads : {F : Type 0} → FieldOps F → List F → List F → Type 0
Quads {F = F} k xs ys = (j : ℕ) (d : F) → 4 * j + 3 < length xs →
    (twice k (slice_index_or xs (4 * j) d) (slice_index_or xs (4 * j + 1) d)
    ≡ slice_index_or ys (2 * j + 1) d)
    × (twice k (slice_index_or xs (4 * j + 2) d) (slice_index_or xs (4 * j + 3) d)
    ≡ k.neg (slice_index_or ys (2 * j) d))

module _ {F : Type 0} {k : FieldOps F} (laws : RingLaws k) where
  -- the double of a sum
  double-sum : (p q : Coordinates F) → plus k (plus k p q) (plus k p q)
      ≡ plus k (plus k p p) (plus k q q)
  double-sum p q =
      plus_assoc laws p q (plus k p q)
      ∙ ap (plus k p) (sym (plus_assoc laws q p q) ∙ ap (λ r. plus k r q) (plus_comm laws q p)
      ∙ plus_assoc laws p q q)
      ∙ sym (plus_assoc laws p p (plus k q q))

module _ {F : Type 0} {k : FieldOps F} (laws : FieldLaws k) {gen : ℕ → Coordinates F} {bits : ℕ}
    (gens : AreGenerators k bits gen) where
  -- the first points of blocks are on the circle
  starts-on_circle : (a m : ℕ) (q : Coordinates F) → a + m ≤ suc bits → IsOnCircle k q →
      AllByRecursion (IsOnCircle k) (block_starts k gen a m q)
  starts-on_circle zero m q fits on_circle = (on_circle, tt)
  starts-on_circle (suc a) m q fits on_circle =
      let q' = second_half k gen (a + m) q in
      all-append (IsOnCircle k) (block_starts k gen a m q) (block_starts k gen a m q')
      (starts-on_circle a m q (omega arith) on_circle)
      (starts-on_circle a m q' (omega arith)
      (second_half-on_circle laws.ring gens (a + m) q (omega arith) on_circle))

  -- doubled, they are those of the doubled shift
  doubled-starts : (a m : ℕ) (q : Coordinates F) → a + suc m ≤ bits →
      map (λ p. plus k p p) (block_starts k gen a (suc (suc m)) q)
      ≡ block_starts k gen a (suc m) (plus k q q)
  doubled-starts zero m q fits = refl
  doubled-starts (suc a) m q fits =
      let f = λ (p : Coordinates F). plus k p p in
      let e : a + suc (suc m) ≡ suc (suc (a + m)) = omega arith in
      let i : a + suc m ≡ suc (a + m) = omega arith in
      let g = gen (suc (suc (a + m))) in
      let q' = plus k q g in
      ap
      (λ n. map f (block_starts k gen a (suc (suc m)) q
      ++ block_starts k gen a (suc (suc m)) (second_half k gen n q))) e
      ∙ map-append f (block_starts k gen a (suc (suc m)) q) (block_starts k gen a (suc (suc m)) q')
      ∙ ap (λ xs. xs ++ map f (block_starts k gen a (suc (suc m)) q'))
      (doubled-starts a m q (omega arith))
      ∙ ap (λ ys. block_starts k gen a (suc m) (f q) ++ ys) (doubled-starts a m q' (omega arith))
      ∙ ap (λ r. block_starts k gen a (suc m) (f q) ++ block_starts k gen a (suc m) r)
      (double-sum laws.ring q g ∙ ap (plus k (f q)) (gens.doubled (suc (a + m)) (omega arith)))
      ∙ ap (λ n. block_starts k gen a (suc m) (f q)
      ++ block_starts k gen a (suc m) (second_half k gen n (f q))) (sym i)

  -- a factor at a point is that of the layer before at the double
  doubled-factors : (i : ℕ) (ps : List (Coordinates F)) → AllByRecursion (IsOnCircle k) ps →
      map (factor k (suc (suc i))) ps ≡ map (factor k (suc i)) (map (λ p. plus k p p) ps)
  doubled-factors i [] all = refl
  doubled-factors i (p ∷ ps) all =
      ap (λ x. iterated_x k i x ∷ map (factor k (suc (suc i))) ps)
      (ap (λ q. q.x) (doubling laws.ring p all.0))
      ∙ ap (λ rest. iterated_x k i (plus k p p).x ∷ rest) (doubled-factors i ps all.1)

  -- the layers above the second are those of the domain of half the size from the doubled shift on
  doubled-layer : (i n : ℕ) (s : Coordinates F) → suc i + 1 < n → n ≤ bits → IsOnCircle k s →
      layer_factors k gen n s (suc (suc i)) ≡ layer_factors k gen (n - 1) (plus k s s) (suc i)
  doubled-layer i n s below fits on_circle =
      let a = n - (suc (suc i) + 1) in
      let m : suc (suc i) + 1 ≡ suc (suc (suc i)) = omega arith in
      let r : suc (suc i) ≡ suc i + 1 = omega arith in
      let b : a ≡ n - 1 - (suc i + 1) = omega arith in
      ap (λ j. map (factor k (suc (suc i))) (block_starts k gen a j s)) m
      ∙ doubled-factors i (block_starts k gen a (suc (suc (suc i))) s)
      (starts-on_circle a (suc (suc (suc i))) s (omega arith) on_circle)
      ∙ ap (map (factor k (suc i))) (doubled-starts a (suc i) s (omega arith))
      ∙ ap (λ j. map (factor k (suc i)) (block_starts k gen a j (plus k s s))) r
      ∙ ap (λ j. map (factor k (suc i)) (block_starts k gen j (suc i + 1) (plus k s s))) b

  -- the coordinates of a point, those of the generator of order 8, and the y coordinate of that of
  -- order 4
  abbrev x : Expr
  x = var 0

  abbrev y : Expr
  y = var 1

  abbrev p : Expr
  p = var 2

  abbrev q : Expr
  q = var 3

  abbrev e : Expr
  e = var 4

  -- the x coordinate of an expression's double
  abbrev double_x : Expr → Expr
  double_x a = sum (sum (prod a a) (prod a a)) (minus unit)

  -- x, and that of its quarter turn: for a point, and for this point moved by the generator of
  -- order 8
  first-product : 3 ≤ bits → (c : Coordinates F) → IsOnCircle k c →
      twice k c.x (k.neg (k.mul (gen 2).y c.y)) ≡ doubled_x k (plus k c (gen 3)).x
  first-product fits c on_circle =
      let g = gen 3 in
      let moved : Expr = sum (prod x p) (minus (prod y q)) in
      let turned : Expr = minus (prod e y) in
      combine laws.ring (c.x ∷ c.y ∷ g.x ∷ g.y ∷ (gen 2).y ∷ [])
      (sum (prod x turned) (prod x turned)) (double_x moved)
      (given (sum (prod y y) (minus (prod x x))) (sum (prod p p) (minus (prod q q))) (con 0)
      ∷ given (minus (sum (prod x x) (prod y y))) (sum (prod p p) (prod q q)) unit
      ∷ given (minus unit) (sum (prod x x) (prod y y)) unit
      ∷ given (sum (prod x y) (prod x y)) (sum (prod p q) (prod q p)) e
      ∷ []) refl (
        ap (λ r. r.x) (gens.doubled 2 fits) ∙ quarter-x laws gens (omega arith),
        (gens.on_circle 3 fits, (on_circle, (ap (λ r. r.y) (gens.doubled 2 fits), tt))),
      )

  -- and for the point moved so, by its own x coordinate
  second-product : 3 ≤ bits → (c : Coordinates F) → IsOnCircle k c →
      let r = plus k c (gen 3) in twice k r.x (k.neg (k.mul (gen 2).y r.y))
      ≡ k.neg (doubled_x k c.x)
  second-product fits c on_circle =
      let g = gen 3 in
      let moved_x : Expr = sum (prod x p) (minus (prod y q)) in
      let moved_y : Expr = sum (prod x q) (prod y p) in
      let turned : Expr = minus (prod e moved_y) in
      let less : Expr = sum (prod y y) (minus (prod x x)) in
      combine laws.ring (c.x ∷ c.y ∷ g.x ∷ g.y ∷ (gen 2).y ∷ [])
      (sum (prod moved_x turned) (prod moved_x turned)) (minus (double_x x))
      (given (minus (sum (prod e (prod x y)) (prod e (prod x y))))
      (sum (prod p p) (minus (prod q q))) (con 0)
      ∷ given less (prod e e) unit
      ∷ given unit (sum (prod x x) (prod y y)) unit
      ∷ given (prod e less) (sum (prod p q) (prod q p)) e
      ∷ []) refl (
        ap (λ r. r.x) (gens.doubled 2 fits) ∙ quarter-x laws gens (omega arith),
        (
          quarter-y laws gens (omega arith),
          (on_circle, (ap (λ r. r.y) (gens.doubled 2 fits), tt)),
        ),
      )

  -- the factors of the second layer and of the third, by points of every sixteen
  second-quads : 3 ≤ bits → (cs : List (Coordinates F)) → AllByRecursion (IsOnCircle k) cs →
      Quads k (with_turns k (gen 2).y (halves k gen 3 cs)) (map (factor k 2) (halves k gen 3 cs))
  second-quads fits [] all j d h = absurd (omega arith)
  second-quads fits (c ∷ cs) all zero d h =
      (first-product fits c all.0, second-product fits c all.0)
  second-quads fits (c ∷ cs) all (suc j) d h =
      let rest = with_turns k (gen 2).y (halves k gen 3 cs) in
      let xs = with_turns k (gen 2).y (halves k gen 3 (c ∷ cs)) in
      let ys = map (factor k 2) (halves k gen 3 (c ∷ cs)) in
      let a0 : 4 * suc j ≡ suc (suc (suc (suc (4 * j)))) = omega arith in
      let a1 : 4 * suc j + 1 ≡ suc (suc (suc (suc (4 * j + 1)))) = omega arith in
      let a2 : 4 * suc j + 2 ≡ suc (suc (suc (suc (4 * j + 2)))) = omega arith in
      let a3 : 4 * suc j + 3 ≡ suc (suc (suc (suc (4 * j + 3)))) = omega arith in
      let b0 : 2 * suc j ≡ suc (suc (2 * j)) = omega arith in
      let b1 : 2 * suc j + 1 ≡ suc (suc (2 * j + 1)) = omega arith in
      let later = second-quads fits cs all.1 j d (omega arith) in (
        ap (λ i. twice k (slice_index_or xs i d) (slice_index_or xs (4 * suc j + 1) d)) a0
            ∙ ap (λ i. twice k (slice_index_or rest (4 * j) d) (slice_index_or xs i d)) a1
            ∙ later.0 ∙ ap (λ i. slice_index_or ys i d) (sym b1),
        ap (λ i. twice k (slice_index_or xs i d) (slice_index_or xs (4 * suc j + 3) d)) a2
            ∙ ap (λ i. twice k (slice_index_or rest (4 * j + 2) d) (slice_index_or xs i d)) a3
            ∙ later.1 ∙ ap (λ i. k.neg (slice_index_or ys i d)) (sym b0),
      )

  -- the factors of each layer from the second on, and those of the next
  pub layer-quads : (i n : ℕ) (s : Coordinates F) → suc i + 3 ≤ n → n ≤ bits → IsOnCircle k s →
      Quads k (layer_factors k gen n s (suc i)) (layer_factors k gen n s (suc i + 1))
  layer-quads zero n s some fits on_circle =
      let r = block_starts k gen (n - 4) 4 s in
      let a : n - 3 ≡ suc (n - 4) = omega arith in
      let b : n - (2 + 1) ≡ suc (n - 4) = omega arith in
      let starts : block_starts k gen (n - 3) 3 s ≡ halves k gen 3 r =
      ap (λ j. block_starts k gen j 3 s) a ∙ block_starts-halves k gen (n - 4) 3 s in
      let second : layer_factors k gen n s 1 ≡ with_turns k (gen 2).y (halves k gen 3 r) =
      second_layer-is laws gens (omega arith) n s (omega arith)
      ∙ ap (with_turns k (gen 2).y) starts in
      let third : layer_factors k gen n s 2 ≡ map (factor k 2) (halves k gen 3 r) =
      ap (λ j. map (factor k 2) (block_starts k gen j 3 s)) b
      ∙ ap (map (factor k 2)) (block_starts-halves k gen (n - 4) 3 s) in
      subst (λ xs. Quads k xs (layer_factors k gen n s 2)) (sym second)
      (subst (Quads k (with_turns k (gen 2).y (halves k gen 3 r))) (sym third)
      (second-quads (omega arith) r (starts-on_circle (n - 4) 4 s (omega arith) on_circle)))
  layer-quads (suc i) n s some fits on_circle =
      let t = plus k s s in
      let f : suc (suc i) + 1 ≡ suc (suc (i + 1)) = omega arith in
      let g : suc (i + 1) ≡ suc i + 1 = omega arith in
      let low = doubled-layer i n s (omega arith) fits on_circle in
      let high : layer_factors k gen n s (suc (suc i) + 1) ≡ layer_factors k gen (n - 1) t
      (suc i + 1) =
      ap (layer_factors k gen n s) f ∙ doubled-layer (i + 1) n s (omega arith) fits on_circle
      ∙ ap (layer_factors k gen (n - 1) t) g in
      subst (λ xs. Quads k xs (layer_factors k gen n s (suc (suc i) + 1))) (sym low)
      (subst (Quads k (layer_factors k gen (n - 1) t (suc i))) (sym high)
      (layer-quads i (n - 1) t (omega arith) (omega arith)
      (plus-on_circle laws.ring s s on_circle on_circle)))
