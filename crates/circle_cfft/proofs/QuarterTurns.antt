-- The first points of a domain in fours: a point, its opposite through the centre, its quarter turn
-- and the opposite of that.
use Rattle.std.specs.Prelude.{◌≡◌, ◌≢◌, ℕ, ◌+◌, ◌-◌, ◌≤◌, List, [], ◌∷◌, ◌++◌, map}
use Rattle.std.specs.List.{AllByRecursion}
use Rattle.std.proofs.Common.{zero, suc, sym, ◌∙◌, ap, refl, arith}
use Rattle.std.proofs.lemmas.List.{map-append}
use Rattle.circle_field.specs.Field.{FieldOps, RingLaws, FieldLaws}
use Rattle.circle_field.specs.Circle.{Coordinates, at, plus, AreGenerators}
use Rattle.circle_field.specs.CircleGroup.{plus_comm, plus_assoc}
use Rattle.circle_field.specs.Ring.{Expr, var, con, unit, plus as sum, times as prod, minus}
use Rattle.circle_field.specs.RingSound.{ring}
use Rattle.circle_field.specs.RingCombine.{given, combine}
use Rattle.circle_field.specs.RingFacts.{neg_neg, neg_zero_cancel}
use Rattle.circle_field.proofs.Inverses.{inverse_unique, nonzero_factor}
use Rattle.circle_domain.specs.Layers.{factor, second_half, block_starts, layer_factors}
use Rattle.circle_domain.proofs.Layering.{halves, block_starts-halves}
use Rattle.circle_cfft.specs.Twiddles.{first_of_second}

module _ {F : Type 0} {k : FieldOps F} (laws : RingLaws k) (gen : ℕ → Coordinates F) where
  -- the first points of blocks that are moved
  block_starts-moved : (a m : ℕ) (s g : Coordinates F) → block_starts k gen a (suc m) (plus k s g)
      ≡ map (λ p. plus k p g) (block_starts k gen a (suc m) s)
  block_starts-moved zero m s g = refl
  block_starts-moved (suc a) m s g =
      let e : a + suc m ≡ suc (a + m) = omega arith in
      let t = gen (suc (a + m)) in
      let own = block_starts k gen a (suc m) in
      let moved = map (λ p. plus k p g) in
      ap (λ xs. xs ++ own (second_half k gen (a + suc m) (plus k s g))) (block_starts-moved a m s g)
      ∙ ap (λ i. moved (own s) ++ own (second_half k gen i (plus k s g))) e
      ∙ ap (λ p. moved (own s) ++ own p) (plus_assoc laws s g t ∙ ap (plus k s) (plus_comm laws g t)
      ∙ sym (plus_assoc laws s t g))
      ∙ ap (λ ys. moved (own s) ++ ys) (block_starts-moved a m (plus k s t) g)
      ∙ sym (map-append (λ p. plus k p g) (own s) (own (plus k s t)))
      ∙ ap (λ i. moved (own s ++ own (second_half k gen i s))) (sym e)

  -- twice as many blocks
  pub block_starts-more : (a m : ℕ) (s : Coordinates F) →
      block_starts k gen (a + 1) (suc m) s ≡ block_starts k gen a (suc m) s
      ++ map (λ p. plus k p (gen (a + suc m))) (block_starts k gen a (suc m) s)
  block_starts-more a m s =
      let n : a + 1 ≡ suc a = omega arith in
      let e : a + suc m ≡ suc (a + m) = omega arith in
      let own = block_starts k gen a (suc m) in
      ap (λ i. block_starts k gen i (suc m) s) n ∙ ap (λ i. own s ++ own (second_half k gen i s)) e
      ∙ ap (λ ys. own s ++ ys) (block_starts-moved a m s (gen (suc (a + m))))
      ∙ ap (λ i. own s ++ map (λ p. plus k p (gen i)) (own s)) (sym e)

-- the x coordinates of points and of their quarter turns
abbrev pub with_turns : {F : Type 0} → FieldOps F → F → List (Coordinates F) → List F
with_turns k e [] = []
with_turns k e (q ∷ qs) = q.x ∷ k.neg (k.mul e q.y) ∷ with_turns k e qs

-- lists that agree in their first four entries and in the rest
same_four : {T : Type 0} {a b c d e f g h : T} {xs ys : List T} → a ≡ e → b ≡ f → c ≡ g → d ≡ h →
    xs ≡ ys → a ∷ b ∷ c ∷ d ∷ xs ≡ e ∷ f ∷ g ∷ h ∷ ys
same_four p q r s t = cc

module _ {F : Type 0} {k : FieldOps F} (laws : FieldLaws k) {gen : ℕ → Coordinates F} {bits : ℕ}
    (gens : AreGenerators k bits gen) (fits : 2 ≤ bits) where
  -- the variables of the identities below
  abbrev a : Expr
  a = var 0

  abbrev b : Expr
  b = var 1

  abbrev h : Expr
  h = var 2

  -- the generator of order 4 has the x coordinate 0
  pub quarter-x : (gen 2).x ≡ k.zero
  quarter-x =
      let g = gen 2 in
      let twice : plus k g g ≡ at (k.neg k.one) k.zero = gens.doubled 1 fits ∙ gens.half_turn in
      let env : List F = g.x ∷ g.y ∷ k.inv (k.add k.one k.one) ∷ [] in
      combine laws.ring env a (con 0)
      (given (prod a h) (sum (prod a a) (minus (prod b b))) (minus unit)
      ∷ given (sum (prod a h) (minus a)) (sum (prod a a) (prod b b)) unit
      ∷ given (prod h b) (sum (prod a b) (prod b a)) (con 0)
      ∷ given (minus (sum (prod a (prod a a)) (prod a (prod b b)))) (prod (sum unit unit) h) unit
      ∷ []) refl (
        ap (λ p. p.x) twice,
        (
          gens.on_circle 2 fits,
          (ap (λ p. p.y) twice, (laws.mul_inv (k.add k.one k.one) laws.two_nonzero, tt)),
        ),
      )

  -- and a y coordinate whose square is 1
  pub quarter-y : k.mul (gen 2).y (gen 2).y ≡ k.one
  quarter-y =
      let g = gen 2 in
      combine laws.ring (g.x ∷ g.y ∷ []) (prod b b) unit
      (given unit (sum (prod a a) (prod b b)) unit ∷ given (minus a) a (con 0) ∷ []) refl
      (gens.on_circle 2 fits, (quarter-x, tt))

  -- it is 1 or -1
  other-turn : (gen 2).y ≢ k.one → (gen 2).y ≡ k.neg k.one
  other-turn ne =
      let e = (gen 2).y in
      let d = k.add e (k.neg k.one) in
      let some : d ≢ k.zero = λ z. ne (neg_zero_cancel laws.ring e k.one z) in
      combine laws.ring (e ∷ k.inv d ∷ []) a (minus unit)
      (given b (prod a a) unit ∷ given (minus (sum a unit)) (prod (sum a (minus unit)) b) unit ∷ [])
      refl
      (quarter-y, (laws.mul_inv d some, tt))

  -- where it is not 1, the product with it is the opposite
  pub right-turn : (v : F) → (gen 2).y ≢ k.one → k.neg v ≡ k.mul (gen 2).y v
  right-turn v ne =
      sym (ap (λ e. k.mul e v) (other-turn ne) ∙ ring laws.ring (v ∷ []) (prod (minus unit) a)
      (minus a) refl)

  -- the opposite through the centre turns the sign of y
  opposite-y : (q : Coordinates F) → (plus k q (gen 1)).y ≡ k.neg q.y
  opposite-y q =
      ap (λ g. (plus k q g).y) gens.half_turn
      ∙ ring laws.ring (q.x ∷ q.y ∷ []) (sum (prod a (con 0)) (prod b (minus unit))) (minus b) refl

  -- the coordinates of the quarter turn
  turned-x : (q : Coordinates F) → (plus k q (gen 2)).x ≡ k.neg (k.mul (gen 2).y q.y)
  turned-x q =
      combine laws.ring (q.x ∷ q.y ∷ (gen 2).x ∷ (gen 2).y ∷ [])
      (sum (prod a h) (minus (prod b (var 3)))) (minus (prod (var 3) b))
      (given a h (con 0) ∷ []) refl (quarter-x, tt)

  turned-y : (q : Coordinates F) → (plus k q (gen 2)).y ≡ k.mul (gen 2).y q.x
  turned-y q =
      combine laws.ring (q.x ∷ q.y ∷ (gen 2).x ∷ (gen 2).y ∷ [])
      (sum (prod a (var 3)) (prod b h)) (prod (var 3) a)
      (given b h (con 0) ∷ []) refl (quarter-x, tt)

  -- y again, from the x coordinate of the quarter turn
  own-y : (y : F) → k.mul (gen 2).y (k.neg (k.mul (gen 2).y y)) ≡ k.neg y
  own-y y =
      combine laws.ring (y ∷ (gen 2).y ∷ []) (prod b (minus (prod b a))) (minus a)
      (given (minus a) (prod b b) unit ∷ []) refl (quarter-y, tt)

  -- they are those of the halves of blocks of eight points
  with_turns-halves : (qs : List (Coordinates F)) → map (λ p. p.x) (halves k gen 2 qs)
      ≡ with_turns k (gen 2).y qs
  with_turns-halves [] = refl
  with_turns-halves (q ∷ qs) =
      ap (λ z. q.x ∷ z ∷ map (λ p. p.x) (halves k gen 2 qs)) (turned-x q)
      ∙ ap (λ rest. q.x ∷ k.neg (k.mul (gen 2).y q.y) ∷ rest) (with_turns-halves qs)

  -- the first points of the pairs of opposite points have the y coordinates that the second layer
  -- has
  four-y : (qs : List (Coordinates F)) → map (λ p. p.y) (halves k gen 1 (halves k gen 2 qs))
      ≡ first_of_second k (gen 2).y (with_turns k (gen 2).y qs)
  four-y [] = refl
  four-y (q ∷ qs) =
      let r = plus k q (gen 2) in
      same_four (sym (ap k.neg (own-y q.y) ∙ neg_neg laws.ring q.y))
      (opposite-y q ∙ sym (own-y q.y)) (turned-y q) (opposite-y r ∙ ap k.neg (turned-y q))
      (four-y qs)

  -- the second layer, of every fourth first point
  pub second_layer-is : (n : ℕ) (s : Coordinates F) → 3 ≤ n → layer_factors k gen n s 1
      ≡ with_turns k (gen 2).y (block_starts k gen (n - 3) 3 s)
  second_layer-is n s some =
      let e : n - (1 + 1) ≡ suc (n - 3) = omega arith in
      ap (λ i. map (factor k 1) (block_starts k gen i 2 s)) e
      ∙ ap (map (factor k 1)) (block_starts-halves k gen (n - 3) 2 s)
      ∙ with_turns-halves (block_starts k gen (n - 3) 3 s)

  -- the first layer, of the second
  pub first_layer-is : (n : ℕ) (s : Coordinates F) → 3 ≤ n → layer_factors k gen n s 0
      ≡ first_of_second k (gen 2).y (layer_factors k gen n s 1)
  first_layer-is n s some =
      let e : n - (0 + 1) ≡ suc (suc (n - 3)) = omega arith in
      ap (λ i. map (factor k 0) (block_starts k gen i 1 s)) e
      ∙ ap (map (factor k 0)) (block_starts-halves k gen (suc (n - 3)) 1 s
      ∙ ap (halves k gen 1) (block_starts-halves k gen (n - 3) 2 s))
      ∙ four-y (block_starts k gen (n - 3) 3 s)
      ∙ ap (first_of_second k (gen 2).y) (sym (second_layer-is n s some))

  -- the inverse of what differs by the sign e from an element
  inverse_is : (x y : F) → k.mul y x ≡ k.one → y ≡ k.inv x
  inverse_is x y one = inverse_unique laws x y (nonzero_factor laws x y one) one

  turned-inverse : (z : F) → z ≢ k.zero → k.mul (gen 2).y (k.inv z) ≡ k.inv (k.mul (gen 2).y z)
  turned-inverse z some =
      inverse_is (k.mul (gen 2).y z) (k.mul (gen 2).y (k.inv z))
      (combine laws.ring (z ∷ (gen 2).y ∷ k.inv z ∷ []) (prod (prod b h) (prod b a)) unit
      (given (prod a h) (prod b b) unit ∷ given unit (prod a h) unit ∷ []) refl
      (quarter-y, (laws.mul_inv z some, tt)))

  -- and of its opposite
  opposite-inverse : (z : F) → z ≢ k.zero → k.neg (k.mul (gen 2).y (k.inv z))
      ≡ k.inv (k.neg (k.mul (gen 2).y z))
  opposite-inverse z some =
      inverse_is (k.neg (k.mul (gen 2).y z)) (k.neg (k.mul (gen 2).y (k.inv z)))
      (combine laws.ring (z ∷ (gen 2).y ∷ k.inv z ∷ []) (prod (minus (prod b h)) (minus (prod b a)))
      unit
      (given (prod a h) (prod b b) unit ∷ given unit (prod a h) unit ∷ []) refl
      (quarter-y, (laws.mul_inv z some, tt)))

  -- the inverses of the first layer, of those of the second
  pub first_layer-inverses : (xs : List F) → AllByRecursion (λ t. t ≢ k.zero) xs →
      first_of_second k (gen 2).y (map k.inv xs) ≡ map k.inv (first_of_second k (gen 2).y xs)
  first_layer-inverses [] some = refl
  first_layer-inverses (x ∷ []) some = refl
  first_layer-inverses (x ∷ z ∷ rest) some =
      same_four (opposite-inverse z some.1.0) (turned-inverse z some.1.0) (turned-inverse x some.0)
      (opposite-inverse x some.0) (first_layer-inverses rest some.1.1)
