-- A point is clear of a domain exactly where the vanishing polynomial has other values at the point
-- and at the shift.
use Rattle.std.proofs.lemmas.Bool.{false≢true}
use Rattle.std.specs.Prelude.{Bool, true, false, not, ◌≡◌, ◌≢◌, ℕ, ◌-◌, ◌^◌, ◌<◌, ◌≤◌, ◌↔◌, List}
use Rattle.std.specs.Prelude.{[], ◌∷◌, ◌++◌, All, map, max, slice_index_or}
use Rattle.std.specs.List.{AllByRecursion}
use Rattle.std.proofs.Common.{zero, suc, sym, ◌∙◌, ap, subst, refl, arith}
use Rattle.std.proofs.lemmas.List.Elements.{All-from_recursion, recursion_from_All}
use Rattle.circle_field.specs.Field.{FieldOps, RingLaws, FieldLaws, IsEmbedding}
use Rattle.circle_field.specs.Ring.{Expr, var, con, unit, plus as sum, times as prod, minus}
use Rattle.circle_field.specs.RingSound.{ring}
use Rattle.circle_field.specs.RingCombine.{given, combine}
use Rattle.circle_field.specs.RingFacts.{neg_zero_cancel, add_neg, mul_zero, zero_mul}
use Rattle.circle_field.specs.Circle.{Coordinates, IsOnCircle, AreGenerators, plus, opposite}
use Rattle.circle_field.specs.Circle.{lifted}
use Rattle.circle_field.specs.CircleGroup.{lifted-on_circle}
use Rattle.circle_field.proofs.Inverses.{nonzero_product}
use Rattle.circle_point.specs.Basis.{doubled_x, iterated_x, vanishing}
use Rattle.circle_point.proofs.Multiples.{iterated_x-suc}
use Rattle.circle_domain.specs.Clear.{IsClearOf}
use Rattle.circle_domain.specs.Layers.{factor, second_half}
use Rattle.circle_domain.specs.Order.{natural_order, cfft_order}
use Rattle.circle_domain.specs.Ordering.{cfft_index}
use Rattle.circle_domain.proofs.Blocks.{points, points-cfft_order, factor-opposite}
use Rattle.circle_domain.proofs.Blocks.{second_half-on_circle, all-append}
use Rattle.circle_domain.proofs.CosetOrder.{cfft-place, length-cfft_order}
use Rattle.circle_domain.proofs.Reversal.{cfft_index-below, cfft_index-own_inverse}
use Rattle.circle_domain.proofs.PartLists.{length-natural_order}
use Rattle.circle_domain.proofs.Lifted.{lifted-points, lifted-generators, lifted-vanishing}

all-split : {X : Type 0} (P : X → Type 0) (xs ys : List X) → AllByRecursion P (xs ++ ys) →
    AllByRecursion P xs × AllByRecursion P ys
all-split P [] ys h = (tt, h)
all-split P (x ∷ xs) ys h = let rest = all-split P xs ys h.1 in ((h.0, rest.0), rest.1)

module _ {F : Type 0} {k : FieldOps F} (laws : FieldLaws k) where
  -- (q - p).y (q + p).y = x(p)^2 - x(q)^2
  both_sides : (p q : Coordinates F) → IsOnCircle k p → IsOnCircle k q →
      k.mul (plus k q (opposite k p)).y (plus k q (opposite k (opposite k p))).y
      ≡ k.add (k.mul p.x p.x) (k.neg (k.mul q.x q.x))
  both_sides p q hp hq =
      let a : Expr = var 0 in let b : Expr = var 1 in let x : Expr = var 2 in let y : Expr =
      var 3 in
      combine laws.ring (p.x ∷ p.y ∷ q.x ∷ q.y ∷ [])
      (prod (sum (prod x (minus b)) (prod y a)) (sum (prod x (minus (minus b))) (prod y a)))
      (sum (prod a a) (minus (prod x x)))
      (given (minus (prod x x)) (sum (prod a a) (prod b b)) unit
      ∷ given (prod a a) (sum (prod x x) (prod y y)) unit ∷ []) refl (hp, (hq, tt))

  -- equal doubled x mean equal squares
  doubled_same : (a b : F) → k.mul a a ≡ k.mul b b → doubled_x k a ≡ doubled_x k b
  doubled_same a b e = ap (λ s. k.add (k.add s s) (k.neg k.one)) e

  doubled_injective : (a b : F) → doubled_x k a ≡ doubled_x k b → k.mul a a ≢ k.mul b b → ⊥
  doubled_injective a b e h =
      let x : Expr = var 0 in let y : Expr = var 1 in
      nonzero_product laws (k.add k.one k.one) (k.add (k.mul a a) (k.neg (k.mul b b)))
      laws.two_nonzero (λ z. h (neg_zero_cancel laws.ring (k.mul a a) (k.mul b b) z))
      (combine laws.ring (a ∷ b ∷ []) (prod (sum unit unit) (sum (prod x x) (minus (prod y y))))
      (con 0)
      (given unit (sum (sum (prod x x) (prod x x)) (minus unit))
      (sum (sum (prod y y) (prod y y)) (minus unit)) ∷ []) refl (e, tt))

  square_same : (a b : F) → a ≡ b → k.mul a a ≡ k.mul b b
  square_same a b e = ap (λ v. k.mul v v) e

  square_opposite : (a b : F) → a ≡ k.neg b → k.mul a a ≡ k.mul b b
  square_opposite a b e = ap (λ v. k.mul v v) e
      ∙ ring laws.ring (b ∷ []) (prod (minus (var 0)) (minus (var 0))) (prod (var 0) (var 0)) refl

  -- what is neither b nor -b has another square
  other_square : (a b : F) → a ≢ b → a ≢ k.neg b → k.mul a a ≢ k.mul b b
  other_square a b h g = λ e.
      let x : Expr = var 0 in let y : Expr = var 1 in
      nonzero_product laws (k.add a (k.neg b)) (k.add a (k.neg (k.neg b)))
      (λ z. h (neg_zero_cancel laws.ring a b z))
      (λ z. g (neg_zero_cancel laws.ring a (k.neg b) z))
      (combine laws.ring (a ∷ b ∷ []) (prod (sum x (minus y)) (sum x (minus (minus y)))) (con 0)
      (given unit (prod x x) (prod y y) ∷ []) refl (e, tt))

  module _ {gen : ℕ → Coordinates F} {bits : ℕ} (gens : AreGenerators k bits gen)
      (q : Coordinates F) (on_circle : IsOnCircle k q) where
    abbrev IsClear : Coordinates F → Type 0
    IsClear p = (plus k q (opposite k p)).y ≢ k.zero

    abbrev Tells : ℕ → Coordinates F → Type 0
    Tells m p = factor k m q ≢ factor k m p

    clear_pair : (p : Coordinates F) → IsOnCircle k p → IsClear p → IsClear (opposite k p) →
        k.mul p.x p.x ≢ k.mul q.x q.x
    clear_pair p c h g = λ e.
        nonzero_product laws _ _ h g
        (both_sides p q c on_circle ∙ ap (λ v. k.add v (k.neg (k.mul q.x q.x))) e
        ∙ add_neg laws.ring (k.mul q.x q.x))

    pair_clear : (p : Coordinates F) → IsOnCircle k p → k.mul p.x p.x ≢ k.mul q.x q.x →
        IsClear p × IsClear (opposite k p)
    pair_clear p c h = (
      λ z. h (neg_zero_cancel laws.ring (k.mul p.x p.x) (k.mul q.x q.x)
          (sym (both_sides p q c on_circle)
          ∙ ap (λ v. k.mul v (plus k q (opposite k (opposite k p))).y) z
          ∙ zero_mul laws.ring _)),
      λ z. h (neg_zero_cancel laws.ring (k.mul p.x p.x) (k.mul q.x q.x)
          (sym (both_sides p q c on_circle) ∙ ap (λ v. k.mul (plus k q (opposite k p)).y v) z
          ∙ mul_zero laws.ring _)),
    )

    -- one pair of opposite points
    clear-tells-one : (p : Coordinates F) → IsOnCircle k p →
        AllByRecursion IsClear (points k gen 1 p) → Tells 2 p
    clear-tells-one p c h = λ e. doubled_injective q.x p.x e (λ s. clear_pair p c h.0 h.1.0 (sym s))

    tells-clear-one : (p : Coordinates F) → IsOnCircle k p → Tells 2 p →
        AllByRecursion IsClear (points k gen 1 p)
    tells-clear-one p c h = let both = pair_clear p c (λ e. h (doubled_same q.x p.x (sym e))) in
        (both.0, (both.1, tt))

    tells-next : (m : ℕ) (p p' : Coordinates F) → factor k (suc m) p' ≡ k.neg (factor k (suc m) p) →
        Tells (suc m) p → Tells (suc m) p' → Tells (suc (suc m)) p
    tells-next m p p' turned h g = λ e.
        let a = iterated_x k m q.x in
        let b = iterated_x k m p.x in
        doubled_injective a b (sym (iterated_x-suc k m q.x) ∙ e ∙ iterated_x-suc k m p.x)
        (other_square a b h (λ z. g (z ∙ sym turned)))

    next-tells : (m : ℕ) (p p' : Coordinates F) → factor k (suc m) p' ≡ k.neg (factor k (suc m) p) →
        Tells (suc (suc m)) p → Tells (suc m) p × Tells (suc m) p'
    next-tells m p p' turned h =
        let a = iterated_x k m q.x in
        let b = iterated_x k m p.x in
        let up =
        λ (s : k.mul a a ≡ k.mul b b). h (iterated_x-suc k m q.x ∙ doubled_same a b s
        ∙ sym (iterated_x-suc k m p.x)) in
        (λ e. up (square_same a b e), λ e. up (square_opposite a b (e ∙ turned)))

    same_two : (p p' : Coordinates F) → factor k 1 p' ≡ k.neg (factor k 1 p) →
        factor k 2 p' ≡ factor k 2 p
    same_two p p' turned = doubled_same p'.x p.x (square_opposite p'.x p.x turned)

    -- the 2^n points of a block, at least four
    clear-tells : (m : ℕ) (p : Coordinates F) → suc m ≤ bits → IsOnCircle k p →
        AllByRecursion IsClear (points k gen (suc (suc m)) p) → Tells (suc (suc m)) p
    clear-tells zero p fits c h =
        clear-tells-one p c
        (all-split IsClear (points k gen 1 p) (points k gen 1 (second_half k gen 1 p)) h).0
    clear-tells (suc m) p fits c h =
        let n = suc (suc m) in
        let p' = second_half k gen n p in
        let both = all-split IsClear (points k gen n p) (points k gen n p') h in
        tells-next (suc m) p p' (factor-opposite laws.ring gens n p fits c)
        (clear-tells m p (omega arith) c both.0)
        (clear-tells m p' (omega arith) (second_half-on_circle laws.ring gens n p fits c) both.1)

    tells-clear : (m : ℕ) (p : Coordinates F) → suc m ≤ bits → IsOnCircle k p →
        Tells (suc (suc m)) p → AllByRecursion IsClear (points k gen (suc (suc m)) p)
    tells-clear zero p fits c h =
        let p' = second_half k gen 1 p in
        all-append IsClear (points k gen 1 p) (points k gen 1 p')
        (tells-clear-one p c h)
        (tells-clear-one p' (second_half-on_circle laws.ring gens 1 p fits c)
        (λ e. h (e ∙ same_two p p' (factor-opposite laws.ring gens 1 p fits c))))
    tells-clear (suc m) p fits c h =
        let n = suc (suc m) in
        let p' = second_half k gen n p in
        let both = next-tells (suc m) p p' (factor-opposite laws.ring gens n p fits c) h in
        all-append IsClear (points k gen n p) (points k gen n p')
        (tells-clear m p (omega arith) c both.0)
        (tells-clear m p' (omega arith) (second_half-on_circle laws.ring gens n p fits c) both.1)

    -- and any number of points of at least two
    pub block-clear : (n : ℕ) (p : Coordinates F) → 1 ≤ n → n ≤ bits → IsOnCircle k p →
        AllByRecursion IsClear (points k gen n p) ↔
        (vanishing k (max n 2) q ≢ vanishing k (max n 2) p)
    block-clear zero p h fits c = absurd (omega arith)
    block-clear (suc zero) p h fits c = (clear-tells-one p c, tells-clear-one p c)
    block-clear (suc (suc m)) p h fits c =
        let e : max (suc (suc m)) 2 - 1 ≡ suc m = omega arith in (
          λ clear z. clear-tells m p (omega arith) c clear (ap (λ i. iterated_x k i q.x) (sym e) ∙ z
              ∙ ap (λ i. iterated_x k i p.x) e),
          λ tells. tells-clear m p (omega arith) c
              (λ z. tells (ap (λ i. iterated_x k i q.x) e ∙ z
              ∙ ap (λ i. iterated_x k i p.x) (sym e))),
        )

module _ {F : Type 0} {k : FieldOps F} (laws : RingLaws k) {gen : ℕ → Coordinates F} {bits : ℕ}
    (gens : AreGenerators k bits gen) (P : Coordinates F → Type 0) where
  place : (n i : ℕ) (s d : Coordinates F) → 1 ≤ n → n ≤ suc bits → i < 2 ^ n →
      slice_index_or (cfft_order k gen n s) i d
      ≡ slice_index_or (natural_order k gen n s) (cfft_index n i) d
  place n i s d h fits lt =
      let e : suc (n - 1) ≡ n = omega arith in
      cfft-place laws gens (n - 1) i s d (let l : i < 2 ^ suc (n - 1) =
      omega (arith, lt, ap (λ m. 2 ^ m) e) in l) (omega (arith, fits))
      ∙ ap (λ m. slice_index_or (natural_order k gen n s) (cfft_index m i) d) e

  -- what holds of all points holds of them in either order
  pub natural-all : (n : ℕ) (s : Coordinates F) → 1 ≤ n → n ≤ suc bits →
      All P (natural_order k gen n s) ↔ AllByRecursion P (points k gen n s)
  natural-all n s h fits =
      let natural = natural_order k gen n s in
      let there = cfft_order k gen n s in
      let long = length-natural_order k gen n s h in
      let long' = length-cfft_order laws gens n s h in
      let same = points-cfft_order k gen n s h in (
        λ all. subst (AllByRecursion P) (sym same) (recursion_from_All P there (λ i d lt.
            let within : i < 2 ^ n = omega (arith, lt, long') in
            subst P (sym (place n i s d h fits within))
            (all (cfft_index n i) d (omega (arith, cfft_index-below n i, long))))),
        λ rec i d lt.
            let within : i < 2 ^ n = omega (arith, lt, long) in
            let all = All-from_recursion P there (subst (AllByRecursion P) same rec) in
            let j = cfft_index n i in
            let below = cfft_index-below n i in
            subst P
            (place n j s d h fits below
            ∙ ap (λ m. slice_index_or natural m d) (cfft_index-own_inverse n i within))
            (all j d (omega (arith, below, long'))),
      )

recursion-map : {A B : Type 0} (f : A → B) (P : B → Type 0) (xs : List A) →
    AllByRecursion (λ x. P (f x)) xs → AllByRecursion P (map f xs)
recursion-map f P [] h = tt
recursion-map f P (x ∷ xs) h = (h.0, recursion-map f P xs h.1)

recursion-unmap : {A B : Type 0} (f : A → B) (P : B → Type 0) (xs : List A) →
    AllByRecursion P (map f xs) → AllByRecursion (λ x. P (f x)) xs
recursion-unmap f P [] h = tt
recursion-unmap f P (x ∷ xs) h = (h.0, recursion-unmap f P xs h.1)

module _ {F E : Type 0} {k : FieldOps F} {l : FieldOps E} {m : F → E} (laws : FieldLaws k)
    (laws' : FieldLaws l) (embedding : IsEmbedding k l m)
    {gen : ℕ → Coordinates F} {bits : ℕ} (gens : AreGenerators k bits gen) (n : ℕ)
    (positive : 1 ≤ n) (fits : n ≤ bits)
    (s : Coordinates F) (shift-on_circle : IsOnCircle k s) (q : Coordinates E)
    (on_circle : IsOnCircle l q) where
  abbrev lifted_gen : ℕ → Coordinates E
  lifted_gen i = lifted m (gen i)

  abbrev Clear : Coordinates E → Type 0
  Clear p = (plus l q (opposite l p)).y ≢ l.zero

  block : AllByRecursion Clear (points l lifted_gen n (lifted m s)) ↔
      (vanishing l (max n 2) q ≢ vanishing l (max n 2) (lifted m s))
  block = block-clear laws' (lifted-generators embedding gens) q on_circle n (lifted m s) positive
      fits (lifted-on_circle embedding s shift-on_circle)

  in_block : IsClearOf l m (natural_order k gen n s) q ↔ AllByRecursion Clear
      (points l lifted_gen n (lifted m s))
  in_block =
      let orders = natural-all laws.ring gens (λ p. Clear (lifted m p)) n s positive
      (omega (arith, fits)) in
      let same = lifted-points embedding gen n s in (
        λ clear. subst (AllByRecursion Clear) same
            (recursion-map (lifted m) Clear (points k gen n s) (orders.0 clear)),
        λ rec. orders.1
            (recursion-unmap (lifted m) Clear (points k gen n s)
            (subst (AllByRecursion Clear) (sym same) rec)),
      )

  -- a point is clear of a domain exactly where this polynomial of at least two doublings has other
  -- values at the point and at the shift
  pub clear-of : IsClearOf l m (natural_order k gen n s) q ↔
      (vanishing l (max n 2) q ≢ m (vanishing k (max n 2) s))
  clear-of =
      let same = lifted-vanishing embedding (max n 2) s in (
        λ clear e. block.0 (in_block.0 clear) (e ∙ same),
        λ tells. in_block.1 (block.1 (λ e. tells (e ∙ sym same))),
      )

-- `!=` on elements
pub not_same : {F : Type 0} (eq : F → F → Bool) → ((a b : F) → (eq a b ≡ true) ↔ (a ≡ b)) →
    (a b : F) → (not (eq a b) ≡ true) ↔ (a ≡ b → ⊥)
not_same eq law a b =
    let go : (t : Bool) → eq a b ≡ t → (not t ≡ true) ↔ (a ≡ b → ⊥) = elim [
      | true ↦ λ e. (λ h. absurd (false≢true h), λ h. absurd (h ((law a b).0 e)))
      | false ↦ λ e. (λ h same. false≢true (sym e ∙ (law a b).1 same), λ h. refl)
    ] in
    go (eq a b) refl
