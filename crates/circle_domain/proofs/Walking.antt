-- The points of a standard domain as one walk by the generator of as many points.
use Rattle.std.specs.Prelude.{◌≡◌, ◌≢◌, ℕ, ◌+◌, ◌-◌, ◌/◌, ◌%◌, ◌^◌, ◌<◌, ◌≤◌, ◌↔◌, Bool, true}
use Rattle.std.specs.Prelude.{false, [], ◌∷◌, Some, slice_get}
use Rattle.std.proofs.Common.{zero, suc, sym, ◌∙◌, ap, refl, arith, ⊎_elim}
use Rattle.std.proofs.Math.Nat.{mod-eq_of_lt, mod_self}
use Rattle.std.proofs.lemmas.Bool.{cases_eq, cases_lt, false≢true}
use Rattle.std.proofs.lemmas.Option.{slice_get_within}
use Rattle.circle_field.specs.Field.{FieldOps, RingLaws, FieldLaws, IsEmbedding}
use Rattle.circle_field.specs.Ring.{Expr, var, con, unit, plus as sum, times as prod, minus}
use Rattle.circle_field.specs.RingSound.{ring}
use Rattle.circle_field.specs.RingCombine.{given, combine}
use Rattle.circle_field.specs.RingFacts.{neg_unique}
use Rattle.circle_field.specs.Circle.{Coordinates, at, IsOnCircle, AreGenerators, plus, opposite}
use Rattle.circle_field.specs.Circle.{origin, times, lifted}
use Rattle.circle_field.specs.CircleGroup.{plus_comm, plus_assoc, plus-origin, plus-opposite}
use Rattle.circle_field.specs.CircleGroup.{plus-on_circle}
use Rattle.circle_field.proofs.Inverses.{nonzero_product}
use Rattle.circle_point.specs.Basis.{doubled_x, iterated_x}
use Rattle.circle_point.specs.Projective.{to_line, from_line, half_turn}
use Rattle.circle_point.proofs.Multiples.{times-double, times-on_circle, plus-times}
use Rattle.circle_point.proofs.Multiples.{iterated_x-times, origin-plus}
use Rattle.circle_point.proofs.Projections.{from_line-to_line, to_line-nonzero, zero-line_norm}
use Rattle.circle_domain.specs.Order.{natural_order}
use Rattle.circle_domain.specs.Selectors.{IsFinite}
use Rattle.circle_domain.proofs.Blocks.{times-plus, times-origin, times-generator}
use Rattle.circle_domain.proofs.Orders.{natural_from-even, natural_from-odd, length-natural_from}
use Rattle.circle_domain.proofs.Orders.{two_halves}

-- a square is 0 only at 0
pub zero_square : {F : Type 0} {k : FieldOps F} (laws : FieldLaws k) (eq : F → F → Bool) →
    ((a b : F) → (eq a b ≡ true) ↔ (a ≡ b)) →
    (y : F) → k.mul y y ≡ k.zero → y ≡ k.zero
zero_square {k = k} laws eq law y h =
    let go : (b : Bool) → eq y k.zero ≡ b → y ≡ k.zero = elim [
      | true ↦ λ e. (law y k.zero).0 e
      | false ↦ λ e. absurd
          (nonzero_product laws y y (λ z. false≢true (sym e ∙ (law y k.zero).1 z))
          (λ z. false≢true (sym e ∙ (law y k.zero).1 z)) h)
    ] in
    go (eq y k.zero) refl

module _ {F : Type 0} {k : FieldOps F} (laws : FieldLaws k) where
  -- x = -1 at the half turn alone
  pub half_turn-by_x : (eq : F → F → Bool) → ((a b : F) → (eq a b ≡ true) ↔ (a ≡ b)) →
      (p : Coordinates F) → IsOnCircle k p → p.x ≡ k.neg k.one → p ≡ half_turn k
  half_turn-by_x eq law p c e =
      let x : Expr = var 0 in let y : Expr = var 1 in
      let square : k.mul p.y p.y ≡ k.zero =
      combine laws.ring (p.x ∷ p.y ∷ []) (prod y y) (con 0)
      (given unit (sum (prod x x) (prod y y)) unit
      ∷ given (minus (sum x (minus unit))) x (minus unit) ∷ []) refl (c, (e, tt)) in
      let z : p.y ≡ k.zero = zero_square laws eq law p.y square in
      ap (λ v. at v p.y) e ∙ ap (at (k.neg k.one)) z

  -- 1 is not -1
  pub one-not_opposite : k.one ≢ k.neg k.one
  one-not_opposite =
      λ e. laws.two_nonzero
      (ap (λ v. k.add k.one v) e ∙ ring laws.ring (k.one ∷ []) (sum unit (minus unit)) (con 0) refl)

  doubled_x-one : (x : F) → k.mul x x ≡ k.one → doubled_x k x ≡ k.one
  doubled_x-one x h =
      combine laws.ring (x ∷ [])
      (sum (sum (prod (var 0) (var 0)) (prod (var 0) (var 0))) (minus unit)) unit
      (given (sum unit unit) (prod (var 0) (var 0)) unit ∷ []) refl (h, tt)

  iterated_x-one : (n : ℕ) (x : F) → x ≡ k.one → iterated_x k n x ≡ k.one
  iterated_x-one zero x e = e
  iterated_x-one (suc n) x e =
      iterated_x-one n (doubled_x k x)
      (doubled_x-one x (ap (λ v. k.mul v v) e ∙ laws.ring.one_mul k.one))

  -- a point that is the half turn after n doublings is not at infinity
  pub finite_by_doublings : (n : ℕ) (p : Coordinates F) → 1 ≤ n → IsOnCircle k p → times k (2 ^ n) p
      ≡ half_turn k → p.x ≢ k.neg k.one
  finite_by_doublings zero p h c e = absurd (omega arith)
  finite_by_doublings (suc n) p h c e = λ ex.
      let square : k.mul p.x p.x ≡ k.one =
      ap (λ v. k.mul v v) ex ∙ ring laws.ring [] (prod (minus unit) (minus unit)) unit refl in
      one-not_opposite
      (sym (iterated_x-one n (doubled_x k p.x) (doubled_x-one p.x square))
      ∙ iterated_x-times laws.ring (suc n) p c ∙ ap (λ (r : Coordinates F). r.x) e)

module _ {F : Type 0} {k : FieldOps F} (laws : RingLaws k) where
  -- multiples of multiples in either order
  pub times-times : (m i : ℕ) (p : Coordinates F) → times k m (times k i p)
      ≡ times k i (times k m p)
  times-times m zero p = times-origin laws m
  times-times m (suc i) p = times-plus laws m p (times k i p)
      ∙ ap (plus k (times k m p)) (times-times m i p)

  -- -s and 2 s and r
  pub past_opposite : (s r : Coordinates F) → IsOnCircle k s →
      plus k (opposite k s) (plus k (plus k s s) r) ≡ plus k s r
  past_opposite s r c =
      let o = opposite k s in
      sym (plus_assoc laws o (plus k s s) r)
      ∙ ap (λ q. plus k q r)
      (sym (plus_assoc laws o s s)
      ∙ ap (λ q. plus k q s) (plus_comm laws o s ∙ plus-opposite laws s c) ∙ origin-plus laws s)

  module _ {gen : ℕ → Coordinates F} {bits : ℕ} (gens : AreGenerators k bits gen) (n : ℕ)
      (positive : 1 ≤ n) (fits : n < bits) where
    pub shift_twice : plus k (gen (n + 1)) (gen (n + 1)) ≡ gen n
    shift_twice = let e : n + 1 ≡ suc n = omega arith in ap (λ m. plus k (gen m) (gen m)) e
        ∙ gens.doubled n fits

    step_twice : plus k (gen n) (gen n) ≡ gen (n - 1)
    step_twice = let e : suc (n - 1) ≡ n = omega arith in ap (λ m. plus k (gen m) (gen m)) (sym e)
        ∙ gens.doubled (n - 1) (omega arith)

    shift-on_circle : IsOnCircle k (gen (n + 1))
    shift-on_circle = gens.on_circle (n + 1) (omega arith)

    -- point i of the standard domain
    pub standard-point : (i : ℕ) → i < 2 ^ n → slice_get (natural_order k gen n (gen (n + 1))) i
        ≡ Some (plus k (gen (n + 1)) (times k i (gen n)))
    standard-point i lt =
        let s = gen (n + 1) in
        let g = gen (n - 1) in
        let count = 2 ^ (n - 1) in
        let halves = two_halves n positive in
        let j = i / 2 in
        let below : j < count = omega (arith, lt, halves) in
        ⊎_elim
        (λ even.
        let e : i ≡ j + j = omega (arith, even) in
        natural_from-even k count j g s 0 i below e
        ∙ ap (λ q. Some (plus k s q))
        (ap (λ m. times k m g) (let z : 0 + j ≡ j = omega arith in z)
        ∙ ap (times k j) (sym step_twice) ∙ times-double laws j (gen n)
        ∙ ap (λ m. times k m (gen n)) (sym e)))
        (λ not_even.
        let e : i ≡ suc (j + j) = omega (arith, not_even) in
        let twice : suc (0 + j) + suc (0 + j) ≡ suc i = omega (arith, e) in
        natural_from-odd k count j g s 0 i below e
        ∙ ap (λ q. Some (plus k (opposite k s) q))
        (ap (times k (suc (0 + j))) (sym step_twice) ∙ times-double laws (suc (0 + j)) (gen n)
        ∙ ap (λ m. times k m (gen n)) twice
        ∙ ap (λ q. plus k q (times k i (gen n))) (sym shift_twice))
        ∙ ap Some (past_opposite s (times k i (gen n)) shift-on_circle))
        (cases_eq (i % 2) 0)

    whole_turn : times k (2 ^ n) (gen n) ≡ origin k
    whole_turn = let e : n ≡ n + 0 = omega arith in ap (λ m. times k (2 ^ n) (gen m)) e
        ∙ times-generator laws gens n 0 (omega arith) ∙ gens.neutral

    -- n doublings lead to the half turn
    pub standard-doublings : (i : ℕ) → times k (2 ^ n) (plus k (gen (n + 1)) (times k i (gen n)))
        ≡ half_turn k
    standard-doublings i =
        times-plus laws (2 ^ n) (gen (n + 1)) (times k i (gen n))
        ∙ ap (λ q. plus k q (times k (2 ^ n) (times k i (gen n))))
        (times-generator laws gens n 1 (omega arith) ∙ gens.half_turn)
        ∙ ap (plus k (half_turn k)) (times-times (2 ^ n) i (gen n) ∙ ap (times k i) whole_turn
        ∙ times-origin laws i)
        ∙ plus-origin laws (half_turn k)

    standard-point-on_circle : (i : ℕ) → IsOnCircle k (plus k (gen (n + 1)) (times k i (gen n)))
    standard-point-on_circle i =
        plus-on_circle laws (gen (n + 1)) (times k i (gen n)) shift-on_circle
        (times-on_circle laws i (gen n) (gens.on_circle n (omega arith)))

    some_injective : {A : Type 0} (a b : A) → Some a ≡ Some b → a ≡ b
    some_injective a b e = cc

    within : (i : ℕ) (p : Coordinates F) → slice_get (natural_order k gen n (gen (n + 1))) i
        ≡ Some p → i < 2 ^ n
    within i p e =
        omega (
          arith,
          slice_get_within (natural_order k gen n (gen (n + 1))) i p e,
          length-natural_from k (2 ^ (n - 1)) (gen (n - 1)) (gen (n + 1)) 0,
          two_halves n positive,
        )

    pub standard-at : (i : ℕ) (p : Coordinates F) →
        slice_get (natural_order k gen n (gen (n + 1))) i ≡ Some p →
        p ≡ plus k (gen (n + 1)) (times k i (gen n))
    standard-at i p e = some_injective p _ (sym e ∙ standard-point i (within i p e))

    -- each point and its next
    pub standard-next : (i : ℕ) (p q : Coordinates F) →
        slice_get (natural_order k gen n (gen (n + 1))) i ≡ Some p →
        slice_get (natural_order k gen n (gen (n + 1))) ((i + 1) % 2 ^ n) ≡ Some q →
        plus k p (gen n) ≡ q
    standard-next i p q ep eq =
        let s = gen (n + 1) in
        let g = gen n in
        let lt = within i p ep in
        let step : plus k (plus k s (times k i g)) g ≡ plus k s (times k (suc i) g) =
        plus_assoc laws s (times k i g) g ∙ ap (plus k s) (plus-times laws i g) in
        let here = standard-at i p ep in
        let there = standard-at ((i + 1) % 2 ^ n) q eq in
        ap (λ r. plus k r g) here ∙ step
        ∙ ⊎_elim
        (λ small.
        let e : (i + 1) % 2 ^ n ≡ suc i = mod-eq_of_lt small
        ∙ (let o : i + 1 ≡ suc i = omega arith in o) in
        ap (λ m. plus k s (times k m g)) (sym e))
        (λ large.
        let last : suc i ≡ 2 ^ n = omega (arith, lt, large) in
        let e : (i + 1) % 2 ^ n ≡ 0 =
        ap (λ m. m % 2 ^ n) (let o : i + 1 ≡ 2 ^ n = omega (arith, last) in o)
        ∙ mod_self (2 ^ n) in
        ap (λ m. plus k s (times k m g)) last ∙ ap (plus k s) whole_turn
        ∙ ap (λ m. plus k s (times k m g)) (sym e))
        (cases_lt (i + 1) (2 ^ n))
        ∙ sym there

    -- and both on the circle
    pub standard-on_circle : (i : ℕ) (p : Coordinates F) →
        slice_get (natural_order k gen n (gen (n + 1))) i ≡ Some p → IsOnCircle k p
    standard-on_circle i p e = rw (standard-at i p e) (standard-point-on_circle i)

    pub standard-half_turn : (i : ℕ) (p : Coordinates F) →
        slice_get (natural_order k gen n (gen (n + 1))) i ≡ Some p → times k (2 ^ n) p ≡ half_turn k
    standard-half_turn i p e = ap (times k (2 ^ n)) (standard-at i p e) ∙ standard-doublings i

-- no point of a standard domain is at infinity
pub standard-finite : {F : Type 0} {k : FieldOps F} (laws : FieldLaws k) {gen : ℕ → Coordinates F}
    {bits : ℕ} (gens : AreGenerators k bits gen) (n : ℕ) → 1 ≤ n → n < bits →
    (i : ℕ) (p : Coordinates F) → slice_get (natural_order k gen n (gen (n + 1))) i ≡ Some p →
    p.x ≢ k.neg k.one
standard-finite laws gens n h fits i p e =
    finite_by_doublings laws n p h (standard-on_circle laws.ring gens n h fits i p e)
    (standard-half_turn laws.ring gens n h fits i p e)

module _ {F E : Type 0} {k : FieldOps F} {l : FieldOps E} {m : F → E} (e : IsEmbedding k l m) where
  pub lifted-finite : (p : Coordinates F) → p.x ≢ k.neg k.one → (lifted m p).x ≢ l.neg l.one
  lifted-finite p h =
      λ z. h (e.injective p.x (k.neg k.one) (z ∙ sym (e.neg k.one ∙ ap l.neg e.one)))

module _ {F : Type 0} {k : FieldOps F} (laws : FieldLaws k) where
  pub nonzero_next : (x : F) → x ≢ k.neg k.one → k.add x k.one ≢ k.zero
  nonzero_next x h = λ z. h (neg_unique laws.ring k.one x (laws.ring.add_comm k.one x ∙ z))

  -- the coordinate of a point that is not at infinity leads back and is finite
  pub back : (p : Coordinates F) → IsOnCircle k p → p.x ≢ k.neg k.one → from_line k (to_line k p)
      ≡ p
  back p c h = from_line-to_line laws p c (nonzero_next p.x h)

  pub coordinate-finite : (p : Coordinates F) → IsOnCircle k p → p.x ≢ k.neg k.one →
      IsFinite k (to_line k p)
  coordinate-finite p c h =
      λ z. to_line-nonzero laws p c (nonzero_next p.x h) (zero-line_norm laws (to_line k p) z)
