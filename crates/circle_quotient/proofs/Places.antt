-- The points of a standard domain by their places: what holds of each in natural order holds of
-- each
-- in the transform's, and where doublings lead.
use Rattle.std.specs.Prelude.{◌≡◌, ℕ, ◌+◌, ◌-◌, ◌*◌, ◌/◌, ◌%◌, ◌^◌, ◌<◌, ◌≤◌, List, [], ◌∷◌}
use Rattle.std.specs.Prelude.{length, slice_index_or, Some}
use Rattle.std.specs.List.{AllByRecursion}
use Rattle.std.proofs.Common.{zero, suc, sym, ◌∙◌, ap, refl, subst, arith}
use Rattle.std.proofs.lemmas.Nat.{pow_pos}
use Rattle.std.proofs.lemmas.Option.{get_or_from_slice_get}
use Rattle.circle_field.specs.Field.{FieldOps, FieldLaws, sub}
use Rattle.circle_field.specs.Ring.{var, con, unit, plus as sum, times as prod, minus}
use Rattle.circle_field.specs.RingCombine.{given, combine}
use Rattle.circle_field.specs.Circle.{Coordinates, IsOnCircle, AreGenerators, opposite, plus}
use Rattle.circle_field.specs.Circle.{origin, times}
use Rattle.circle_field.specs.CircleGroup.{plus_assoc, plus_comm, plus-origin, plus-opposite}
use Rattle.circle_field.specs.CircleGroup.{plus-on_circle, same_coordinates}
use Rattle.circle_field.proofs.Inverses.{nonzero_product}
use Rattle.circle_point.proofs.Multiples.{times-+, times-on_circle, origin-plus}
use Rattle.circle_domain.specs.Order.{cfft_order, natural_order, with_opposites}
use Rattle.circle_domain.specs.Ordering.{cfft_index}
use Rattle.circle_domain.proofs.Blocks.{times-generator-past}
use Rattle.circle_domain.proofs.CosetOrder.{cfft-place, length-cfft_order}
use Rattle.circle_domain.proofs.Parts.{distinct}
use Rattle.circle_domain.proofs.Reversal.{cfft_index-below}
use Rattle.circle_domain.proofs.Walking.{standard-point, shift_twice}

pub some_injective : {A : Type 0} (a b : A) → Some a ≡ Some b → a ≡ b
some_injective a b e = cc

pub all-places : {X : Type 0} (P : X → Type 0) (xs : List X) (d : X) →
    ((i : ℕ) → i < length xs → P (slice_index_or xs i d)) → AllByRecursion P xs
all-places P [] d each = tt
all-places P (x ∷ xs) d each =
    (each 0 (omega arith), all-places P xs d (λ i lt. each (suc i) (omega arith)))

-- from both points of each pair
pub all-pairs : {F : Type 0} (k : FieldOps F) (P Q : Coordinates F → Type 0)
    (ps : List (Coordinates F)) → ((p : Coordinates F) → P p → P (opposite k p) → Q p) →
    AllByRecursion P (with_opposites k ps) → AllByRecursion Q ps
all-pairs k P Q [] f all = tt
all-pairs k P Q (p ∷ ps) f all = (f p all.0 all.1.0, all-pairs k P Q ps f all.1.1)

module _ {F : Type 0} {k : FieldOps F} (laws : FieldLaws k) {gen : ℕ → Coordinates F} {bits : ℕ}
    (gens : AreGenerators k bits gen) (n : ℕ) (positive : 1 ≤ n) (fits : n < bits) where
  -- the point at a place of the standard domain of 2^n points
  abbrev pub point : ℕ → Coordinates F
  point i = plus k (gen (n + 1)) (times k i (gen n))

  shift-on : IsOnCircle k (gen (n + 1))
  shift-on = gens.on_circle (n + 1) (omega (arith, fits))

  pub point-on : (i : ℕ) → IsOnCircle k (point i)
  point-on i =
      plus-on_circle laws.ring (gen (n + 1)) (times k i (gen n)) shift-on
      (times-on_circle laws.ring i (gen n) (gens.on_circle n (omega (arith, fits))))

  -- what holds at each place holds of each point in the transform's order
  pub everywhere : (P : Coordinates F → Type 0) → ((i : ℕ) → i < 2 ^ n → P (point i)) →
      AllByRecursion P (cfft_order k gen n (gen (n + 1)))
  everywhere P each =
      let points = cfft_order k gen n (gen (n + 1)) in
      let count = length-cfft_order laws.ring gens n (gen (n + 1)) positive in
      let e : suc (n - 1) ≡ n = omega (arith, positive) in
      all-places P points (origin k)
      (λ i lt.
      let below : i < 2 ^ n = omega (arith, lt, count) in
      let j = cfft_index n i in
      let j_below : j < 2 ^ n = cfft_index-below n i in
      let here : slice_index_or points i (origin k) ≡ point j =
      cfft-place laws.ring gens (n - 1) i (gen (n + 1)) (origin k)
      (subst (λ m. i < 2 ^ m) (sym e) below) (omega (arith, fits))
      ∙ ap (λ m. slice_index_or (natural_order k gen n (gen (n + 1))) (cfft_index m i) (origin k)) e
      ∙ get_or_from_slice_get (natural_order k gen n (gen (n + 1))) j (point j) (origin k)
      (standard-point laws.ring gens n positive fits j j_below) in
      subst P (sym here) (each j j_below))

  whole-turn : times k (2 ^ n) (gen n) ≡ origin k
  whole-turn = times-generator-past laws.ring gens n n (omega arith) (omega (arith, fits))

  -- i + 2^n steps are i
  point-around : (i : ℕ) → point (i + 2 ^ n) ≡ point i
  point-around i =
      ap (plus k (gen (n + 1)))
      (times-+ laws.ring i (2 ^ n) (gen n) ∙ ap (plus k (times k i (gen n))) whole-turn
      ∙ plus-origin laws.ring (times k i (gen n)))

  point-turns : (turns i : ℕ) → point (turns * 2 ^ n + i) ≡ point i
  point-turns zero i = ap point (omega arith)
  point-turns (suc turns) i =
      ap point (let e : suc turns * 2 ^ n + i ≡ (turns * 2 ^ n + i) + 2 ^ n = omega arith in e)
      ∙ point-around (turns * 2 ^ n + i) ∙ point-turns turns i

  pub point-mod : (i : ℕ) → point (i % 2 ^ n) ≡ point i
  point-mod i =
      let whole = pow_pos n in
      let e : i / 2 ^ n * 2 ^ n + i % 2 ^ n ≡ i = omega (arith, whole) in
      sym (point-turns (i / 2 ^ n) (i % 2 ^ n)) ∙ ap point e

  -- the points at the ends of the order are opposite, from both ends on
  pub point-opposite : (i r : ℕ) → i + r + 1 ≡ 2 ^ n → point r ≡ opposite k (point i)
  point-opposite i r e =
      let s = gen (n + 1) in
      let g = gen n in
      let p = point i in
      let q = point r in
      let a = times k i g in
      let b = times k r g in
      let count : i + r + 1 ≡ 2 ^ n = e in
      let joined : plus k p q ≡ origin k =
      plus_assoc laws.ring s a (plus k s b)
      ∙ ap (plus k s) (sym (plus_assoc laws.ring a s b)
      ∙ ap (λ t. plus k t b) (plus_comm laws.ring a s) ∙ plus_assoc laws.ring s a b)
      ∙ sym (plus_assoc laws.ring s s (plus k a b))
      ∙ ap (λ t. plus k t (plus k a b)) (shift_twice laws.ring gens n positive fits)
      ∙ ap (plus k g) (sym (times-+ laws.ring i r g))
      ∙ (let one : 1 + (i + r) ≡ 2 ^ n = omega (arith, count) in
      let next : suc (i + r) ≡ 2 ^ n = omega (arith, count) in
      ap (λ m. times k m g) next) ∙ whole-turn in
      let o = opposite k p in
      sym (origin-plus laws.ring q)
      ∙ ap (λ t. plus k t q) (sym (plus-opposite laws.ring p (point-on i))
      ∙ plus_comm laws.ring p o)
      ∙ plus_assoc laws.ring o p q ∙ ap (plus k o) joined ∙ plus-origin laws.ring o

  -- the first half of the points have different x coordinates
  pub x-distinct : (i r : ℕ) → i < r → i + r + 1 < 2 ^ n → (point i).x ≡ (point r).x → ⊥
  x-distinct i r lt within e =
      let p = point i in
      let q = point r in
      let below : r < 2 ^ n = omega (arith, within) in
      let s = 2 ^ n - 1 - r in
      let other : s < 2 ^ n = omega (arith, below) in
      let env = p.x ∷ p.y ∷ q.x ∷ q.y ∷ [] in
      nonzero_product laws (sub k p.y q.y) (k.add p.y q.y)
      (λ same.
      let equal : p ≡ q = same_coordinates e (combine laws.ring env (var 1) (var 3)
      (given unit (sum (var 1) (minus (var 3))) (con 0) ∷ []) refl (same, tt)) in
      let none : i ≡ r =
      distinct laws gens n i r (gen (n + 1)) shift-on (omega (arith, fits))
      (omega (arith, lt, below))
      below equal in
      omega (arith, none, lt))
      (λ same.
      let turned : p ≡ opposite k q = same_coordinates e (combine laws.ring env (var 1)
      (minus (var 3)) (given unit (sum (var 1) (var 3)) (con 0) ∷ []) refl (same, tt)) in
      let none : i ≡ s =
      distinct laws gens n i s (gen (n + 1)) shift-on (omega (arith, fits))
      (omega (arith, lt, below))
      other (turned ∙ sym (point-opposite r s (omega (arith, below)))) in
      omega (arith, none, lt, within))
      (combine laws.ring env (prod (sum (var 1) (minus (var 3))) (sum (var 1) (var 3))) (con 0)
      (given unit (sum (prod (var 0) (var 0)) (prod (var 1) (var 1))) unit
      ∷ given (minus unit) (sum (prod (var 2) (var 2)) (prod (var 3) (var 3))) unit
      ∷ given (minus (sum (var 0) (var 2))) (var 0) (var 2) ∷ []) refl
      (point-on i, (point-on r, (e, tt))))
