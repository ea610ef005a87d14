-- The points of a domain, doubled some times, are those of a smaller domain over and over.
use Rattle.std.specs.Prelude.{◌≡◌, ℕ, ◌+◌, ◌-◌, ◌*◌, ◌/◌, ◌%◌, ◌^◌, ◌<◌, ◌≤◌, Some, slice_get}
use Rattle.std.proofs.Common.{[], zero, suc, sym, ◌∙◌, ap, subst, refl, arith, ⊎_elim}
use Rattle.std.proofs.Math.Nat.{mod-add-div', add-mul-mod_self_right, mod-eq_of_lt, mod-lt}
use Rattle.std.proofs.lemmas.Nat.{pow_pos}
use Rattle.std.proofs.lemmas.Bool.{cases_eq}
use Rattle.std.proofs.lemmas.Option.{slice_get_within}
use Rattle.circle_field.specs.Field.{FieldOps, RingLaws}
use Rattle.circle_field.specs.Circle.{Coordinates, AreGenerators, IsOnCircle, plus, opposite}
use Rattle.circle_field.specs.Circle.{origin, times}
use Rattle.circle_field.specs.CircleGroup.{plus-origin, plus-on_circle, opposite-on_circle}
use Rattle.circle_field.specs.CircleGroup.{same_coordinates}
use Rattle.circle_field.specs.Ring.{con, minus}
use Rattle.circle_field.specs.RingSound.{ring}
use Rattle.circle_point.proofs.Multiples.{times-+, times-on_circle}
use Rattle.circle_domain.specs.Order.{natural_order, natural_from}
use Rattle.circle_domain.proofs.Blocks.{times-plus, times-generator}
use Rattle.circle_domain.proofs.CosetOrder.{opposite-plus}
use Rattle.circle_domain.proofs.Orders.{two_halves, natural_from-even, natural_from-odd}
use Rattle.circle_domain.proofs.PartLists.{length-natural_order}
use Rattle.circle_domain.proofs.Walking.{times-times}

-- the remainder of twice a number
twice-mod : (j b : ℕ) → 1 ≤ b → (j + j) % (b + b) ≡ j % b + j % b
twice-mod j b h =
    let u = j % b in
    let low : u < b = mod-lt j h in
    let split : j + j ≡ u + u + j / b * (b + b) =
    (let e : u + j / b * b ≡ j = mod-add-div' j b in omega (arith, e)) in
    ap (λ n. n % (b + b)) split ∙ add-mul-mod_self_right (u + u) (j / b) (b + b)
    ∙ mod-eq_of_lt (let lt : u + u < b + b = omega (arith, low) in lt)

-- and of the number after it
odd-mod : (j b : ℕ) → 1 ≤ b → suc (j + j) % (b + b) ≡ suc (j % b + j % b)
odd-mod j b h =
    let u = j % b in
    let low : u < b = mod-lt j h in
    let split : suc (j + j) ≡ suc (u + u) + j / b * (b + b) =
    (let e : u + j / b * b ≡ j = mod-add-div' j b in omega (arith, e)) in
    ap (λ n. n % (b + b)) split ∙ add-mul-mod_self_right (suc (u + u)) (j / b) (b + b)
    ∙ mod-eq_of_lt (let lt : suc (u + u) < b + b = omega (arith, low) in lt)

module _ {F : Type 0} {k : FieldOps F} (laws : RingLaws k) {gen : ℕ → Coordinates F} {bits : ℕ}
    (gens : AreGenerators k bits gen) where
  -- 2^a times the generator of 2^a points
  whole_turn : (a : ℕ) → a ≤ bits → times k (2 ^ a) (gen a) ≡ origin k
  whole_turn a h = let e : a ≡ a + 0 = omega arith in ap (λ m. times k (2 ^ a) (gen m)) e
      ∙ times-generator laws gens a 0 (omega arith) ∙ gens.neutral

  whole_turns : (a q : ℕ) → a ≤ bits → times k (q * 2 ^ a) (gen a) ≡ origin k
  whole_turns a zero h = let e : 0 * 2 ^ a ≡ 0 = omega arith in ap (λ n. times k n (gen a)) e
  whole_turns a (suc q) h =
      let e : suc q * 2 ^ a ≡ 2 ^ a + q * 2 ^ a = omega arith in
      ap (λ n. times k n (gen a)) e ∙ times-+ laws (2 ^ a) (q * 2 ^ a) (gen a)
      ∙ ap (plus k (times k (2 ^ a) (gen a))) (whole_turns a q h) ∙ plus-origin
      laws (times k (2 ^ a) (gen a)) ∙ whole_turn a h

  -- a multiple of a generator is that by the remainder
  times-mod : (a t : ℕ) → a ≤ bits → times k t (gen a) ≡ times k (t % 2 ^ a) (gen a)
  times-mod a t h =
      let g = gen a in
      let q = t / 2 ^ a in
      let u = t % 2 ^ a in
      ap (λ n. times k n g) (sym (mod-add-div' t (2 ^ a)))
      ∙ times-+ laws u (q * 2 ^ a) g ∙ ap (plus k (times k u g)) (whole_turns a q h) ∙ plus-origin
      laws (times k u g)

  -- a multiple of the opposite
  opposite-times : (n : ℕ) (p : Coordinates F) → opposite k (times k n p) ≡ times k n (opposite k p)
  opposite-times zero p = same_coordinates refl (ring laws [] (minus (con 0)) (con 0) refl)
  opposite-times (suc n) p = opposite-plus laws p (times k n p)
      ∙ ap (plus k (opposite k p)) (opposite-times n p)

  some_injective : {A : Type 0} (a b : A) → Some a ≡ Some b → a ≡ b
  some_injective a b e = cc

  natural_from-on_circle : (count a : ℕ) (g s : Coordinates F) → IsOnCircle k g → IsOnCircle k s →
      (i : ℕ) (p : Coordinates F) → slice_get (natural_from k count g s a) i ≡ Some p →
      IsOnCircle k p
  natural_from-on_circle zero a g s on_g on_s i p here =
      absurd (omega (arith, slice_get_within [] i p here))
  natural_from-on_circle (suc count) a g s on_g on_s zero p here =
      subst (IsOnCircle k) (some_injective _ p here)
      (plus-on_circle laws s (times k a g) on_s (times-on_circle laws a g on_g))
  natural_from-on_circle (suc count) a g s on_g on_s (suc zero) p here =
      subst (IsOnCircle k) (some_injective _ p here)
      (plus-on_circle laws (opposite k s) (times k (suc a) g) (opposite-on_circle laws s on_s)
      (times-on_circle laws (suc a) g on_g))
  natural_from-on_circle (suc count) a g s on_g on_s (suc (suc i)) p here =
      natural_from-on_circle count (suc a) g s on_g on_s i p here

  -- the points of a domain are on the circle
  pub natural-on_circle : (n : ℕ) (s : Coordinates F) → 1 ≤ n → n ≤ suc bits → IsOnCircle k s →
      (i : ℕ) (p : Coordinates F) → slice_get (natural_order k gen n s) i ≡ Some p → IsOnCircle k p
  natural-on_circle n s positive fits on i p here =
      natural_from-on_circle (2 ^ (n - 1)) 0 (gen (n - 1)) s
      (gens.on_circle (n - 1) (omega (arith, positive, fits))) on i p here

  -- point i, doubled r times, is point i modulo the smaller size
  pub doubled-point : (m r n : ℕ) (s : Coordinates F) → 1 ≤ m → n ≡ m + r → n ≤ suc bits →
      (i : ℕ) (p : Coordinates F) → slice_get (natural_order k gen n s) i ≡ Some p →
      slice_get (natural_order k gen m (times k (2 ^ r) s)) (i % 2 ^ m) ≡ Some (times k (2 ^ r) p)
  doubled-point m r n s positive sum fits i p here =
      let s' = times k (2 ^ r) s in
      let g = gen (n - 1) in
      let g' = gen (m - 1) in
      let count = 2 ^ (n - 1) in
      let b = 2 ^ (m - 1) in
      let j = i / 2 in
      let lt : i < 2 ^ n =
      omega (
        arith,
        slice_get_within (natural_order k gen n s) i p here,
        length-natural_order k gen n s (omega (arith, positive, sum)),
      ) in
      let below : j < count = omega (arith, lt, two_halves n (omega (arith, positive, sum))) in
      let u = j % b in
      let low : u < b = mod-lt j (pow_pos (m - 1)) in
      let halves : b + b ≡ 2 ^ m = two_halves m positive in
      let small : m - 1 ≤ bits = omega (arith, sum, fits, positive) in
      let step : times k (2 ^ r) g ≡ g' =
      (let e : n - 1 ≡ r + (m - 1) = omega (arith, sum, positive) in
      ap (λ x. times k (2 ^ r) (gen x)) e
      ∙ times-generator laws gens r (m - 1) (omega (arith, sum, fits, positive))) in
      let moved : (x : ℕ) → times k (2 ^ r) (times k x g) ≡ times k x g' =
      λ x. times-times laws (2 ^ r) x g ∙ ap (times k x) step in
      ⊎_elim
      (λ even.
      let e : i ≡ j + j = omega (arith, even) in
      let z : 0 + j ≡ j = omega arith in
      let z' : 0 + u ≡ u = omega arith in
      let at : p ≡ plus k s (times k j g) =
      some_injective p _ (sym here ∙ natural_from-even k count j g s 0 i below e
      ∙ ap (λ x. Some (plus k s (times k x g))) z) in
      let place : i % 2 ^ m ≡ u + u = ap (λ x. x % 2 ^ m) e ∙ ap (λ x. (j + j) % x) (sym halves)
      ∙ twice-mod j b (pow_pos (m - 1)) in
      natural_from-even k b u g' s' 0 (i % 2 ^ m) low place
      ∙ ap (λ q. Some (plus k s' q)) (ap (λ x. times k x g') z' ∙ sym (times-mod (m - 1) j small)
      ∙ sym (moved j))
      ∙ ap (λ q. Some q) (sym (times-plus laws (2 ^ r) s (times k j g)))
      ∙ ap (λ q. Some (times k (2 ^ r) q)) (sym at))
      (λ odd.
      let e : i ≡ suc (j + j) = omega (arith, odd) in
      let z : suc (0 + j) ≡ suc j = omega arith in
      let z' : suc (0 + u) ≡ suc u = omega arith in
      let o = opposite k s in
      let at : p ≡ plus k o (times k (suc j) g) =
      some_injective p _ (sym here ∙ natural_from-odd k count j g s 0 i below e
      ∙ ap (λ x. Some (plus k o (times k x g))) z) in
      let place : i % 2 ^ m ≡ suc (u + u) = ap (λ x. x % 2 ^ m) e
      ∙ ap (λ x. suc (j + j) % x) (sym halves) ∙ odd-mod j b (pow_pos (m - 1)) in
      let next : times k (suc u) g' ≡ times k (suc j) g' =
      ap (plus k g') (sym (times-mod (m - 1) j small)) in
      natural_from-odd k b u g' s' 0 (i % 2 ^ m) low place
      ∙ ap (λ q. Some (plus k (opposite k s') q)) (ap (λ x. times k x g') z' ∙ next
      ∙ sym (moved (suc j)))
      ∙ ap (λ q. Some (plus k q (times k (2 ^ r) (times k (suc j) g)))) (opposite-times (2 ^ r) s)
      ∙ ap (λ q. Some q) (sym (times-plus laws (2 ^ r) o (times k (suc j) g)))
      ∙ ap (λ q. Some (times k (2 ^ r) q)) (sym at))
      (cases_eq (i % 2) 0)
