-- The natural order of a domain, walked and read at a place.
use Rattle.std.specs.Prelude.{◌≡◌, ℕ, ◌+◌, ◌-◌, ◌*◌, ◌/◌, ◌^◌, ◌<◌, ◌≤◌, ◌∷◌, length, Some}
use Rattle.std.specs.Prelude.{slice_get}
use Rattle.std.proofs.Common.{zero, suc, sym, ◌∙◌, ap, refl, arith}
use Rattle.std.proofs.Math.Nat.{pow-suc}
use Rattle.circle_field.specs.Field.{FieldOps, RingLaws}
use Rattle.circle_field.specs.Circle.{Coordinates, plus, opposite, times}
use Rattle.circle_field.specs.CircleGroup.{plus_comm, plus_assoc, plus-origin}
use Rattle.circle_domain.specs.Domain.{walk, alternating}
use Rattle.circle_domain.specs.Order.{steps_from, natural_from}
use Rattle.circle_point.proofs.Multiples.{plus-times, times-one}

-- half of a power of two
pub half-pow : (n : ℕ) → 1 ≤ n → 2 ^ n / 2 ≡ 2 ^ (n - 1)
half-pow n h =
    let e : suc (n - 1) ≡ n = omega arith in
    let p : 2 ^ n ≡ 2 ^ (n - 1) * 2 = ap (λ m. 2 ^ m) (sym e) ∙ pow-suc 2 (n - 1) in
    omega arith

pub two_halves : (n : ℕ) → 1 ≤ n → 2 ^ (n - 1) + 2 ^ (n - 1) ≡ 2 ^ n
two_halves n h =
    let e : suc (n - 1) ≡ n = omega arith in
    let p : 2 ^ n ≡ 2 ^ (n - 1) * 2 = ap (λ m. 2 ^ m) (sym e) ∙ pow-suc 2 (n - 1) in
    omega arith

module _ {F : Type 0} {k : FieldOps F} (laws : RingLaws k) where
  -- one more step of a coset
  pub next_step : (s g : Coordinates F) (a : ℕ) → plus k (plus k s (times k a g)) g
      ≡ plus k s (times k (suc a) g)
  next_step s g a = plus_assoc laws s (times k a g) g ∙ ap (plus k s) (plus-times laws a g)

  -- the first point of each half
  pub first_even : (s g : Coordinates F) → plus k s (times k 0 g) ≡ s
  first_even s g = plus-origin laws s

  pub first_odd : (s g : Coordinates F) → plus k g s ≡ plus k s (times k 1 g)
  first_odd s g = plus_comm laws g s ∙ ap (plus k s) (sym (times-one laws g))

  pub walk-steps : (count : ℕ) (p s g : Coordinates F) (a : ℕ) → p ≡ plus k s (times k a g) →
      walk k count p g ≡ steps_from k count g s a
  walk-steps zero p s g a h = refl
  walk-steps (suc count) p s g a h =
      ap (λ q. q ∷ walk k count (plus k p g) g) h
      ∙ ap (λ rest. plus k s (times k a g) ∷ rest)
      (walk-steps count (plus k p g) s g (suc a) (ap (λ q. plus k q g) h ∙ next_step s g a))

  pub alternating-natural : (count : ℕ) (p q s g : Coordinates F) (a : ℕ) →
      p ≡ plus k s (times k a g) → q ≡ plus k (opposite k s) (times k (suc a) g) →
      alternating k (count + count) p q g ≡ natural_from k count g s a
  alternating-natural zero p q s g a hp hq = refl
  alternating-natural (suc count) p q s g a hp hq =
      let e : suc count + suc count ≡ suc (suc (count + count)) = omega arith in
      ap (λ n. alternating k n p q g) e
      ∙ ap (λ u. u ∷ q ∷ alternating k (count + count) (plus k p g) (plus k q g) g) hp
      ∙ ap (λ u. plus k s (times k a g) ∷ u
      ∷ alternating k (count + count) (plus k p g) (plus k q g) g) hq
      ∙ ap (λ rest. plus k s (times k a g) ∷ plus k (opposite k s) (times k (suc a) g) ∷ rest)
      (alternating-natural count (plus k p g) (plus k q g) s g (suc a)
      (ap (λ u. plus k u g) hp ∙ next_step s g a)
      (ap (λ u. plus k u g) hq ∙ next_step (opposite k s) g (suc a)))

module _ {F : Type 0} (k : FieldOps F) where
  pub length-natural_from : (count : ℕ) (g s : Coordinates F) (a : ℕ) →
      length (natural_from k count g s a) ≡ count + count
  length-natural_from zero g s a = refl
  length-natural_from (suc count) g s a =
      let e : length (natural_from k count g s (suc a)) ≡ count + count =
      length-natural_from count g s (suc a) in
      ap (λ n. suc (suc n)) e ∙ omega arith

  -- the points at places 2 j and 2 j + 1
  pub natural_from-even : (count j : ℕ) (g s : Coordinates F) (a i : ℕ) → j < count → i ≡ j + j →
      slice_get (natural_from k count g s a) i ≡ Some (plus k s (times k (a + j) g))
  natural_from-even zero j g s a i h e = absurd (omega arith)
  natural_from-even (suc count) zero g s a i h e =
      let z : a + 0 ≡ a = omega arith in
      ap (slice_get (natural_from k (suc count) g s a)) e
      ∙ ap (λ b. Some (plus k s (times k b g))) (sym z)
  natural_from-even (suc count) (suc j) g s a i h e =
      let e2 : suc j + suc j ≡ suc (suc (j + j)) = omega arith in
      let z : suc a + j ≡ a + suc j = omega arith in
      ap (slice_get (natural_from k (suc count) g s a)) (e ∙ e2)
      ∙ natural_from-even count j g s (suc a) (j + j) (omega arith) refl
      ∙ ap (λ b. Some (plus k s (times k b g))) z

  pub natural_from-odd : (count j : ℕ) (g s : Coordinates F) (a i : ℕ) → j < count →
      i ≡ suc (j + j) →
      slice_get (natural_from k count g s a) i
      ≡ Some (plus k (opposite k s) (times k (suc (a + j)) g))
  natural_from-odd zero j g s a i h e = absurd (omega arith)
  natural_from-odd (suc count) zero g s a i h e =
      let z : a + 0 ≡ a = omega arith in
      ap (slice_get (natural_from k (suc count) g s a)) e
      ∙ ap (λ b. Some (plus k (opposite k s) (times k (suc b) g))) (sym z)
  natural_from-odd (suc count) (suc j) g s a i h e =
      let e2 : suc (suc j + suc j) ≡ suc (suc (suc (j + j))) = omega arith in
      let z : suc a + j ≡ a + suc j = omega arith in
      ap (slice_get (natural_from k (suc count) g s a)) (e ∙ e2)
      ∙ natural_from-odd count j g s (suc a) (suc (j + j)) (omega arith) refl
      ∙ ap (λ b. Some (plus k (opposite k s) (times k (suc b) g))) z

  pub length-walk : (count : ℕ) (p g : Coordinates F) → length (walk k count p g) ≡ count
  length-walk zero p g = refl
  length-walk (suc count) p g = ap suc (length-walk count (plus k p g) g)

  pub length-alternating : (count : ℕ) (p q g : Coordinates F) → length (alternating k count p q g)
      ≡ count
  length-alternating zero p q g = refl
  length-alternating (suc count) p q g = ap suc (length-alternating count q (plus k p g) g)
