-- On each part, what is put together of chunks is the part's own chunk.
use Rattle.std.specs.Prelude.{◌≡◌, ◌≢◌, ℕ, ◌+◌, ◌-◌, ◌<◌, ◌≤◌, List, [], ◌∷◌, length, map, remove}
use Rattle.std.specs.Prelude.{slice_index_or}
use Rattle.std.specs.List.{range_with_len}
use Rattle.std.proofs.Common.{zero, suc, sym, ◌∙◌, ap, refl, arith, ⊎_elim}
use Rattle.std.proofs.lemmas.Bool.{cases_eq, cases_lt}
use Rattle.std.proofs.lemmas.List.Edits.{length-remove, get_or-remove_below, get_or-remove_above}
use Rattle.circle_field.specs.Field.{FieldOps, FieldLaws, sub}
use Rattle.circle_field.specs.Ring.{var, con, unit, plus as sum, times as prod, minus}
use Rattle.circle_field.specs.RingSound.{ring}
use Rattle.circle_field.specs.RingCombine.{given, combine}
use Rattle.circle_commit.specs.DotProduct.{dot}
use Rattle.circle_quotient.specs.Recomposition.{lagrange_factor, part_factor, recomposed}

module _ {E : Type 0} {l : FieldOps E} (laws : FieldLaws l) where
  -- a factor at its own value
  factor-own : (others : List E) (own : E) →
      ((i : ℕ) → i < length others → slice_index_or others i l.zero ≢ own) →
      lagrange_factor l others own own ≡ l.one
  factor-own [] own apart = refl
  factor-own (x ∷ others) own apart =
      let different : sub l own x ≢ l.zero = λ z. apart 0 (omega arith)
      (combine laws.ring (own ∷ x ∷ []) (var 1) (var 0)
      (given (minus unit) (sum (var 0) (minus (var 1))) (con 0) ∷ []) refl (z, tt)) in
      ap (λ v. l.mul v (lagrange_factor l others own own)) (laws.mul_inv (sub l own x) different)
      ∙ laws.ring.one_mul (lagrange_factor l others own own)
      ∙ factor-own others own (λ i lt. apart (suc i) (omega arith))

  -- and at the value of another
  factor-other : (others : List E) (own at : E) (i : ℕ) → i < length others →
      slice_index_or others i l.zero ≡ at → lagrange_factor l others own at ≡ l.zero
  factor-other [] own at i lt e = absurd (omega arith)
  factor-other (x ∷ others) own at zero lt e =
      combine laws.ring
      (at ∷ x ∷ l.inv (sub l own x) ∷ lagrange_factor l others own at ∷ [])
      (prod (prod (sum (var 0) (minus (var 1))) (var 2)) (var 3)) (con 0)
      (given (minus (prod (var 2) (var 3))) (var 1) (var 0) ∷ []) refl (e, tt)
  factor-other (x ∷ others) own at (suc i) lt e =
      ap (l.mul (l.mul (sub l at x) (l.inv (sub l own x))))
      (factor-other others own at i (omega arith) e)
      ∙ ring laws.ring (l.mul (sub l at x) (l.inv (sub l own x)) ∷ []) (prod (var 0) (con 0))
      (con 0)
      refl

  -- values that differ
  module _ (xs : List E)
      (distinct : (t u : ℕ) → t < u → u < length xs →
      slice_index_or xs t l.zero ≡ slice_index_or xs u l.zero → ⊥) where
    different : (t u : ℕ) → t < length xs → u < length xs → (t ≡ u → ⊥) →
        slice_index_or xs t l.zero ≡ slice_index_or xs u l.zero → ⊥
    different t u t_in u_in other e =
        ⊎_elim (λ lt. distinct t u lt u_in e)
        (λ le. distinct u t (omega (arith, le, other)) t_in (sym e)) (cases_lt t u)

    own-part : (t : ℕ) → t < length xs →
        part_factor l xs t (slice_index_or xs t l.zero) ≡ l.one
    own-part t lt =
        let count = length-remove xs t lt in
        factor-own (remove xs t) (slice_index_or xs t l.zero)
        (λ i below e.
        ⊎_elim
        (λ low. different i t (omega (arith, low, lt)) lt (λ same. omega (arith, low, same))
        (sym (get_or-remove_below xs t l.zero i low lt) ∙ e))
        (λ high. different (i + 1) t (omega (arith, below, count)) lt
        (λ same. omega (arith, high, same))
        (sym (get_or-remove_above xs t l.zero i high lt) ∙ e))
        (cases_lt i t))

    other-part : (t u : ℕ) → t < length xs → u < length xs → (t ≡ u → ⊥) →
        part_factor l xs t (slice_index_or xs u l.zero) ≡ l.zero
    other-part t u t_in u_in other =
        let count = length-remove xs t t_in in
        ⊎_elim
        (λ low.
        factor-other (remove xs t) (slice_index_or xs t l.zero) (slice_index_or xs u l.zero) u
        (omega (arith, low, count, t_in)) (get_or-remove_below xs t l.zero u low t_in))
        (λ high.
        let back : (u - 1) + 1 ≡ u = omega (arith, high, other) in
        factor-other (remove xs t) (slice_index_or xs t l.zero) (slice_index_or xs u l.zero) (u - 1)
        (omega (arith, back, count, u_in))
        (get_or-remove_above xs t l.zero (u - 1) (omega (arith, high, other)) t_in
        ∙ ap (λ i. slice_index_or xs i l.zero) back))
        (cases_lt u t)

  dot-none : (w : ℕ → E) (n a : ℕ) (vs : List E) →
      ((i : ℕ) → a ≤ i → i < a + n → w i ≡ l.zero) → dot l (map w (range_with_len a n)) vs ≡ l.zero
  dot-none w zero a vs none = refl
  dot-none w (suc n) a [] none = refl
  dot-none w (suc n) a (v ∷ vs) none =
      ap (λ x. l.add (l.mul x v) (dot l (map w (range_with_len (a + 1) n)) vs))
      (none a (omega arith) (omega arith))
      ∙ ap (l.add (l.mul l.zero v))
      (dot-none w n (a + 1) vs
      (λ i from below. none i (omega (arith, from)) (omega (arith, below))))
      ∙ ring laws.ring (v ∷ []) (sum (prod (con 0) (var 0)) (con 0)) (con 0) refl

  -- where one weight is 1 and the others are 0
  dot-one : (w : ℕ → E) (u n a : ℕ) (vs : List E) → a ≤ u → u < a + n → w u ≡ l.one →
      ((i : ℕ) → i < a + n → (i ≡ u → ⊥) → w i ≡ l.zero) →
      dot l (map w (range_with_len a n)) vs ≡ slice_index_or vs (u - a) l.zero
  dot-one w u zero a vs from below one none = absurd (omega (arith, from, below))
  dot-one w u (suc n) a [] from below one none = refl
  dot-one w u (suc n) a (v ∷ vs) from below one none =
      let rest = dot l (map w (range_with_len (a + 1) n)) vs in
      ⊎_elim
      (λ here.
      let at_front : u - a ≡ 0 = omega (arith, here) in
      ap (λ i. l.add (l.mul (w i) v) rest) here ∙ ap (λ x. l.add (l.mul x v) rest) one
      ∙ ap (l.add (l.mul l.one v))
      (dot-none w n (a + 1) vs (λ i above lt. none i (omega (arith, lt))
      (λ same. omega (arith, same, above, here))))
      ∙ ring laws.ring (v ∷ []) (sum (prod unit (var 0)) (con 0)) (var 0) refl
      ∙ sym (ap (λ i. slice_index_or (v ∷ vs) i l.zero) at_front))
      (λ other.
      let behind : u - a ≡ suc (u - (a + 1)) = omega (arith, from, other) in
      ap (λ x. l.add (l.mul x v) rest) (none a (omega arith) other)
      ∙ ap (l.add (l.mul l.zero v))
      (dot-one w u n (a + 1) vs (omega (arith, from, other)) (omega (arith, below)) one
      (λ i lt. none i (omega (arith, lt))))
      ∙ laws.ring.add_comm (l.mul l.zero v) (slice_index_or vs (u - (a + 1)) l.zero)
      ∙ ring laws.ring (v ∷ slice_index_or vs (u - (a + 1)) l.zero ∷ [])
      (sum (var 1) (prod (con 0) (var 0))) (var 1) refl
      ∙ sym (ap (λ i. slice_index_or (v ∷ vs) i l.zero) behind))
      (cases_eq a u)

  pub recomposed-part : (xs vs : List E)
      (distinct : (t u : ℕ) → t < u → u < length xs →
      slice_index_or xs t l.zero ≡ slice_index_or xs u l.zero → ⊥) (u : ℕ) → u < length xs →
      recomposed l xs vs (slice_index_or xs u l.zero) ≡ slice_index_or vs u l.zero
  recomposed-part xs vs distinct u lt =
      let at = slice_index_or xs u l.zero in
      dot-one (λ i. part_factor l xs i at) u (length xs) 0 vs (omega arith) (omega (arith, lt))
      (own-part xs distinct u lt)
      (λ i below other. other-part xs distinct i u (omega (arith, below)) lt other)
      ∙ ap (λ i. slice_index_or vs i l.zero) (omega arith)
