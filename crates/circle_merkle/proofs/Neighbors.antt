-- Rows that agree at neighboring indices agree at all.
use Rattle.std.specs.Prelude.{◌≡◌, ℕ, ◌+◌, ◌-◌, ◌/◌, ◌<◌, ◌≤◌, List, [], length, slice_index}
use Rattle.std.specs.Prelude.{slice_index_or}
use Rattle.std.proofs.Common.{zero, suc, sym, ap, ◌∙◌, arith, ⊎_elim}
use Rattle.std.proofs.Math.Nat.{le-div_iff_mul-le, div-mul-le_self}
use Rattle.std.proofs.lemmas.Bool.{cases_lt}
use Rattle.std.proofs.lemmas.List.{get_or_default}
use Rattle.circle_merkle.specs.Order.{IsOrdered, entry_at}
use Rattle.circle_merkle.specs.SamePosition.{nth, row_of, NeighborsAgree}
use Rattle.circle_merkle.proofs.Ordered.{order-placed, order-contains, order-rises}

-- of numbers in ascending order the equal ones stand together, so what neighbors share they all
-- share
module _ {X : Type 0} (f : ℕ → ℕ) (r : ℕ → X) (n : ℕ) (ascending : (i k : ℕ) → i ≤ k → k < n →
    f i ≤ f k)
    (neighbors : (k : ℕ) → k + 1 < n → f k ≡ f (k + 1) → r k ≡ r (k + 1)) where
  chain : (i d : ℕ) → i + d < n → f i ≡ f (i + d) → r i ≡ r (i + d)
  chain i zero h e = ap r (let s : i ≡ i + 0 = omega arith in s)
  chain i (suc d) h e =
      let s : i + d + 1 ≡ i + suc d = omega arith in
      let last : f (i + d + 1) ≡ f (i + suc d) = ap f s in
      let low : f i ≤ f (i + d) = ascending i (i + d) (omega arith) (omega arith) in
      let high : f (i + d) ≤ f (i + d + 1) =
      ascending (i + d) (i + d + 1) (omega arith) (omega arith) in
      chain i d (omega arith) (omega arith) ∙ neighbors (i + d) (omega arith) (omega arith) ∙ ap r s

  pub chained : (i k : ℕ) → i ≤ k → k < n → f i ≡ f k → r i ≡ r k
  chained i k le h e =
      let s : i + (k - i) ≡ k = omega arith in
      chain i (k - i) (omega arith) (e ∙ ap f (sym s)) ∙ ap r s

module _ {T : Type 0} (indices : List ℕ) (order : List (ℕ × ℕ)) (ordered : IsOrdered indices order)
    (opened : List (List (List T))) (divisor j : ℕ) where
  ascending : 1 ≤ divisor → (i k : ℕ) → i ≤ k → k < length order →
      (nth order opened i).0 / divisor ≤ (nth order opened k).0 / divisor
  ascending pos i k le h =
      (le-div_iff_mul-le pos).1
      (omega (
        arith,
        div-mul-le_self (nth order opened i).0 divisor,
        order-rises indices order ordered i k (0, 0) le h,
      ))

  -- where the k-th of the indices stands in the order
  placed-at : (k : ℕ) → k < length indices → (a : ℕ) × (a < length order)
      × (nth order opened a ≡ entry_at indices k)
  placed-at k lt =
      let c = order-contains indices order ordered k lt in
      (c.0, c.1, get_or_default order c.0 (0, 0) (entry_at indices k) c.1 ∙ c.2)

  -- two indices of one row of the matrix have equal rows where neighbors have
  pub agree-all : 1 ≤ divisor →
      ((k : ℕ) → k + 1 < length order → NeighborsAgree order opened divisor j k) →
      (k l : ℕ) → k < length indices → l < length indices → slice_index indices k / divisor
      ≡ slice_index indices l / divisor →
      slice_index_or (slice_index_or opened k []) j []
      ≡ slice_index_or (slice_index_or opened l []) j []
  agree-all pos neighbors k l hk hl e =
      let a = placed-at k hk in
      let b = placed-at l hl in
      let first : (nth order opened a.0).0 / divisor ≡ (nth order opened b.0).0 / divisor =
      ap (λ x. x.0 / divisor) a.2 ∙ e ∙ ap (λ x. x.0 / divisor) (sym b.2) in
      let f = λ (k : ℕ). (nth order opened k).0 / divisor in
      let r = row_of order opened j in
      let rows : r a.0 ≡ r b.0 =
      ⊎_elim
      (λ lt. chained f r (length order) (ascending pos) neighbors a.0 b.0 (omega arith) b.1 first)
      (λ ge. sym (chained f r (length order) (ascending pos) neighbors b.0 a.0 ge a.1 (sym first)))
      (cases_lt a.0 b.0) in
      ap (λ x. slice_index_or (slice_index_or opened x.1 []) j []) (sym a.2) ∙ rows
      ∙ ap (λ x. slice_index_or (slice_index_or opened x.1 []) j []) b.2

  -- and the other way round
  pub agree-neighbors : ((k l : ℕ) → k < length indices → l < length indices →
      slice_index indices k / divisor ≡ slice_index indices l / divisor →
      slice_index_or (slice_index_or opened k []) j []
      ≡ slice_index_or (slice_index_or opened l []) j []) →
      (k : ℕ) → k + 1 < length order → NeighborsAgree order opened divisor j k
  agree-neighbors agree k h e =
      let here = order-placed indices order ordered k (0, 0) (omega arith) in
      let next = order-placed indices order ordered (k + 1) (0, 0) h in
      agree (nth order opened k).1 (nth order opened (k + 1)).1 here.0 next.0
      (ap (λ x. x / divisor) here.1 ∙ e ∙ ap (λ x. x / divisor) (sym next.1))
