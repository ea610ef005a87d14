-- The search for a witness from 0 up.
use Rattle.std.proofs.Common.{◌≡◌, ℕ, ◌+◌, ◌<◌, below_more, true, false, List, Some, None}
use Rattle.std.proofs.Common.{option_map, refl, sym, ap, ◌∙◌, subst, lit<, arith}
use Rattle.circle_field.specs.declared.mersenne31.Mersenne31.{Mersenne31}
use Rattle.circle_field.specs.Field.{of_nat}
use Rattle.circle_field.specs.Mersenne31.{order, residue, element, operations}
use Rattle.circle_field.specs.Mersenne31Laws.{same_residue, residue_of_nat, residue_reduced}
use Rattle.circle_challenger.specs.Grinding.{passes}
use Rattle.circle_challenger.specs.Least.{least-none, least-some}
use Rattle.circle_challenger.specs.Sponge.{absorbed_element, sampled_number, number_passes}
use Rattle.circle_challenger.specs.Sponge.{least_witness}

-- the sum of n ones is the element of n
pub of_nat-element : (n : ℕ) → of_nat operations n ≡ element n
of_nat-element n = same_residue (of_nat operations n) (element n) (residue_of_nat n)

-- each element is that of its residue
pub element-residue : (a : Mersenne31) → element (residue a) ≡ a
element-residue a = same_residue (element (residue a)) a (residue_reduced a)

module _ (s : List ℕ) (bits : ℕ) where
  -- at no difficulty 0 is found
  pub easy_witness : (z : Mersenne31) → bits ≡ 0 → z ≡ element 0 → Some z ≡ least_witness s bits
  easy_witness z none zero =
      ap Some zero
      ∙ sym
      (ap (option_map element)
      (least-some (number_passes s bits) order 0 (lit< tt)
      (subst (λ b. number_passes s b 0 ≡ true) (sym none) refl)
      (λ k below. absurd (omega arith))))

  -- the first element that passes is found
  pub first_witness : (n : ℕ) (w : Mersenne31) → n < order → w ≡ of_nat operations n →
      passes absorbed_element sampled_number s bits w ≡ true
      → ((k : ℕ) → k < n → number_passes s bits k ≡ false) → Some w ≡ least_witness s bits
  first_witness n w below is passing others =
      let same = is ∙ of_nat-element n in
      let passes_here : number_passes s bits n ≡ true =
      subst (λ x. passes absorbed_element sampled_number s bits x ≡ true) same passing in
      ap Some same
      ∙ sym
      (ap (option_map element)
      (least-some (number_passes s bits) order n below passes_here others))

  -- none is found where none passes
  pub no_witness : ((k : ℕ) → k < order → number_passes s bits k ≡ false) →
      None ≡ least_witness s bits
  no_witness h = sym (ap (option_map element) (least-none (number_passes s bits) order h))

  -- and then no element passes
  pub none_passes : ((k : ℕ) → k < order → number_passes s bits k ≡ false) → (w : Mersenne31) →
      passes absorbed_element sampled_number s bits w ≡ false
  none_passes h w = subst (λ x. passes absorbed_element sampled_number s bits x ≡ false)
      (element-residue w) (h (residue w) w.below_order)

  -- one more element that does not pass
  pub missed_more : (n : ℕ) (w : Mersenne31) → w ≡ of_nat operations n →
      passes absorbed_element sampled_number s bits w ≡ false
      → ((k : ℕ) → k < n → number_passes s bits k ≡ false) → (k : ℕ) → k < n + 1 →
      number_passes s bits k ≡ false
  missed_more n w is misses others =
      below_more (λ k. number_passes s bits k ≡ false) n others
      (subst (λ x. passes absorbed_element sampled_number s bits x ≡ false) (is ∙ of_nat-element n)
      misses)
