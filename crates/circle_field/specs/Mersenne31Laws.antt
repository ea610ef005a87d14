-- The laws of the prime field of 2^31 - 1 elements.
use Rattle.std.specs.Prelude.{◌≡◌, ◌≢◌, ℕ, ◌+◌, ◌/◌, ◌%◌, ◌^◌, ◌<◌, refl, nat_eq, true, ◌↔◌}
use Rattle.std.proofs.Common.{zero, suc, sym, ◌∙◌, ap, subst, arith, eqb-true, eq-eqb}
use Rattle.std.proofs.Math.Nat.{mod-eq_of_lt, add-mod-mod, add_comm, mul_comm, zero-add, one-mul}
use Rattle.std.specs.Coded.{le_prop}
use Rattle.circle_field.specs.declared.mersenne31.Mersenne31.{Mersenne31}
use Rattle.circle_field.specs.Field.{FieldLaws, of_nat}
use Rattle.circle_field.specs.Residues.{sum_assoc, product_assoc, product_sum, opposite_sum}
use Rattle.circle_field.specs.Residues.{folded_bits}
use Rattle.circle_field.specs.Fermat.{inverse_power}
use Rattle.circle_field.specs.Mersenne31Prime.{order_prime}
use Rattle.circle_field.specs.Mersenne31.{order, residue, element, power, operations}

-- the element of a residue
make : (v : ℕ) → v < order → Mersenne31
make v h = record { value = v; below_order = h }

-- elements of equal residues are equal, since < has one proof
same_make : (u v : ℕ) (p : u < order) (q : v < order) → u ≡ v → make u p ≡ make v q
same_make u v p q e =
    let P : ℕ → Type 0 = λ w. (h : w < order) → make u p ≡ make w h in
    subst P e (λ h. ap (make u) (le_prop p h)) q

-- an element is determined by its residue
pub same_residue : (a b : Mersenne31) → residue a ≡ residue b → a ≡ b
unfolding make
same_residue a b e = same_make a.value b.value a.below_order b.below_order e

-- a residue is reduced
pub residue_reduced : (a : Mersenne31) → residue a % order ≡ residue a
residue_reduced a = mod-eq_of_lt a.below_order

-- the order does not divide the residue of an element other than 0
pub residue_nonzero : (a : Mersenne31) → a ≢ element 0 → residue a % order ≢ 0
residue_nonzero a h = λ e. h (same_residue a (element 0) (sym (residue_reduced a) ∙ e))

-- an element times its power of the order less 2 is 1
mul-inverse : (a : Mersenne31) → a ≢ element 0 → operations.mul a (power a 2147483645) ≡ element 1
unfolding power
mul-inverse a h =
    same_residue _ _
    (inverse_power order 2147483645 order_prime refl (residue a) (residue_nonzero a h))

-- the field's laws
pub laws : FieldLaws operations
laws = record {
  ring = record {
    add_assoc = λ a b c. same_residue _ _ (sum_assoc order (residue a) (residue b) (residue c));
    add_comm = λ a b. ap element (add_comm (residue a) (residue b));
    zero_add =
        λ a. same_residue _ _ (ap (λ x. x % order) (zero-add (residue a)) ∙ residue_reduced a);
    neg_add = λ a. same_residue _ _ (opposite_sum order (residue a) (omega arith));
    mul_assoc = λ a b c. same_residue _ _ (product_assoc order (residue a) (residue b) (residue c));
    mul_comm = λ a b. ap element (mul_comm (residue a) (residue b));
    one_mul = λ a. same_residue _ _ (ap (λ x. x % order) (one-mul (residue a)) ∙ residue_reduced a);
    mul_add = λ a b c. same_residue _ _ (product_sum order (residue a) (residue b) (residue c));
  };
  mul_inv = mul-inverse;
  two_nonzero = λ h. let e : 2 ≡ 0 = ap residue h in cc;
}

-- the sum of n ones is the element of n
pub residue_of_nat : (n : ℕ) → residue (of_nat operations n) ≡ n % order
residue_of_nat zero = refl
residue_of_nat (suc n) =
    let e : 1 + n ≡ suc n = omega arith in
    ap (λ x. (1 + x) % order) (residue_of_nat n) ∙ add-mod-mod 1 n order ∙ ap (λ x. x % order) e

-- numbers below the order are told apart as sums of ones
pub numbers_told_apart : (m n : ℕ) → m < order → n < order →
    of_nat operations m ≡ of_nat operations n → m ≡ n
numbers_told_apart m n p q h =
    sym (mod-eq_of_lt p) ∙ sym (residue_of_nat m) ∙ ap residue h ∙ residue_of_nat n ∙ mod-eq_of_lt q

-- the element of the folded bits of n is the sum of n ones
pub folded_of_nat : (n f : ℕ) (r : Mersenne31) → f ≡ n % 2 ^ 31 + n / 2 ^ 31 → r ≡ element f →
    r ≡ of_nat operations n
folded_of_nat n f r e h =
    h ∙ same_residue (element f) (of_nat operations n)
    (ap (λ x. x % order) e ∙ folded_bits n ∙ sym (residue_of_nat n))

-- `==` compares residues
pub equal_exactly : (a b : Mersenne31) → (nat_eq (residue a) (residue b) ≡ true) ↔ (a ≡ b)
equal_exactly a b = (
  λ h. same_residue a b (eqb-true (residue a) (residue b) h),
  λ e. eq-eqb (residue a) (residue b)
      (ap residue e),
)
