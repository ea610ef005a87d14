-- The laws of the prime field of 127 elements.
use Rattle.std.specs.Prelude.{◌≡◌, ◌≢◌, ℕ, ◌+◌, ◌*◌, ◌%◌, ◌^◌, ◌<◌, refl, nat_eq, true, ◌↔◌}
use Rattle.std.proofs.Common.{zero, suc, sym, ◌∙◌, ap, subst, arith, eqb-true, eq-eqb, lit<}
use Rattle.std.proofs.Math.Nat.{mod-eq_of_lt, add-mod-mod, add_comm, mul_comm, zero-add, one-mul}
use Rattle.std.proofs.Math.Nat.{pow-zero, pow-succ'}
use Rattle.std.proofs.lemmas.Nat.{mul-mod_second}
use Rattle.std.specs.Coded.{le_prop}
use Rattle.test_quotient.specs.declared.mersenne7.Mersenne7.{Mersenne7}
use Rattle.circle_field.specs.Field.{FieldLaws, of_nat, nth_power}
use Rattle.circle_field.specs.Residues.{sum_assoc, product_assoc, product_sum, opposite_sum}
use Rattle.circle_field.specs.Primes.{IsPrime, prime_by_trial}
use Rattle.circle_field.specs.Fermat.{inverse_power}
use Rattle.test_quotient.specs.Mersenne7.{order, residue, element, operations}

-- no number from 2 to 11 divides the order, and 12 has a greater square
order_prime : IsPrime order
order_prime = prime_by_trial order 10 (lit< tt) (lit< tt) refl

-- the element of a residue
make : (v : ℕ) → v < order → Mersenne7
make v h = record { value = v; below_order = h }

-- elements of equal residues are equal, since < has one proof
same_make : (u v : ℕ) (p : u < order) (q : v < order) → u ≡ v → make u p ≡ make v q
same_make u v p q e =
    let P : ℕ → Type 0 = λ w. (h : w < order) → make u p ≡ make w h in
    subst P e (λ h. ap (make u) (le_prop p h)) q

-- an element is determined by its residue
pub same_residue : (a b : Mersenne7) → residue a ≡ residue b → a ≡ b
unfolding make
same_residue a b e = same_make a.value b.value a.below_order b.below_order e

residue_reduced : (a : Mersenne7) → residue a % order ≡ residue a
residue_reduced a = mod-eq_of_lt a.below_order

-- an element other than 0 times its power of the order less 2 is 1
mul_inverse : (a : Mersenne7) → a ≢ element 0 → operations.mul a (operations.inv a) ≡ element 1
mul_inverse a h =
    same_residue _ _ (inverse_power order 125 order_prime refl (residue a)
    (λ e. h (same_residue a (element 0) (sym (residue_reduced a) ∙ e))))

-- the field's laws
pub laws : FieldLaws operations
laws = record {
  ring = record {
    add_assoc = λ a b c. same_residue _ _ (sum_assoc order (residue a) (residue b) (residue c));
    add_comm = λ a b. ap element (add_comm (residue a) (residue b));
    zero_add =
        λ a. same_residue _ _ (ap (λ x. x % order) (zero-add (residue a)) ∙ residue_reduced a);
    neg_add = λ a. same_residue _ _ (opposite_sum order (residue a) (omega arith));
    mul_assoc = λ a b c. same_residue _ _ (product_assoc order (residue a) (residue b) (residue c));
    mul_comm = λ a b. ap element (mul_comm (residue a) (residue b));
    one_mul = λ a. same_residue _ _ (ap (λ x. x % order) (one-mul (residue a)) ∙ residue_reduced a);
    mul_add = λ a b c. same_residue _ _ (product_sum order (residue a) (residue b) (residue c));
  };
  mul_inv = mul_inverse;
  two_nonzero = λ h. let e : 2 ≡ 0 = ap residue h in cc;
}

-- the sum of n ones is the element of n
residue_of_nat : (n : ℕ) → residue (of_nat operations n) ≡ n % order
residue_of_nat zero = refl
residue_of_nat (suc n) =
    let e : 1 + n ≡ suc n = omega arith in
    ap (λ x. (1 + x) % order) (residue_of_nat n) ∙ add-mod-mod 1 n order ∙ ap (λ x. x % order) e

pub element_of_nat : (n : ℕ) → element n ≡ of_nat operations n
element_of_nat n = same_residue _ _ (sym (residue_of_nat n))

-- the product of n times a is the element of the residue's power
residue_of_power : (a : Mersenne7) (n : ℕ) →
    residue (nth_power operations a n) ≡ residue a ^ n % order
residue_of_power a zero = ap (λ x. x % order) (sym (pow-zero (residue a)))
residue_of_power a (suc n) =
    ap (λ x. (residue a * x) % order) (residue_of_power a n)
    ∙ mul-mod_second (residue a) (residue a ^ n) order
    ∙ ap (λ x. x % order) (sym (pow-succ' (residue a) n))

pub power_is_inverse : (a : Mersenne7) → nth_power operations a 125 ≡ operations.inv a
power_is_inverse a = same_residue _ _ (residue_of_power a 125)

-- `==` compares residues
pub equal_exactly : (a b : Mersenne7) → (nat_eq (residue a) (residue b) ≡ true) ↔ (a ≡ b)
equal_exactly a b = (
  λ h. same_residue a b (eqb-true (residue a) (residue b) h),
  λ e. eq-eqb (residue a) (residue b) (ap residue e),
)
