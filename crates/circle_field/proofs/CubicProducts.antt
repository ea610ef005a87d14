-- Sums of products of residues, before they are reduced, as elements.
use Rattle.std.specs.Prelude.{◌≡◌, ℕ, ◌+◌, ◌*◌, ◌/◌, ◌%◌, ◌^◌}
use Rattle.std.proofs.Common.{sym, ◌∙◌, ap}
use Rattle.std.proofs.lemmas.Nat.{mul-mod_second}
use Rattle.circle_field.specs.declared.mersenne31.Mersenne31.{Mersenne31}
use Rattle.circle_field.specs.Field.{of_nat}
use Rattle.circle_field.specs.Mersenne31.{order, residue, operations}
use Rattle.circle_field.specs.Mersenne31Laws.{laws, same_residue, residue_of_nat}
use Rattle.circle_field.specs.Residues.{folded_bits}
use Rattle.circle_field.specs.CubicFive.{five}
use Rattle.circle_field.proofs.Sums.{ones-+}

-- as many ones as a product of residues
pub ones-product : (a b : Mersenne31) → of_nat operations (residue a * residue b)
    ≡ operations.mul a b
ones-product a b = same_residue _ _ (residue_of_nat (residue a * residue b))

-- as many ones as a sum of numbers whose elements are known
pub ones-sum : (m n : ℕ) (a b : Mersenne31) → of_nat operations m ≡ a → of_nat operations n ≡ b →
    of_nat operations (m + n) ≡ operations.add a b
ones-sum m n a b p q =
    ones-+ laws.ring m n ∙ ap (λ x. operations.add x (of_nat operations n)) p
    ∙ ap (operations.add a) q

-- as many ones as five times a number that was folded
pub ones-five : (n f : ℕ) (a : Mersenne31) → f ≡ n % 2 ^ 31 + n / 2 ^ 31 → of_nat operations n ≡ a →
    of_nat operations (5 * f) ≡ operations.mul five a
ones-five n f a folded known =
    same_residue _ _
    (residue_of_nat (5 * f) ∙ sym (mul-mod_second 5 f order)
    ∙ ap (λ x. (5 * x) % order) (ap (λ m. m % order) folded ∙ folded_bits n ∙ sym (residue_of_nat n)
    ∙ ap residue known))
