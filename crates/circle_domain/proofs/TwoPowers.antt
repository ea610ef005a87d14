-- The inverse of a power of 2.
use Rattle.std.specs.Prelude.{◌≡◌, ℕ}
use Rattle.std.proofs.Common.{zero, suc, ◌∙◌, ap}
use Rattle.circle_field.specs.Field.{FieldOps, FieldLaws, two, nth_power}
use Rattle.circle_field.specs.RingFacts.{mul_swap}

module _ {F : Type 0} {k : FieldOps F} (laws : FieldLaws k) where
  pub inverse_power : (n : ℕ) → k.mul (nth_power k (k.inv (two k)) n) (nth_power k (two k) n)
      ≡ k.one
  inverse_power zero = laws.ring.one_mul k.one
  inverse_power (suc n) =
      mul_swap laws.ring (k.inv (two k)) (nth_power k (k.inv (two k)) n) (two k)
      (nth_power k (two k) n)
      ∙ ap (λ x. k.mul x (k.mul (nth_power k (k.inv (two k)) n) (nth_power k (two k) n)))
      (laws.ring.mul_comm (k.inv (two k)) (two k) ∙ laws.mul_inv (two k) laws.two_nonzero)
      ∙ laws.ring.one_mul _ ∙ inverse_power n
