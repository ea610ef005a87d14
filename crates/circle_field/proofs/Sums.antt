-- Sums of ones, and products that aren't 0.
use Rattle.std.specs.Prelude.{◌≡◌, ◌≢◌, ℕ, ◌+◌}
use Rattle.std.proofs.Common.{zero, suc, sym, ◌∙◌, ap, arith}
use Rattle.circle_field.specs.Field.{FieldOps, RingLaws, FieldLaws, nth_power, of_nat}
use Rattle.circle_field.specs.RingFacts.{mul_zero}

-- the sum of m + n ones
pub ones-+ : {F : Type 0} {k : FieldOps F} (laws : RingLaws k) (m n : ℕ) → of_nat k (m + n)
    ≡ k.add (of_nat k m) (of_nat k n)
ones-+ {k = k} laws zero n = let e : zero + n ≡ n = omega arith in
    rw e (sym (laws.zero_add (of_nat k n)))
ones-+ {k = k} laws (suc m) n =
    let e : suc m + n ≡ suc (m + n) = omega arith in
    rw e (ap (k.add k.one) (ones-+ laws m n) ∙ sym (laws.add_assoc k.one (of_nat k m) (of_nat k n)))

module _ {F : Type 0} {k : FieldOps F} (laws : FieldLaws k) where
  -- 1 is not 0
  one-nonzero : k.one ≢ k.zero
  one-nonzero e = laws.two_nonzero (ap (λ a. k.add a k.one) e ∙ laws.ring.zero_add k.one ∙ e)

  -- a product that is 0 has a factor that is
  product-zero : (a b : F) → a ≢ k.zero → k.mul a b ≡ k.zero → b ≡ k.zero
  product-zero a b nonzero e =
      sym (laws.ring.one_mul b)
      ∙ ap (λ u. k.mul u b) (sym (laws.ring.mul_comm (k.inv a) a ∙ laws.mul_inv a nonzero))
      ∙ laws.ring.mul_assoc (k.inv a) a b ∙ ap (k.mul (k.inv a)) e ∙ mul_zero laws.ring (k.inv a)

  -- powers of what isn't 0
  pub nth_power-nonzero : (a : F) (n : ℕ) → a ≢ k.zero → nth_power k a n ≢ k.zero
  nth_power-nonzero a zero nonzero e = one-nonzero e
  nth_power-nonzero a (suc n) nonzero e =
      nth_power-nonzero a n nonzero (product-zero a (nth_power k a n) nonzero e)
