-- Powers of an element, by halving the exponent.
use Rattle.std.specs.Prelude.{◌≡◌, ℕ, ◌+◌, ◌/◌, ◌%◌}
use Rattle.std.proofs.Common.{zero, suc, sym, ◌∙◌, ap, refl, arith}
use Rattle.circle_field.specs.Field.{FieldOps, RingLaws, nth_power}
use Rattle.circle_field.specs.RingFacts.{mul_one}

module _ {F : Type 0} {k : FieldOps F} (laws : RingLaws k) where
  open k use {one, mul}
  open laws use {mul_assoc, mul_comm, one_mul}

  pub nth_power-+ : (a : F) (m n : ℕ) → nth_power k a (m + n)
      ≡ mul (nth_power k a m) (nth_power k a n)
  nth_power-+ a zero n = let e : zero + n ≡ n = omega arith in
      rw e (sym (one_mul (nth_power k a n)))
  nth_power-+ a (suc m) n =
      let e : suc m + n ≡ suc (m + n) = omega arith in
      rw e (ap (mul a) (nth_power-+ a m n) ∙ sym (mul_assoc a (nth_power k a m) (nth_power k a n)))

  -- the square's power is the power of twice the exponent
  pub nth_power-square : (a : F) (n : ℕ) → nth_power k (mul a a) n ≡ nth_power k a (n + n)
  nth_power-square a zero = refl
  nth_power-square a (suc n) =
      let e : suc n + suc n ≡ suc (suc (n + n)) = omega arith in
      rw e (ap (mul (mul a a)) (nth_power-square a n) ∙ mul_assoc a a (nth_power k a (n + n)))

  -- one step of repeated squaring, at an even and at an odd exponent
  pub halved_even : (r b t : F) (n : ℕ) → mul r (nth_power k b n) ≡ t → n % 2 ≡ 0 →
      mul r (nth_power k (mul b b) (n / 2)) ≡ t
  halved_even r b t n h even =
      let e : n / 2 + n / 2 ≡ n = omega arith in
      ap (mul r) (nth_power-square b (n / 2) ∙ ap (nth_power k b) e) ∙ h

  pub halved_odd : (r b t : F) (n : ℕ) → mul r (nth_power k b n) ≡ t → n % 2 ≡ 1 →
      mul (mul r b) (nth_power k (mul b b) (n / 2)) ≡ t
  halved_odd r b t n h odd =
      let e : suc (n / 2 + n / 2) ≡ n = omega arith in
      mul_assoc r b (nth_power k (mul b b) (n / 2))
      ∙ ap (λ x. mul r (mul b x)) (nth_power-square b (n / 2)) ∙ ap (λ m. mul r (nth_power k b m)) e
      ∙ h

  pub no_more : (r b t : F) (n : ℕ) → mul r (nth_power k b n) ≡ t → n ≡ 0 → r ≡ t
  no_more r b t n h e = sym (mul_one laws r) ∙ ap (λ m. mul r (nth_power k b m)) (sym e) ∙ h
