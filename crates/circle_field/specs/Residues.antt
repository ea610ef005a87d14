-- Sums and products modulo a number, each taken of remainders already.
use Rattle.std.specs.Prelude.{◌≡◌, ℕ, ◌+◌, ◌*◌, ◌-◌, ◌/◌, ◌%◌, ◌^◌, ◌≤◌}
use Rattle.std.proofs.Common.{sym, ◌∙◌, ap, arith, add_assoc}
use Rattle.std.proofs.Math.Nat.{mod-add-mod, add-mod-mod, add-mul-mod_self_right, mod_self}
use Rattle.std.proofs.Math.Nat.{mul_assoc, mul-add}
use Rattle.std.proofs.lemmas.Nat.{mul-mod_first, mul-mod_second}

module _ (m : ℕ) where
  -- sums are associative
  pub sum_assoc : (a b c : ℕ) → ((a + b) % m + c) % m ≡ (a + (b + c) % m) % m
  sum_assoc a b c =
      mod-add-mod (a + b) m c ∙ ap (λ x. x % m) (add_assoc a b c) ∙ sym (add-mod-mod a (b + c) m)

  -- products are associative
  pub product_assoc : (a b c : ℕ) → ((a * b) % m * c) % m ≡ (a * ((b * c) % m)) % m
  product_assoc a b c =
      mul-mod_first (a * b) c m ∙ ap (λ x. x % m) (mul_assoc a b c)
      ∙ sym (mul-mod_second a (b * c) m)

  -- a product with a sum is the sum of the products
  pub product_sum : (a b c : ℕ) → (a * ((b + c) % m)) % m ≡ ((a * b) % m + (a * c) % m) % m
  product_sum a b c =
      mul-mod_second a (b + c) m ∙ ap (λ x. x % m) (mul-add a b c)
      ∙ sym (mod-add-mod (a * b) m (a * c)) ∙ sym (add-mod-mod ((a * b) % m) (a * c) m)

  -- m - a is the opposite of a
  pub opposite_sum : (a : ℕ) → a ≤ m → ((m - a) % m + a) % m ≡ 0
  opposite_sum a h = let e : m - a + a ≡ m = omega arith in
      mod-add-mod (m - a) m a ∙ ap (λ x. x % m) e ∙ mod_self m

-- the low 31 bits of n plus its other bits have n's remainder by 2^31 - 1
pub folded_bits : (n : ℕ) → (n % 2 ^ 31 + n / 2 ^ 31) % 2147483647 ≡ n % 2147483647
folded_bits n =
    let e : n ≡ (n % 2 ^ 31 + n / 2 ^ 31) + n / 2 ^ 31 * 2147483647 = omega arith in
    sym (ap (λ x. x % 2147483647) e
    ∙ add-mul-mod_self_right (n % 2 ^ 31 + n / 2 ^ 31) (n / 2 ^ 31) 2147483647)
