-- Chains of squarings and products in the field of 2^31 - 1 elements.
use Rattle.std.specs.Prelude.{◌≡◌, ℕ, ◌+◌, ◌*◌, ◌^◌}
use Rattle.std.proofs.Common.{suc, sym, ◌∙◌, ap, arith}
use Rattle.std.proofs.Math.Nat.{pow-zero, pow-suc}
use Rattle.circle_field.specs.declared.mersenne31.Mersenne31.{Mersenne31}
use Rattle.circle_field.specs.Mersenne31.{power, operations}
use Rattle.circle_field.specs.Mersenne31Powers.{power-one, power-+, power-*}

-- no squaring yet
pub no_squaring : (a : Mersenne31) → a ≡ power a (2 ^ 0)
no_squaring a = sym (power-one a) ∙ ap (power a) (sym (pow-zero 2))

-- one squaring more
pub squaring_more : (a s r : Mersenne31) (k : ℕ) → s ≡ power a (2 ^ k) → r ≡ operations.mul s s →
    r ≡ power a (2 ^ (k + 1))
squaring_more a s r k e h =
    let next : k + 1 ≡ suc k = omega arith in
    let double : 2 ^ k + 2 ^ k ≡ 2 ^ (k + 1) = omega (arith, pow-suc 2 k, ap (λ j. 2 ^ j) next) in
    h ∙ ap (λ x. operations.mul x x) e ∙ power-+ a (2 ^ k) (2 ^ k) ∙ ap (power a) double

-- a product of powers
pub product : (a x y r : Mersenne31) (m n : ℕ) → x ≡ power a m → y ≡ power a n →
    r ≡ operations.mul x y → r ≡ power a (m + n)
product a x y r m n e h k = k ∙ ap (λ z. operations.mul z y) e ∙ ap (operations.mul (power a m)) h
    ∙ power-+ a m n

-- a power of a power
pub repeated : (a x r : Mersenne31) (m n : ℕ) → x ≡ power a m → r ≡ power x n → r ≡ power a (m * n)
repeated a x r m n e h = h ∙ ap (λ z. power z n) e ∙ power-* a m n
