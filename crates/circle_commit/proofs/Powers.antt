-- Powers of two.
use Rattle.std.proofs.Common.{◌≡◌, ℕ, ◌*◌, ◌%◌, ◌<◌, ◌≤◌, ◌^◌, inl, inr, sym, suc, ap, rules, arith}
use Rattle.std.proofs.Common.{◌∙◌}
use Rattle.std.proofs.Math.Pow.{pow-lt}
use Rattle.std.proofs.Math.Nat.{mod-eq_of_lt, eq-or-lt_of_le}
use Rattle.std.proofs.lemmas.Bool.{cases_lt}

-- powers of two grow
pub power_gap : (i j : ℕ) → i < j → 2 * 2 ^ i ≤ 2 ^ j
power_gap i j h =
    let e : 2 ^ suc i ≡ 2 * 2 ^ i = omega arith in
    let next : suc i ≤ j = omega arith in
    elim (eq-or-lt_of_le next) [
      | inl q ↦ let p : 2 ^ suc i ≡ 2 ^ j = ap (λ n. 2 ^ n) q in omega arith
      | inr q ↦ let p : 2 ^ suc i < 2 ^ j = pow-lt q in omega arith
    ]

-- the only power of two from 2^r up and below 2^(r + 1) is 2^r
pub power_between : (n r m : ℕ) → 2 ^ r ≤ n → n < 2 * 2 ^ r → n ≡ 2 ^ m → n ≡ 2 ^ r
power_between n r m low high power =
    elim (cases_lt m r) [
      | inl q ↦ let p : 2 ^ m < 2 ^ r = pow-lt q in absurd (omega arith)
      | inr q ↦ elim (eq-or-lt_of_le q) [
        | inl s ↦ power ∙ sym (ap (λ k. 2 ^ k) s)
        | inr s ↦ let p : 2 * 2 ^ r ≤ 2 ^ m = power_gap r m s in absurd (omega arith)
      ]
    ]

-- a power of two has one exponent
pub exponent_unique : (i j : ℕ) → 2 ^ i ≡ 2 ^ j → i ≡ j
exponent_unique i j same =
    elim (cases_lt i j) [
      | inl lt ↦ let p : 2 ^ i < 2 ^ j = pow-lt lt in absurd (omega arith)
      | inr ge ↦ elim (eq-or-lt_of_le ge) [
        | inl e ↦ sym e
        | inr lt ↦ let p : 2 ^ j < 2 ^ i = pow-lt lt in absurd (omega arith)
      ]
    ]

-- a power of two is positive
pub power_positive : (m : ℕ) → 0 < 2 ^ m
power_positive m = search rules

-- a power of two below 2^64, as a shift gives it
pub shifted : (r : ℕ) → r < 64 → 1 * 2 ^ r % 2 ^ 64 ≡ 2 ^ r
shifted r h =
    let p : 2 ^ r < 2 ^ 64 = pow-lt h in
    let e : 1 * 2 ^ r ≡ 2 ^ r = omega arith in
    ap (λ n. n % 2 ^ 64) e ∙ mod-eq_of_lt p
