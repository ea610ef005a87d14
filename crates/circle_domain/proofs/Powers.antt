-- Powers of two.
use Rattle.std.specs.Prelude.{◌≡◌, ℕ, ◌*◌, ◌^◌, ◌<◌, ◌≤◌}
use Rattle.std.proofs.Common.{◌∙◌, ap, sym, suc, arith, lit<, ⊎_elim}
use Rattle.std.proofs.Math.Nat.{pow-suc, pow-le-pow_right}
use Rattle.std.proofs.lemmas.Bool.{cases_lt}
use Rattle.std.proofs.lemmas.Nat.{pow_pos}
use Rattle.circle_commit.specs.Matrix.{IsPowerOfTwo}

pub pow_within : (i j : ℕ) → i ≤ j → 2 ^ i ≤ 2 ^ j
pow_within i j h = pow-le-pow_right (lit< tt) h

-- the logarithm of a power of two
pub log_of_power : (h m : ℕ) → 2 ^ h ≤ 2 ^ m → 2 ^ m < 2 * 2 ^ h → h ≡ m
log_of_power h m low high =
    ⊎_elim
    (λ lt. absurd (let next : 2 ^ suc h ≤ 2 ^ m = pow_within (suc h) m lt in
    omega (arith, next, pow-suc 2 h)))
    (λ le. ⊎_elim
    (λ lt. absurd (let next : 2 ^ suc m ≤ 2 ^ h = pow_within (suc m) h lt in
    omega (arith, next, pow-suc 2 m, pow_pos m)))
    (λ ge. omega (arith, le, ge))
    (cases_lt m h))
    (cases_lt h m)

pub pow_injective : (h m : ℕ) → 2 ^ h ≡ 2 ^ m → h ≡ m
pow_injective h m e = log_of_power h m (omega (arith, e)) (omega (arith, e, pow_pos h))

pub pow_order : (h m : ℕ) → 2 ^ h ≤ 2 ^ m → h ≤ m
pow_order h m le =
    ⊎_elim
    (λ lt. absurd (let next : 2 ^ suc m ≤ 2 ^ h = pow_within (suc m) h lt in
    omega (arith, next, pow-suc 2 m, pow_pos m)))
    (λ ge. ge)
    (cases_lt m h)

-- a power of two by its logarithm
pub power_is : (n h : ℕ) → IsPowerOfTwo n → 2 ^ h ≤ n → n < 2 * 2 ^ h → n ≡ 2 ^ h
power_is n h power low high =
    power.1
    ∙ ap (λ m. 2 ^ m)
    (sym (log_of_power h power.0 (omega (arith, low, power.1)) (omega (arith, high, power.1))))
