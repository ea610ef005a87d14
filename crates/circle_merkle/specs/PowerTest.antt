-- A test for powers of two of 64 bits.
use Rattle.std.specs.Prelude.{◌≡◌, ℕ, ◌+◌, ◌^◌, ◌<◌, ◌≤◌, ◌==◌, Bool, true}
use Rattle.std.specs.List.{list_any, range_with_len}
use Rattle.std.proofs.Common.{arith, ⊎_elim, lit<, sym, ◌∙◌, ap}
use Rattle.std.proofs.Math.Nat.{pow-le-pow_right}
use Rattle.std.proofs.lemmas.Bool.{eqb-true, eq-eqb, cases_lt}
use Rattle.std.proofs.lemmas.List.Folds.{Any-from_list_any, list_any_at}
use Rattle.std.proofs.lemmas.List.FromFn.{get_or-range_with_len, length-range_with_len}
use Rattle.circle_commit.specs.Matrix.{IsPowerOfTwo}

-- whether the number is 2^k for a k below 64
unfoldable pub is_power : ℕ → Bool
is_power n = list_any (λ k. n == 2 ^ k) (range_with_len 0 64)

pub power_of : (n : ℕ) → is_power n ≡ true → IsPowerOfTwo n
unfolding is_power
power_of n h = let any = Any-from_list_any (λ k. n == 2 ^ k) (range_with_len 0 64) h in
    (any.1, eqb-true n (2 ^ any.1) any.4)

pub power_passes : (n : ℕ) → n < 2 ^ 64 → IsPowerOfTwo n → is_power n ≡ true
unfolding is_power
power_passes n small power =
    let below : power.0 < 64 = ⊎_elim (λ lt. lt) (λ ge. absurd (let le : 2 ^ 64 ≤ 2 ^ power.0 =
    pow-le-pow_right (lit< tt) ge in omega (arith, le, power.1))) (cases_lt power.0 64) in
    let at = get_or-range_with_len 0 64 power.0 0 below in
    list_any_at (λ k. n == 2 ^ k) (range_with_len 0 64) power.0 0
    (omega (arith, below, length-range_with_len 0 64))
    (eq-eqb n (2 ^ _) (power.1 ∙ ap (λ k. 2 ^ k)
    (sym (at ∙ (let e : 0 + power.0 ≡ power.0 = omega arith in e)))))
