-- The binary logarithms of powers of two.
use Rattle.std.specs.Prelude.{◌≡◌, ℕ, ◌+◌, ◌-◌, ◌^◌, ◌<◌, ◌≤◌, List, ◌∷◌, length, nat_le, min}
use Rattle.std.specs.List.{filter, range_with_len}
use Rattle.std.proofs.Common.{zero, suc, ap, arith, ⊎_elim, cond}
use Rattle.std.proofs.Math.Nat.{pow-suc}
use Rattle.std.proofs.lemmas.Bool.{le-leb, lt-leb, cases_lt}
use Rattle.std.proofs.lemmas.Nat.{pow_pos}
use Rattle.circle_domain.proofs.Powers.{pow_within}
use Rattle.circle_codewords.specs.Requests.{log_of}

module _ (m : ℕ) where
  -- the exponents of n from a on whose next power of two is at most 2^m
  abbrev exponents : ℕ → ℕ → List ℕ
  exponents a n = filter (λ h. nat_le (2 ^ suc h) (2 ^ m)) (range_with_len a n)

  -- the first stays below m, or doesn't
  kept : (a n : ℕ) → a < m → length (exponents a (suc n)) ≡ suc (length (exponents (a + 1) n))
  kept a n less =
      let rest = exponents (a + 1) n in
      ap (λ b. length (cond b (a ∷ rest) rest))
      (le-leb (2 ^ suc a) (2 ^ m) (pow_within (suc a) m less))

  dropped : (a n : ℕ) → m ≤ a → length (exponents a (suc n)) ≡ length (exponents (a + 1) n)
  dropped a n other =
      let rest = exponents (a + 1) n in
      let above : 2 ^ m < 2 ^ suc a = omega (arith, pow_within m a other, pow-suc 2 a, pow_pos a) in
      ap (λ b. length (cond b (a ∷ rest) rest)) (lt-leb (2 ^ suc a) (2 ^ m) above)

  -- min n (m - a) of them are below m
  counted : (n a : ℕ) → length (exponents a n) ≡ min n (m - a)
  counted zero a = omega arith
  counted (suc n) a = ⊎_elim
      (λ less. omega (arith, kept a n less, counted n (a + 1), less))
      (λ other. omega (arith, dropped a n other, counted n (a + 1), other))
      (cases_lt a m)

-- the logarithm of 2^m is m
pub log_of-power : (m : ℕ) → m < 64 → log_of (2 ^ m) ≡ m
log_of-power m small = let all = counted m 63 0 in omega (arith, all, small)
