-- Fermat's little theorem, by the binomial theorem.
use Rattle.std.specs.Prelude.{◌≡◌, ◌≢◌, ℕ, ◌+◌, ◌*◌, ◌-◌, ◌/◌, ◌%◌, ◌^◌, ◌<◌, ◌≤◌, refl}
use Rattle.std.specs.Int.{◌∣◌}
use Rattle.std.proofs.Common.{zero, suc, inl, inr, sym, ◌∙◌, ap, subst, arith}
use Rattle.std.proofs.lemmas.Bool.{cases_lt}
use Rattle.std.proofs.lemmas.Nat.{mul-mod_second}
use Rattle.std.proofs.Math.Nat.{mod-eq_of_lt, mod-eq-zero_of_dvd, mod-add-mod, add-mod-mod}
use Rattle.std.proofs.Math.Nat.{add-zero, pow-suc, pow-zero, mul-zero, div-add-mod', dvd-sub}
use Rattle.std.proofs.Math.Nat.{dvd-mul_left, dvd-mul_right, dvd-mul_right_of_dvd, one-le-pow}
use Rattle.std.proofs.Math.Nat.{one-mul, zero-mod, pow-succ'}
use Rattle.std.proofs.Math.Numerals.{one-add}
use Rattle.circle_field.specs.Primes.{IsPrime, euclid}

-- the number of ways to choose k of n things, by Pascal's triangle
abbrev pub choose : ℕ → ℕ → ℕ
choose zero zero = 1
choose zero (suc k) = 0
choose (suc n) zero = 1
choose (suc n) (suc k) = choose n k + choose n (suc k)

choose_none : (n : ℕ) → choose n zero ≡ 1
choose_none zero = refl
choose_none (suc n) = refl

choose_more : (n k : ℕ) → n < k → choose n k ≡ 0
choose_more zero zero h = absurd (omega arith)
choose_more zero (suc k) h = refl
choose_more (suc n) zero h = absurd (omega arith)
choose_more (suc n) (suc k) h =
    omega (arith, choose_more n k (omega arith), choose_more n (suc k) (omega arith))

choose_all : (n : ℕ) → choose n n ≡ 1
choose_all zero = refl
choose_all (suc n) = omega (arith, choose_all n, choose_more n (suc n) (omega arith))

absorb_start : (n c y : ℕ) → c ≡ 1 → 1 * y ≡ suc n * c → 1 * (1 + y) ≡ suc (suc n) * 1
absorb_start n c y e h = let same : 1 * y ≡ suc n * 1 = h ∙ ap (λ x. suc n * x) e in omega arith

absorb_step : (n k y u v : ℕ) → suc k * (u + v) ≡ suc n * u → suc (suc k) * y ≡ suc n * v →
    suc (suc k) * (u + v + y) ≡ suc (suc n) * (u + v)
absorb_step n k y u v g h = omega arith

-- the absorption identity
absorb : (n k : ℕ) → suc k * choose (suc n) (suc k) ≡ suc n * choose n k
absorb zero zero = refl
absorb zero (suc k) = omega arith
absorb (suc n) zero =
    absorb_start n (choose n zero) (choose (suc n) 1) (choose_none n) (absorb n zero)
absorb (suc n) (suc k) =
    absorb_step n k (choose (suc n) (suc (suc k))) (choose n k) (choose n (suc k)) (absorb n k)
    (absorb n (suc k))

pow-one : (a : ℕ) → a ^ 1 ≡ a
pow-one a = pow-suc a zero ∙ ap (λ x. x * a) (pow-zero a) ∙ one-mul a

-- the first terms of the expansion of (1 + a)^n: those of a^0, .., a^j
abbrev pub expansion : ℕ → ℕ → ℕ → ℕ
expansion n a zero = choose n zero
expansion n a (suc j) = expansion n a j + choose n (suc j) * a ^ suc j

terms_start : (a c d q : ℕ) → q ≡ a → c ≡ 1 → 1 + (c + d) * q ≡ c + d * q + a * c
terms_start a c d q e h = rw (e, h) (omega arith)

terms_step : (a w s c d q r : ℕ) → r ≡ q * a → w ≡ s + c * q + a * s →
    w + (c + d) * r ≡ s + c * q + d * r + a * (s + c * q)
terms_step a w s c d q r e h = rw (e, h) (omega arith)

expansion_step : (n a j : ℕ) →
    expansion (suc n) a (suc j) ≡ expansion n a (suc j) + a * expansion n a j
expansion_step n a zero =
    terms_start a (choose n zero) (choose n 1) (a ^ 1) (pow-one a) (choose_none n)
expansion_step n a (suc j) =
    terms_step a (expansion (suc n) a (suc j)) (expansion n a j) (choose n (suc j))
    (choose n (suc (suc j))) (a ^ suc j) (a ^ suc (suc j))
    (pow-suc a (suc j)) (expansion_step n a j)

terms_end : (a x s t w : ℕ) → x ≡ s → t ≡ 0 → w ≡ s + t + a * s → x * suc a ≡ w
terms_end a x s t w e none h = rw (h, e, none) (omega arith)

-- the binomial theorem
binomial : (n a : ℕ) → suc a ^ n ≡ expansion n a n
binomial zero a = pow-zero (suc a)
binomial (suc n) a =
    let above : choose n (suc n) * a ^ suc n ≡ 0 =
    ap (λ x. x * a ^ suc n) (choose_more n (suc n) (omega arith)) ∙ omega arith in
    pow-suc (suc a) n
    ∙ terms_end a (suc a ^ n) (expansion n a n) (choose n (suc n) * a ^ suc n)
    (expansion (suc n) a (suc n)) (binomial n a) above (expansion_step n a n)

-- a multiple of p does not change the remainder
drop_multiple : (p x y : ℕ) → p ∣ y → (x + y) % p ≡ x % p
drop_multiple p x y h =
    sym (add-mod-mod x y p) ∙ ap (λ z. (x + z) % p) (mod-eq-zero_of_dvd p h)
    ∙ ap (λ z. z % p) (add-zero x)

-- what does not change the remainder is a multiple of p
multiple_dropped : (p u v : ℕ) → (u + v) % p ≡ v % p → p ∣ u
multiple_dropped p u v h =
    let e : (u + v) / p * p - v / p * p ≡ u =
    omega (arith, div-add-mod' (u + v) p, div-add-mod' v p) in
    subst (λ x. p ∣ x) e (dvd-sub p (dvd-mul_left p ((u + v) / p)) (dvd-mul_left p (v / p)))

one_factor_more : (a x w : ℕ) → x ≡ 1 + w → a * w + a ≡ x * a
one_factor_more a x w e = rw e (omega arith)

module _ (p n : ℕ) (prime : IsPrime p) (e : suc n ≡ p) where
  prime_choose : (k : ℕ) → suc k < p → p ∣ choose (suc n) (suc k)
  prime_choose k h =
      let product : p ∣ suc k * choose (suc n) (suc k) =
      subst (λ x. p ∣ x) (ap (λ x. x * choose n k) (sym e) ∙ sym (absorb n k))
      (dvd-mul_right p (choose n k)) in
      let same : suc k % p ≡ suc k = mod-eq_of_lt h in
      euclid p prime (suc k) (choose (suc n) (suc k)) product (λ none. omega arith)

  -- all terms but the first and the last are multiples of p
  inner_terms : (a j : ℕ) → j < p → expansion (suc n) a j % p ≡ 1 % p
  inner_terms a zero h = refl
  inner_terms a (suc j) h =
      drop_multiple p (expansion (suc n) a j) (choose (suc n) (suc j) * a ^ suc j)
      (dvd-mul_right_of_dvd p (prime_choose j h) (a ^ suc j))
      ∙ inner_terms a j (omega arith)

  -- (1 + a)^p is 1 + a^p modulo p
  power_of_next : (a : ℕ) → suc a ^ suc n % p ≡ (1 + a ^ suc n) % p
  power_of_next a =
      let last : suc a ^ suc n ≡ expansion (suc n) a n + a ^ suc n =
      binomial (suc n) a ∙ ap (λ x. expansion (suc n) a n + x * a ^ suc n) (choose_all (suc n))
      ∙ omega arith in
      ap (λ x. x % p) last
      ∙ sym (mod-add-mod (expansion (suc n) a n) p (a ^ suc n))
      ∙ ap (λ x. (x + a ^ suc n) % p) (inner_terms a n (omega arith))
      ∙ mod-add-mod 1 p (a ^ suc n)

  -- a^p is a modulo p
  pub little : (a : ℕ) → a ^ suc n % p ≡ a % p
  little zero = ap (λ x. x % p) (pow-suc zero n ∙ mul-zero (zero ^ n))
  little (suc a) =
      power_of_next a ∙ sym (add-mod-mod 1 (a ^ suc n) p) ∙ ap (λ x. (1 + x) % p) (little a)
      ∙ add-mod-mod 1 a p
      ∙ ap (λ x. x % p) (one-add a)

  -- Fermat's little theorem: a^(p - 1) is 1 modulo p, unless p divides a
  pub fermat : (a : ℕ) → a % p ≢ 0 → a ^ n % p ≡ 1
  fermat a nonzero =
      let above : 1 < p = prime.above_one in
      elim (cases_lt 0 a) [
        | inl some ↦
            let positive : 1 ≤ a ^ n = one-le-pow n a some in
            let next : a ^ n ≡ 1 + (a ^ n - 1) = omega arith in
            let product : a * (a ^ n - 1) + a ≡ a ^ suc n =
            one_factor_more a (a ^ n) (a ^ n - 1) next ∙ sym (pow-suc a n) in
            let multiple : p ∣ a * (a ^ n - 1) =
            multiple_dropped p (a * (a ^ n - 1)) a (ap (λ x. x % p) product ∙ little a) in
            ap (λ x. x % p) next
            ∙ drop_multiple p 1 (a ^ n - 1) (euclid p prime a (a ^ n - 1) multiple nonzero)
            ∙ mod-eq_of_lt above
        | inr none ↦ let nothing : a ≡ 0 = omega arith in
            absurd (nonzero (ap (λ x. x % p) nothing ∙ zero-mod p))
      ]

-- x^(p - 2) is the inverse of x modulo p, unless p divides x
pub inverse_power : (p m : ℕ) → IsPrime p → suc (suc m) ≡ p → (x : ℕ) → x % p ≢ 0 →
    (x * (x ^ m % p)) % p ≡ 1
inverse_power p m prime e x nonzero =
    mul-mod_second x (x ^ m) p ∙ ap (λ y. y % p) (sym (pow-succ' x m))
    ∙ fermat p (suc m) prime e x nonzero
