-- Bits in the other order, and the permutation between a domain's two orders.
use Rattle.std.specs.Prelude.{◌≡◌, ℕ, ◌+◌, ◌-◌, ◌*◌, ◌/◌, ◌%◌, ◌^◌, ◌<◌, ◌≤◌, ◌⊎◌, nat_eq}
use Rattle.std.specs.Prelude.{if◌then◌else◌}
use Rattle.std.proofs.Common.{zero, suc, sym, ◌∙◌, ap, refl, arith, inl, inr, ⊎_elim}
use Rattle.std.proofs.Math.Nat.{pow-suc, add-mul, mul_assoc, div-eq_of_lt}
use Rattle.std.proofs.lemmas.Nat.{pow-add, row_fits, shr-shr, shr_high}
use Rattle.std.proofs.lemmas.Bool.{cases_eq}
use Rattle.circle_domain.specs.Ordering.{reversed, cfft_index}

-- the last bit of a number
last_bit : (i : ℕ) → (i % 2 ≡ 0) ⊎ (i % 2 ≡ 1)
last_bit i = ⊎_elim inl (λ ne. inr (omega arith)) (cases_eq (i % 2) 0)

pub reversed-below : (n i : ℕ) → reversed n i < 2 ^ n
reversed-below zero i = omega arith
reversed-below (suc n) i =
    let low : reversed n (i / 2) < 2 ^ n = reversed-below n (i / 2) in
    let high : i % 2 * 2 ^ n + 2 ^ n ≤ 2 * 2 ^ n =
    row_fits (i % 2) (2 ^ n) 2 (2 ^ n) (omega arith) (omega arith) in
    omega (arith, pow-suc 2 n)

-- the first bits in the other order, before the others in theirs
pub reversed-add : (m n i : ℕ) → reversed (m + n) i ≡ reversed m i * 2 ^ n + reversed n (i / 2 ^ m)
reversed-add zero n i =
    let whole : i ≡ i / 2 ^ zero = omega arith in
    ap (λ k. reversed k i) (let e : zero + n ≡ n = omega arith in e) ∙ ap (reversed n) whole
    ∙ omega arith
reversed-add (suc m) n i =
    let top : i % 2 * 2 ^ (m + n) ≡ i % 2 * 2 ^ m * 2 ^ n = ap (λ k. i % 2 * k) (pow-add 2 m n)
    ∙ sym (mul_assoc (i % 2) (2 ^ m) (2 ^ n)) in
    let rest : i / 2 / 2 ^ m ≡ i / 2 ^ suc m =
    shr-shr i 1 m ∙ ap (λ k. i / 2 ^ k) (let e : 1 + m ≡ suc m = omega arith in e) in
    ap (λ k. reversed k i) (let e : suc m + n ≡ suc (m + n) = omega arith in e)
    ∙ ap (λ k. i % 2 * 2 ^ (m + n) + k)
    (reversed-add m n (i / 2) ∙ ap (λ k. reversed m (i / 2) * 2 ^ n + reversed n k) rest)
    ∙ omega (arith, top, add-mul (i % 2 * 2 ^ m) (reversed m (i / 2)) (2 ^ n))

-- the first bit is the last one read
pub reversed-last : (n i : ℕ) → reversed (suc n) i ≡ reversed n i * 2 + i / 2 ^ n % 2
reversed-last n i = ap (λ k. reversed k i) (let e : suc n ≡ n + 1 = omega arith in e)
    ∙ reversed-add n 1 i ∙ omega arith

double-pow : (n b : ℕ) → 2 ^ suc n * b ≡ 2 * (2 ^ n * b)
double-pow n b = ap (λ m. m * b) (pow-suc 2 n) ∙ omega arith

-- bits above the n lowest do not count
pub reversed-high : (n b j : ℕ) → reversed n (2 ^ n * b + j) ≡ reversed n j
reversed-high zero b j = refl
reversed-high (suc n) b j =
    let double : 2 ^ suc n * b ≡ 2 * (2 ^ n * b) = double-pow n b in
    let bit : (2 ^ suc n * b + j) % 2 ≡ j % 2 = omega (arith, double) in
    let rest : (2 ^ suc n * b + j) / 2 ≡ 2 ^ n * b + j / 2 = omega (arith, double) in
    ap (λ m. m * 2 ^ n + reversed n ((2 ^ suc n * b + j) / 2)) bit
    ∙ ap (λ m. j % 2 * 2 ^ n + reversed n m) rest
    ∙ ap (λ m. j % 2 * 2 ^ n + m) (reversed-high n b (j / 2))

pub reversed-low : (n i : ℕ) → i < 2 ^ n → reversed (suc n) i ≡ reversed n i * 2
reversed-low n i h =
    let none : i / 2 ^ n ≡ 0 = div-eq_of_lt h in
    reversed-last n i ∙ ap (λ m. reversed n i * 2 + m % 2) none ∙ omega arith

pub reversed-top : (n j : ℕ) → j < 2 ^ n → reversed (suc n) (2 ^ n + j) ≡ reversed n j * 2 + 1
reversed-top n j h =
    let one : (2 ^ n + j) / 2 ^ n ≡ 1 =
    ap (λ m. (m + j) / 2 ^ n) (let e : 2 ^ n ≡ 1 * 2 ^ n = omega arith in e)
    ∙ shr_high 1 n j h in
    let low : reversed n (2 ^ n + j) ≡ reversed n j =
    ap (λ m. reversed n (m + j)) (let e : 2 ^ n ≡ 2 ^ n * 1 = omega arith in e)
    ∙ reversed-high n 1 j in
    reversed-last n (2 ^ n + j) ∙ ap (λ m. reversed n (2 ^ n + j) * 2 + m % 2) one
    ∙ ap (λ m. m * 2 + 1) low

pub reversed-reversed : (n i : ℕ) → i < 2 ^ n → reversed n (reversed n i) ≡ i
reversed-reversed zero i h = omega arith
reversed-reversed (suc n) i h =
    let half : i / 2 < 2 ^ n = omega (arith, pow-suc 2 n) in
    let low : reversed n (i / 2) < 2 ^ n = reversed-below n (i / 2) in
    let turned : i % 2 * 2 ^ n ≡ 2 ^ n * (i % 2) = omega arith in
    let high : reversed n (i % 2 * 2 ^ n + reversed n (i / 2)) ≡ i / 2 =
    ap (λ m. reversed n (m + reversed n (i / 2))) turned
    ∙ reversed-high n (i % 2) (reversed n (i / 2)) ∙ reversed-reversed n (i / 2) half in
    let bit : (i % 2 * 2 ^ n + reversed n (i / 2)) / 2 ^ n ≡ i % 2 =
    shr_high (i % 2) n (reversed n (i / 2)) low in
    reversed-last n (i % 2 * 2 ^ n + reversed n (i / 2))
    ∙ ap (λ m. m * 2 + (i % 2 * 2 ^ n + reversed n (i / 2)) / 2 ^ n % 2) high
    ∙ ap (λ m. i / 2 * 2 + m % 2) bit ∙ omega arith

pub reversed-complement : (n i : ℕ) → i < 2 ^ n → reversed n (2 ^ n - 1 - i)
    ≡ 2 ^ n - 1 - reversed n i
reversed-complement zero i h = omega arith
reversed-complement (suc n) i h =
    let pow = pow-suc 2 n in
    let half : i / 2 < 2 ^ n = omega (arith, pow) in
    let bit : (2 ^ suc n - 1 - i) % 2 ≡ 1 - i % 2 = omega (arith, pow) in
    let rest : (2 ^ suc n - 1 - i) / 2 ≡ 2 ^ n - 1 - i / 2 = omega (arith, pow) in
    let low : reversed n (i / 2) < 2 ^ n = reversed-below n (i / 2) in
    let split : (1 - i % 2) * 2 ^ n + i % 2 * 2 ^ n ≡ 2 ^ n =
    ⊎_elim (λ e. ap (λ m. (1 - m) * 2 ^ n + m * 2 ^ n) e ∙ omega arith)
    (λ e. ap (λ m. (1 - m) * 2 ^ n + m * 2 ^ n) e ∙ omega arith) (last_bit i) in
    ap (λ m. m * 2 ^ n + reversed n ((2 ^ suc n - 1 - i) / 2)) bit
    ∙ ap (λ m. (1 - i % 2) * 2 ^ n + reversed n m) rest
    ∙ ap (λ m. (1 - i % 2) * 2 ^ n + m) (reversed-complement n (i / 2) half)
    ∙ omega (arith, pow, split)

-- the permutation at an even and at an odd place
pub cfft_index-even : (n i : ℕ) → i % 2 ≡ 0 → cfft_index n i ≡ reversed n (i / 2)
cfft_index-even n i e =
    ap (λ b. if nat_eq b 0 then reversed n (i / 2) else reversed n (2 ^ n - 1 - i / 2)) e

pub cfft_index-odd : (n i : ℕ) → i % 2 ≡ 1 → cfft_index n i ≡ reversed n (2 ^ n - 1 - i / 2)
cfft_index-odd n i e =
    ap (λ b. if nat_eq b 0 then reversed n (i / 2) else reversed n (2 ^ n - 1 - i / 2)) e

pub cfft_index-below : (n i : ℕ) → cfft_index n i < 2 ^ n
cfft_index-below n i =
    ⊎_elim (λ e. rw (cfft_index-even n i e) (reversed-below n (i / 2)))
    (λ e. rw (cfft_index-odd n i e) (reversed-below n (2 ^ n - 1 - i / 2))) (last_bit i)

-- an even place goes to an even one, and back
own_inverse_even : (n i : ℕ) → i < 2 ^ suc n → i % 2 ≡ 0 → cfft_index (suc n) (cfft_index (suc n) i)
    ≡ i
own_inverse_even n i h e =
    let half : i / 2 < 2 ^ n = omega (arith, pow-suc 2 n) in
    let there : cfft_index (suc n) i ≡ reversed n (i / 2) * 2 = cfft_index-even (suc n) i e
    ∙ reversed-low n (i / 2) half in
    let middle : reversed n (i / 2) * 2 / 2 ≡ reversed n (i / 2) = omega arith in
    ap (cfft_index (suc n)) there
    ∙ cfft_index-even (suc n) (reversed n (i / 2) * 2) (omega arith)
    ∙ ap (reversed (suc n)) middle
    ∙ reversed-low n (reversed n (i / 2)) (reversed-below n (i / 2))
    ∙ ap (λ m. m * 2) (reversed-reversed n (i / 2) half) ∙ omega arith

-- an odd place goes to an odd one, and back
own_inverse_odd : (n i : ℕ) → i < 2 ^ suc n → i % 2 ≡ 1 → cfft_index (suc n) (cfft_index (suc n) i)
    ≡ i
own_inverse_odd n i h e =
    let pow = pow-suc 2 n in
    let half : i / 2 < 2 ^ n = omega (arith, pow) in
    let low : reversed n (i / 2) < 2 ^ n = reversed-below n (i / 2) in
    let r = 2 ^ n - 1 - reversed n (i / 2) in
    let source : 2 ^ suc n - 1 - i / 2 ≡ 2 ^ n + (2 ^ n - 1 - i / 2) = omega (arith, pow) in
    let there : cfft_index (suc n) i ≡ r * 2 + 1 =
    cfft_index-odd (suc n) i e ∙ ap (reversed (suc n)) source
    ∙ reversed-top n (2 ^ n - 1 - i / 2) (omega arith)
    ∙ ap (λ m. m * 2 + 1) (reversed-complement n (i / 2) half) in
    let back : 2 ^ suc n - 1 - (r * 2 + 1) / 2 ≡ 2 ^ n + reversed n (i / 2) =
    omega (arith, pow, low) in
    ap (cfft_index (suc n)) there
    ∙ cfft_index-odd (suc n) (r * 2 + 1) (omega arith)
    ∙ ap (reversed (suc n)) back
    ∙ reversed-top n (reversed n (i / 2)) low
    ∙ ap (λ m. m * 2 + 1) (reversed-reversed n (i / 2) half) ∙ omega arith

-- the permutation is its own inverse
pub cfft_index-own_inverse : (n i : ℕ) → i < 2 ^ n → cfft_index n (cfft_index n i) ≡ i
cfft_index-own_inverse zero i h = let e : i ≡ 0 = omega arith in
    ap (λ m. cfft_index 0 (cfft_index 0 m)) e ∙ sym e
cfft_index-own_inverse (suc n) i h =
    ⊎_elim (own_inverse_even n i h) (own_inverse_odd n i h) (last_bit i)
