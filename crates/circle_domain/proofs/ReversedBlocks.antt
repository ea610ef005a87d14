-- Words whose blocks of bits are in the other order: exchanging the halves of longer blocks
-- reverses those.
use Rattle.std.specs.Prelude.{◌≡◌, ℕ, ◌+◌, ◌-◌, ◌*◌, ◌/◌, ◌%◌, ◌^◌, ◌<◌, ◌≤◌, bit_and, bit_or}
use Rattle.std.proofs.Common.{zero, suc, sym, ◌∙◌, ap, arith, lit<}
use Rattle.std.proofs.Math.Nat.{pow-suc, add-mul, mul_assoc, mul_right_comm, mul-le-mul_right}
use Rattle.std.proofs.Math.Nat.{mod-eq_of_lt}
use Rattle.std.proofs.lemmas.Nat.{pow_pos, pow-add, shr-shr, shr_split, shr_high, mod_low}
use Rattle.std.proofs.lemmas.Nat.{mul-add-lt, and_le_r, or_comm, and_mask, and_block, or_block}
use Rattle.std.proofs.lemmas.Nat.{or_shifted}
use Rattle.circle_domain.specs.Ordering.{reversed}
use Rattle.circle_domain.proofs.Reversal.{reversed-below, reversed-add}

-- n blocks of w bits, each with its bits in the other order
reversed_blocks : ℕ → ℕ → ℕ → ℕ
reversed_blocks w zero x = 0
reversed_blocks w (suc n) x = reversed_blocks w n (x / 2 ^ w) * 2 ^ w + reversed w x

-- the lower halves of n blocks of 2 w bits
lower_halves : ℕ → ℕ → ℕ
lower_halves w zero = 0
lower_halves w (suc n) = lower_halves w n * 2 ^ (w + w) + (2 ^ w - 1)

-- the two halves of each block exchanged, the lower ones being those of the mask
abbrev exchanged : ℕ → ℕ → ℕ → ℕ
exchanged w mask y = bit_or (bit_and (y / 2 ^ w) mask) (bit_and y mask * 2 ^ w)

two_blocks : (w a b c : ℕ) → (a * 2 ^ w + b) * 2 ^ w + c ≡ a * 2 ^ (w + w) + (b * 2 ^ w + c)
two_blocks w a b c =
    let p = 2 ^ w in
    let square : a * p * p ≡ a * 2 ^ (w + w) = mul_assoc a p p
    ∙ ap (λ m. a * m) (sym (pow-add 2 w w)) in
    omega (arith, add-mul (a * p) b p, square)

two_blocks-below : (w b c : ℕ) → b < 2 ^ w → c < 2 ^ w → b * 2 ^ w + c < 2 ^ (w + w)
two_blocks-below w b c hb hc = rw (pow-add 2 w w) (mul-add-lt b (2 ^ w) c (2 ^ w) hb hc)

-- the lower halves are what the mask takes
and_lower : (w n a b c : ℕ) → b < 2 ^ w → c < 2 ^ w
    → bit_and ((a * 2 ^ w + b) * 2 ^ w + c) (lower_halves w (suc n))
    ≡ bit_and a (lower_halves w n) * 2 ^ (w + w) + c
unfolding lower_halves
and_lower w n a b c hb hc =
    let ones : 2 ^ w - 1 < 2 ^ (w + w) =
    omega (
      arith,
      pow_pos w,
      two_blocks-below w 0 (2 ^ w - 1) (pow_pos w) (omega (arith, pow_pos w)),
    ) in
    ap (λ m. bit_and m (lower_halves w n * 2 ^ (w + w) + (2 ^ w - 1))) (two_blocks w a b c)
    ∙ and_block (w + w) a (lower_halves w n) (b * 2 ^ w + c) (2 ^ w - 1)
    (two_blocks-below w b c hb hc) ones
    ∙ ap (λ m. bit_and a (lower_halves w n) * 2 ^ (w + w) + m)
    (and_mask (b * 2 ^ w + c) w ∙ mod_low b w c hc)

-- one block of 2 w bits more
exchanged-more : (w n z h l : ℕ) → h < 2 ^ w → l < 2 ^ w
    → exchanged w (lower_halves w (suc n)) ((z * 2 ^ w + h) * 2 ^ w + l)
    ≡ exchanged w (lower_halves w n) z * 2 ^ (w + w) + (l * 2 ^ w + h)
exchanged-more w n z h l hh hl =
    let p = 2 ^ w in
    let q = 2 ^ (w + w) in
    let mask = lower_halves w n in
    let rest : z * p + h ≡ (z / p * p + z % p) * p + h =
    ap (λ m. m * p + h) (sym (shr_split z w)) in
    let high : bit_and (((z * p + h) * p + l) / p) (lower_halves w (suc n)) ≡ bit_and (z / p) mask *
    q + h =
    ap (λ m. bit_and m (lower_halves w (suc n))) (shr_high (z * p + h) w l hl ∙ rest)
    ∙ and_lower w n (z / p) (z % p) h (omega (arith, pow_pos w)) hh in
    let low : bit_and ((z * p + h) * p + l) (lower_halves w (suc n)) * p ≡ bit_and z mask * p * q +
    l * p =
    ap (λ m. m * p) (and_lower w n z h l hh hl) ∙ add-mul (bit_and z mask * q) l p
    ∙ ap (λ m. m + l * p) (mul_right_comm (bit_and z mask) q p) in
    ap (λ m. bit_or m (bit_and ((z * p + h) * p + l) (lower_halves w (suc n)) * p)) high
    ∙ ap (λ m. bit_or (bit_and (z / p) mask * q + h) m) low
    ∙ or_block (w + w) (bit_and (z / p) mask) (bit_and z mask * p) h (l * p)
    (let e : h < q = omega (arith, two_blocks-below w 0 h (pow_pos w) hh) in e)
    (let e : l * p < q = omega (arith, two_blocks-below w l 0 hl (pow_pos w)) in e)
    ∙ ap (λ m. exchanged w mask z * q + m) (or_comm h (l * p) ∙ or_shifted l w h hh)

exchanged-reversed : (w n x : ℕ) → exchanged w (lower_halves w n) (reversed_blocks w (n + n) x)
    ≡ reversed_blocks (w + w) n x
unfolding reversed_blocks lower_halves
exchanged-reversed w zero x =
    let none : bit_and (zero / 2 ^ w) zero ≡ zero = omega (arith, and_le_r (zero / 2 ^ w) zero) in
    ap (λ m. bit_or m (bit_and zero zero * 2 ^ w)) none ∙ omega arith
exchanged-reversed w (suc n) x =
    let p = 2 ^ w in
    let z = reversed_blocks w (n + n) (x / p / p) in
    let twice : suc n + suc n ≡ suc (suc (n + n)) = omega arith in
    ap (λ m. exchanged w (lower_halves w (suc n)) (reversed_blocks w m x)) twice
    ∙ exchanged-more w n z (reversed w (x / p)) (reversed w x) (reversed-below w (x / p))
    (reversed-below w x)
    ∙ ap (λ m. m * 2 ^ (w + w) + (reversed w x * p + reversed w (x / p)))
    (exchanged-reversed w n (x / p / p) ∙ ap (reversed_blocks (w + w) n) (shr-shr x w w))
    ∙ ap (λ m. reversed_blocks (w + w) n (x / 2 ^ (w + w)) * 2 ^ (w + w) + m)
    (sym (reversed-add w w x))

-- blocks of one bit
reversed_bits : (n x : ℕ) → x < 2 ^ n → reversed_blocks 1 n x ≡ x
unfolding reversed_blocks
reversed_bits zero x h = omega arith
reversed_bits (suc n) x h =
    ap (λ m. m * 2 + reversed 1 x) (reversed_bits n (x / 2) (omega (arith, pow-suc 2 n)))
    ∙ omega arith

-- two blocks, exchanged
rotated-reversed : (w x : ℕ) →
    bit_or (reversed_blocks w 2 x / 2 ^ w) (reversed_blocks w 2 x * 2 ^ w % 2 ^ (w + w))
    ≡ reversed (w + w) x
unfolding reversed_blocks
rotated-reversed w x =
    let p = 2 ^ w in
    let h = reversed w (x / p) in
    let l = reversed w x in
    let hl : l < p = reversed-below w x in
    let both : reversed_blocks w 2 x ≡ h * p + l = omega arith in
    let high : reversed_blocks w 2 x / p ≡ h = ap (λ m. m / p) both ∙ shr_high h w l hl in
    let low : reversed_blocks w 2 x * p % 2 ^ (w + w) ≡ l * p =
    ap (λ m. m * p % 2 ^ (w + w)) both
    ∙ ap (λ m. m % 2 ^ (w + w)) (let e : (h * p + l) * p ≡ h * 2 ^ (w + w) + l * p =
    omega (arith, two_blocks w h l 0) in e)
    ∙ mod_low h (w + w) (l * p) (omega (arith, two_blocks-below w l 0 hl (pow_pos w))) in
    ap (λ m. bit_or m (reversed_blocks w 2 x * p % 2 ^ (w + w))) high ∙ ap (bit_or h) low
    ∙ or_comm h (l * p) ∙ or_shifted l w h (reversed-below w (x / p)) ∙ sym (reversed-add w w x)

-- two blocks exchanged, and all but the first bits left out
first_bits : (w n k x y : ℕ) → w + w ≡ n + k → y ≡ reversed_blocks w 2 x →
    bit_or (y / 2 ^ w) (y * 2 ^ w % 2 ^ (w + w)) / 2 ^ k ≡ reversed n x
first_bits w n k x y e blocks =
    ap (λ m. bit_or (m / 2 ^ w) (m * 2 ^ w % 2 ^ (w + w)) / 2 ^ k) blocks
    ∙ ap (λ m. m / 2 ^ k) (rotated-reversed w x ∙ ap (λ m. reversed m x) e ∙ reversed-add n k x)
    ∙ shr_high (reversed n x) k (reversed k (x / 2 ^ n)) (reversed-below k (x / 2 ^ n))

-- the exchange in a word of 64 bits, which loses none
abbrev pub exchanged_64 : ℕ → ℕ → ℕ → ℕ
exchanged_64 w mask y = bit_or (bit_and (y / 2 ^ w) mask) (bit_and y mask * 2 ^ w % 2 ^ 64)

exchanged_64-reversed : (w n x y : ℕ) → lower_halves w n * 2 ^ w < 2 ^ 64 →
    y ≡ reversed_blocks w (n + n) x
    → exchanged_64 w (lower_halves w n) y ≡ reversed_blocks (w + w) n x
exchanged_64-reversed w n x y fits blocks =
    let mask = lower_halves w n in
    let part : bit_and y mask * 2 ^ w ≤ mask * 2 ^ w = mul-le-mul_right (2 ^ w) (and_le_r y mask) in
    ap (bit_or (bit_and (y / 2 ^ w) mask))
    (mod-eq_of_lt (let small : bit_and y mask * 2 ^ w < 2 ^ 64 = omega (arith, part, fits) in
    small))
    ∙ ap (exchanged w mask) blocks ∙ exchanged-reversed w n x

-- a word in blocks of 32 bits, from those of one bit
abbrev pub halves_reversed : ℕ → ℕ
halves_reversed x =
    exchanged_64 16 0xffff_0000_ffff (exchanged_64 8 0xff_00ff_00ff_00ff
    (exchanged_64 4 0x0f0f_0f0f_0f0f_0f0f
    (exchanged_64 2 0x3333_3333_3333_3333 (exchanged_64 1 0x5555_5555_5555_5555 x))))

halves_reversed-is : (x : ℕ) → x < 2 ^ 64 → halves_reversed x ≡ reversed_blocks 32 2 x
unfolding lower_halves
halves_reversed-is x h =
    exchanged_64-reversed 16 2 x _ (lit< tt)
    (exchanged_64-reversed 8 4 x _ (lit< tt)
    (exchanged_64-reversed 4 8 x _ (lit< tt)
    (exchanged_64-reversed 2 16 x _ (lit< tt)
    (exchanged_64-reversed 1 32 x x (lit< tt) (sym (reversed_bits 64 x h))))))

pub word_reversed : (n x : ℕ) → n ≤ 63 → x < 2 ^ 64
    → bit_or (halves_reversed x / 2 ^ 32) (halves_reversed x * 2 ^ 32 % 2 ^ 64) / 2 / 2 ^ (63 - n)
    ≡ reversed n x
word_reversed n x small h =
    shr-shr (bit_or (halves_reversed x / 2 ^ 32) (halves_reversed x * 2 ^ 32 % 2 ^ 64)) 1 (63 - n)
    ∙ first_bits 32 n (1 + (63 - n)) x (halves_reversed x) (omega arith) (halves_reversed-is x h)
