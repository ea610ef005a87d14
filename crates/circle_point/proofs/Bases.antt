-- The circle basis, doubled with each further bit of the index.
use Rattle.std.specs.Prelude.{◌≡◌, ℕ, ◌+◌, ◌-◌, ◌*◌, ◌/◌, ◌%◌, ◌^◌, ◌<◌, ◌≤◌, ◌∷◌, ◌++◌, map}
use Rattle.std.specs.List.{range_with_len}
use Rattle.std.proofs.Common.{zero, suc, sym, ◌∙◌, ap, refl, arith, lit<, ⊎_elim}
use Rattle.std.proofs.Math.Nat.{pow-suc, div-eq_of_lt, pow-le-pow_right, mul-add-div}
use Rattle.std.proofs.Math.Nat.{div-div-eq-div-mul}
use Rattle.std.proofs.lemmas.Nat.{pow-add, pow_pos, shr_high}
use Rattle.std.proofs.lemmas.Bool.{cases_lt}
use Rattle.circle_field.specs.Field.{FieldOps, RingLaws}
use Rattle.circle_field.specs.RingFacts.{mul_one}
use Rattle.circle_field.specs.Circle.{Coordinates}
use Rattle.circle_point.specs.Basis.{doubled_x, iterated_x, bit_factor, low_bits_product, x_basis}
use Rattle.circle_point.specs.Basis.{circle_basis, basis_values}

-- a number is below its power of two
below_pow : (n : ℕ) → n < 2 ^ n
below_pow zero = omega arith
below_pow (suc n) = let h : n < 2 ^ n = below_pow n in omega (arith, pow-suc 2 n)

module _ {F : Type 0} {k : FieldOps F} (laws : RingLaws k) where
  -- bits that are 0 give no factor
  zero_bits : (bits more j : ℕ) (x : F) → j < 2 ^ bits → low_bits_product k (bits + more) j x
      ≡ low_bits_product k bits j x
  zero_bits bits zero j x h = let e : bits + 0 ≡ bits = omega arith in
      ap (λ n. low_bits_product k n j x) e
  zero_bits bits (suc more) j x h =
      let e : bits + suc more ≡ suc (bits + more) = omega arith in
      let bound : 2 ^ bits ≤ 2 ^ (bits + more) = let le : bits ≤ bits + more = omega arith in
      pow-le-pow_right (lit< tt) le in
      let none : j / 2 ^ (bits + more) ≡ 0 = let lt : j < 2 ^ (bits + more) =
      omega (arith, bound) in div-eq_of_lt lt in
      ap (λ n. low_bits_product k n j x) e
      ∙ ap
      (λ q. k.mul (low_bits_product k (bits + more) j x)
      (bit_factor k (q % 2) (iterated_x k (bits + more) x))) none
      ∙ mul_one laws _ ∙ zero_bits bits more j x h

  -- the product over any number of bits that covers the index
  x_basis-bits : (bits j : ℕ) (x : F) → j < 2 ^ bits → x_basis k j x ≡ low_bits_product k bits j x
  x_basis-bits bits j x h =
      ⊎_elim
      (λ lt. let e : bits + (j - bits) ≡ j = omega (arith, lt) in
      ap (λ n. low_bits_product k n j x) (sym e) ∙ zero_bits bits (j - bits) j x h)
      (λ le. let e : j + (bits - j) ≡ bits = omega (arith, le) in
      sym (zero_bits j (bits - j) j x (below_pow j)) ∙ ap (λ n. low_bits_product k n j x) e)
      (cases_lt bits j)

  -- with r for a lowest bit more: its factor, and the other bits' at the double's x coordinate
  doubled-bits : (bits i j r : ℕ) (x : F) → i ≡ 2 * j + r → r < 2 →
      low_bits_product k (suc bits) i x ≡ k.mul (low_bits_product k bits j (doubled_x k x))
      (bit_factor k r x)
  doubled-bits zero i j r x e h = let bit : i / 2 ^ 0 % 2 ≡ r = omega (arith, e, h) in
      ap (λ b. k.mul k.one (bit_factor k b x)) bit
  doubled-bits (suc bits) i j r x e h =
      let half : i / 2 ≡ j = omega (arith, e, h) in
      let power : 2 ^ suc bits ≡ 2 * 2 ^ bits = omega (arith, pow-suc 2 bits) in
      let shift : i / 2 ^ suc bits ≡ j / 2 ^ bits = ap (λ d. i / d) power
      ∙ sym (div-div-eq-div-mul i 2 (2 ^ bits)) ∙ ap (λ n. n / 2 ^ bits) half in
      let u = iterated_x k bits (doubled_x k x) in
      let b = bit_factor k (j / 2 ^ bits % 2) u in
      let low = low_bits_product k bits j (doubled_x k x) in
      let last = bit_factor k r x in
      ap (λ p. k.mul p (bit_factor k (i / 2 ^ suc bits % 2) u)) (doubled-bits bits i j r x e h)
      ∙ ap (λ n. k.mul (k.mul low last) (bit_factor k (n % 2) u)) shift
      ∙ laws.mul_assoc low last b ∙ ap (k.mul low) (laws.mul_comm last b)
      ∙ sym (laws.mul_assoc low b last)

  pub x_basis-doubled : (j r : ℕ) (x : F) → r < 2 → x_basis k (2 * j + r) x
      ≡ k.mul (x_basis k j (doubled_x k x)) (bit_factor k r x)
  x_basis-doubled j r x h =
      let less : j < 2 ^ j = below_pow j in
      let below : 2 * j + r < 2 ^ suc j = omega (arith, less, h, pow-suc 2 j) in
      x_basis-bits (suc j) (2 * j + r) x below ∙ doubled-bits j (2 * j + r) j r x refl h

  -- a bit above the others does not change them
  bit-under : (m b i : ℕ) → b < m → (2 ^ m + i) / 2 ^ b % 2 ≡ i / 2 ^ b % 2
  bit-under m b i h =
      let c = 2 ^ (m - suc b) in
      let e : b + suc (m - suc b) ≡ m = omega arith in
      let split : 2 ^ m ≡ 2 ^ b * (2 * c) =
      ap (λ n. 2 ^ n) (sym e) ∙ pow-add 2 b (suc (m - suc b))
      ∙ ap (λ n. 2 ^ b * n)
      (pow-suc 2 (m - suc b) ∙ (let s : c * 2 ≡ 2 * c = omega arith in s)) in
      ap (λ n. (n + i) / 2 ^ b % 2) split ∙ ap (λ n. n % 2) (mul-add-div (pow_pos b) (2 * c) i)
      ∙ omega arith

  under : (m bits i : ℕ) (x : F) → bits ≤ m → low_bits_product k bits (2 ^ m + i) x
      ≡ low_bits_product k bits i x
  under m zero i x h = refl
  under m (suc bits) i x h =
      ap (λ q. k.mul q (bit_factor k ((2 ^ m + i) / 2 ^ bits % 2) (iterated_x k bits x)))
      (under m bits i x (omega arith))
      ∙ ap (λ q. k.mul (low_bits_product k bits i x) (bit_factor k q (iterated_x k bits x)))
      (bit-under m bits i (omega arith))

  -- one more bit of the index
  x_basis-next : (m i : ℕ) (x : F) → i < 2 ^ m → x_basis k (2 ^ m + i) x
      ≡ k.mul (x_basis k i x) (iterated_x k m x)
  x_basis-next m i x h =
      let below : 2 ^ m + i < 2 ^ suc m = omega (arith, pow-suc 2 m) in
      let one : (2 ^ m + i) / 2 ^ m ≡ 1 =
      ap (λ n. (n + i) / 2 ^ m) (let e : 2 ^ m ≡ 1 * 2 ^ m = omega arith in e)
      ∙ shr_high 1 m i h in
      x_basis-bits (suc m) (2 ^ m + i) x below
      ∙ ap
      (λ q. k.mul (low_bits_product k m (2 ^ m + i) x)
      (bit_factor k (q % 2) (iterated_x k m x))) one
      ∙ ap (λ q. k.mul q (iterated_x k m x))
      (under m m i x (omega arith) ∙ sym (x_basis-bits m i x h))

  pub circle_basis-next : (m j : ℕ) (p : Coordinates F) → j < 2 ^ suc m →
      circle_basis k (2 ^ suc m + j) p ≡ k.mul (circle_basis k j p) (iterated_x k m p.x)
  circle_basis-next m j p h =
      let pow = pow-suc 2 m in
      let half : (2 ^ suc m + j) / 2 ≡ 2 ^ m + j / 2 = omega (arith, pow) in
      let bit : (2 ^ suc m + j) % 2 ≡ j % 2 = omega (arith, pow) in
      let low : j / 2 < 2 ^ m = omega (arith, pow) in
      let e = x_basis k (j / 2) p.x in
      let u = iterated_x k m p.x in
      let y = bit_factor k (j % 2) p.y in
      ap (λ n. k.mul (x_basis k n p.x) (bit_factor k ((2 ^ suc m + j) % 2) p.y)) half
      ∙ ap (λ n. k.mul (x_basis k (2 ^ m + j / 2) p.x) (bit_factor k n p.y)) bit
      ∙ ap (λ q. k.mul q y) (x_basis-next m (j / 2) p.x low)
      ∙ laws.mul_assoc e u y ∙ ap (k.mul e) (laws.mul_comm u y) ∙ sym (laws.mul_assoc e y u)

-- lists by index that agree at each index
pub shifted : {X : Type 0} (f h : ℕ → X) (a b n : ℕ) → ((j : ℕ) → j < n → f (a + j) ≡ h (b + j)) →
    map f (range_with_len a n) ≡ map h (range_with_len b n)
shifted f h a b zero e = refl
shifted f h a b (suc n) e =
    let za : a + 0 ≡ a = omega arith in
    let zb : b + 0 ≡ b = omega arith in
    ap (λ x. x ∷ map f (range_with_len (a + 1) n)) (ap f (sym za) ∙ e 0 (omega arith) ∙ ap h zb)
    ∙ ap (λ rest. h b ∷ rest) (shifted f h (a + 1) (b + 1) n (λ j lt.
    ap f (let s : a + 1 + j ≡ a + suc j = omega arith in s) ∙ e (suc j) (omega arith)
    ∙ ap h (let s : b + suc j ≡ b + 1 + j = omega arith in s)))

range-append : {X : Type 0} (f : ℕ → X) (a m n : ℕ) → map f (range_with_len a (m + n))
    ≡ map f (range_with_len a m) ++ map f (range_with_len (a + m) n)
range-append f a zero n =
    let e : 0 + n ≡ n = omega arith in
    let z : a ≡ a + 0 = omega arith in
    ap (λ c. map f (range_with_len a c)) e ∙ ap (λ b. map f (range_with_len b n)) z
range-append f a (suc m) n =
    let e : suc m + n ≡ suc (m + n) = omega arith in
    let z : a + 1 + m ≡ a + suc m = omega arith in
    ap (λ c. map f (range_with_len a c)) e
    ∙ ap (λ rest. f a ∷ rest)
    (range-append f (a + 1) m n
    ∙ ap (λ b. map f (range_with_len (a + 1) m) ++ map f (range_with_len b n)) z)

map-scaled : {X Y : Type 0} (f : ℕ → X) (h : X → Y) (a n : ℕ) → map h (map f (range_with_len a n))
    ≡ map (λ j. h (f j)) (range_with_len a n)
map-scaled f h a zero = refl
map-scaled f h a (suc n) = ap (λ rest. h (f a) ∷ rest) (map-scaled f h (a + 1) n)

-- the basis for one more bit is the basis followed by its products with the next factor
pub basis_values-next : {F : Type 0} {k : FieldOps F} (laws : RingLaws k) (m : ℕ)
    (p : Coordinates F) →
    basis_values k (suc (suc m)) p ≡ basis_values k (suc m) p
    ++ map (λ b. k.mul b (iterated_x k m p.x)) (basis_values k (suc m) p)
basis_values-next {k = k} laws m p =
    let f = λ (j : ℕ). circle_basis k j p in
    let half = 2 ^ suc m in
    let e : 2 ^ suc (suc m) ≡ half + half = omega (arith, pow-suc 2 (suc m)) in
    ap (λ n. map f (range_with_len 0 n)) e ∙ range-append f 0 half half
    ∙ ap (λ rest. map f (range_with_len 0 half) ++ rest)
    (shifted f (λ j. k.mul (circle_basis k j p) (iterated_x k m p.x)) (0 + half) 0 half (λ j h.
    ap f (let s : 0 + half + j ≡ half + j = omega arith in s) ∙ circle_basis-next laws m j p h
    ∙ ap (λ i. k.mul (circle_basis k i p) (iterated_x k m p.x)) (let s : j ≡ 0 + j = omega arith in
    s))
    ∙ sym (map-scaled f (λ b. k.mul b (iterated_x k m p.x)) 0 half))
