-- Powers in the field of 2^31 - 1 elements.
use Rattle.std.specs.Prelude.{◌≡◌, ◌≢◌, ℕ, ◌+◌, ◌*◌, ◌%◌, ◌^◌, ◌<◌, refl}
use Rattle.std.proofs.Common.{zero, suc, sym, ◌∙◌, ap, arith, lit<}
use Rattle.std.proofs.lemmas.Nat.{mul-mod, pow-add, pow-mod}
use Rattle.std.proofs.Math.Nat.{mod-mod, pow-zero, pow-suc, mul-zero, mul-suc, one-mul}
use Rattle.circle_field.specs.declared.mersenne31.Mersenne31.{Mersenne31}
use Rattle.circle_field.specs.Field.{nth_power}
use Rattle.circle_field.specs.FastPowers.{fast_power, fast_power-is}
use Rattle.circle_field.specs.Fermat.{fermat}
use Rattle.circle_field.specs.Mersenne31.{order, residue, element, power, operations}
use Rattle.circle_field.specs.Mersenne31Prime.{order_prime}
use Rattle.circle_field.specs.Mersenne31Laws.{same_residue, residue_reduced, residue_nonzero}

-- a power of a power of numbers
pow-mul : (x m n : ℕ) → (x ^ m) ^ n ≡ x ^ (m * n)
pow-mul x m zero = pow-zero (x ^ m) ∙ sym (pow-zero x) ∙ ap (λ k. x ^ k) (sym (mul-zero m))
pow-mul x m (suc n) =
    pow-suc (x ^ m) n ∙ ap (λ y. y * x ^ m) (pow-mul x m n) ∙ sym (pow-add x (m * n) m)
    ∙ ap (λ k. x ^ k) (sym (mul-suc m n))

pub power-zero : (a : Mersenne31) → power a 0 ≡ element 1
unfolding power
power-zero a = ap element (pow-zero (residue a))

pub power-one : (a : Mersenne31) → power a 1 ≡ a
unfolding power
power-one a =
    let e : residue a ^ 1 ≡ residue a =
    pow-suc (residue a) 0 ∙ ap (λ y. y * residue a) (pow-zero (residue a))
    ∙ one-mul (residue a) in
    same_residue _ _ (ap (λ y. y % order) e ∙ residue_reduced a)

pub power-+ : (a : Mersenne31) (m n : ℕ) → operations.mul (power a m) (power a n) ≡ power a (m + n)
unfolding power
power-+ a m n =
    same_residue _ _
    (sym (mul-mod (residue a ^ m) (residue a ^ n) order)
    ∙ ap (λ y. y % order) (sym (pow-add (residue a) m n)))

pub power-* : (a : Mersenne31) (m n : ℕ) → power (power a m) n ≡ power a (m * n)
unfolding power
power-* a m n =
    same_residue _ _
    (pow-mod (residue a ^ m) n order ∙ ap (λ y. y % order) (pow-mul (residue a) m n))

-- the n-th power is the product of n times a
pub nth_power-is : (a : Mersenne31) (n : ℕ) → nth_power operations a n ≡ power a n
nth_power-is a zero = sym (power-zero a)
nth_power-is a (suc n) =
    let e : 1 + n ≡ suc n = omega arith in
    ap (operations.mul a) (nth_power-is a n)
    ∙ ap (λ x. operations.mul x (power a n)) (sym (power-one a)) ∙ power-+ a 1 n ∙ ap (power a) e

-- the power of the order less 1 is 1, unless the element is 0
pub power-fermat : (a : Mersenne31) (n : ℕ) → suc n ≡ order → a ≢ element 0 → power a n ≡ element 1
unfolding power
power-fermat a n e h =
    same_residue _ _ (fermat order n order_prime e (residue a) (residue_nonzero a h))

pub nth_power-fermat : (a : Mersenne31) (n : ℕ) → suc n ≡ order → a ≢ element 0 →
    nth_power operations a n ≡ element 1
nth_power-fermat a n e h = nth_power-is a n ∙ power-fermat a n e h

-- a power by what numbers compute to
pub power_number : (a : Mersenne31) (n v steps : ℕ) → n < 2 ^ steps →
    fast_power order steps 1 (residue a) n ≡ v → power a n ≡ element v
unfolding power
power_number a n v steps h e =
    let whole : residue a ^ n % order ≡ v =
    ap (λ y. y % order) (sym (one-mul (residue a ^ n)))
    ∙ sym (fast_power-is order steps 1 (residue a) n h) ∙ e in
    same_residue _ _ (sym (mod-mod (residue a ^ n) order) ∙ ap (λ y. y % order) whole)

-- a cube's power is a power of three times the exponent
cube_power : (b : Mersenne31) (n : ℕ) →
    power (operations.mul b (operations.mul b b)) n ≡ power b (3 * n)
cube_power b n =
    let square : operations.mul b b ≡ power b 2 =
    ap (λ x. operations.mul x x) (sym (power-one b)) ∙ power-+ b 1 1 in
    let cube : operations.mul b (operations.mul b b) ≡ power b 3 =
    ap (operations.mul b) square ∙ ap (λ x. operations.mul x (power b 2)) (sym (power-one b))
    ∙ power-+ b 1 2 in
    ap (λ x. power x n) cube ∙ power-* b 3 n

-- 5 is not the cube of an element
pub five_is_no_cube : (b : Mersenne31) → operations.mul b (operations.mul b b) ≢ element 5
five_is_no_cube b h =
    let nonzero : b ≢ element 0 = λ z.
    let e : element 5 ≡ element 0 = sym h ∙ ap (λ x. operations.mul x (operations.mul x x)) z in
    let clash : ◌≡◌ {A = ℕ} 5 0 = ap residue e in
    cc in
    let left : power (element 5) 715827882 ≡ element 1513477735 =
    power_number (element 5) 715827882 1513477735 30 (lit< tt) refl in
    let right : power (element 5) 715827882 ≡ element 1 =
    ap (λ x. power x 715827882) (sym h) ∙ cube_power b 715827882
    ∙ power-fermat b 2147483646 refl nonzero in
    let clash : ◌≡◌ {A = ℕ} 1513477735 1 = ap residue (sym left ∙ right) in
    cc
