-- In the field of 2^31 - 1 elements -1 has no square root.
use Rattle.std.specs.Prelude.{◌≡◌, ◌≢◌, ℕ, ◌*◌, refl}
use Rattle.std.proofs.Common.{sym, ◌∙◌, ap, lit<}
use Rattle.circle_field.specs.declared.mersenne31.Mersenne31.{Mersenne31}
use Rattle.circle_field.specs.Mersenne31.{residue, element, power, operations}
use Rattle.circle_field.specs.Mersenne31Powers.{power-one, power-+, power-*, power-fermat}
use Rattle.circle_field.specs.Mersenne31Powers.{power_number}

-- a square's power is a power of twice the exponent
square_power : (b : Mersenne31) (n : ℕ) → power (operations.mul b b) n ≡ power b (2 * n)
square_power b n =
    let square : operations.mul b b ≡ power b 2 =
    ap (λ x. operations.mul x x) (sym (power-one b)) ∙ power-+ b 1 1 in
    ap (λ x. power x n) square ∙ power-* b 2 n

-- -1 is not the square of an element
pub minus_one_is_no_square : (b : Mersenne31) → operations.mul b b ≢ operations.neg operations.one
minus_one_is_no_square b h =
    let nonzero : b ≢ element 0 = λ z.
    let e : operations.neg operations.one ≡ element 0 = sym h ∙ ap (λ x. operations.mul x x) z in
    let clash : ◌≡◌ {A = ℕ} 2147483646 0 = ap residue e in
    cc in
    let left : power (operations.neg operations.one) 1073741823 ≡ element 2147483646 =
    power_number (operations.neg operations.one) 1073741823 2147483646 30 (lit< tt) refl in
    let right : power (operations.neg operations.one) 1073741823 ≡ element 1 =
    ap (λ x. power x 1073741823) (sym h) ∙ square_power b 1073741823
    ∙ power-fermat b 2147483646 refl nonzero in
    let clash : ◌≡◌ {A = ℕ} 2147483646 1 = ap residue (sym left ∙ right) in
    cc
