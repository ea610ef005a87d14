-- The definitions of the field of 2^31 - 1 elements at worked examples.
use Rattle.std.specs.Prelude.{◌≡◌, refl}
use Rattle.std.proofs.Common.{lit<}
use Rattle.circle_field.specs.Circle.{at}
use Rattle.circle_field.specs.Mersenne31.{element, operations, generators}
use Rattle.circle_field.specs.Mersenne31Laws.{same_residue}
use Rattle.circle_field.specs.Mersenne31Powers.{power_number}
use Rattle.circle_field.specs.Mersenne31Circle.{doubled_number}
open operations use {zero, one, add, mul, neg, inv}

-- -1 is the greatest residue
minus_one : neg one ≡ element 2147483646
minus_one = same_residue _ _ refl

-- -1 + 3 is 2
sum_row : add (neg one) (element 3) ≡ element 2
sum_row = same_residue _ _ refl

-- the opposite of 0 is 0
zero_row : neg zero ≡ zero
zero_row = same_residue _ _ refl

-- 123456789 * 987654321 is 121932631112635269
product_row : mul (element 123456789) (element 987654321) ≡ element 2137109934
product_row = same_residue _ _ refl

-- the inverses of 2 and of 5
half_row : inv (element 2) ≡ element 1073741824
half_row = power_number (element 2) 2147483645 1073741824 31 (lit< tt) refl

fifth_row : inv (element 5) ≡ element 858993459
fifth_row = power_number (element 5) 2147483645 858993459 31 (lit< tt) refl

-- the half turn, the quarter turn and the eighth of a turn
gen-1 : generators 1 ≡ at (neg one) zero
gen-1 = doubled_number 30 (at (neg one) zero) refl

gen-2 : generators 2 ≡ at zero (neg one)
gen-2 = doubled_number 29 (at zero (neg one)) refl

gen-3 : generators 3 ≡ at (element 32768) (element 2147450879)
gen-3 = doubled_number 28 (at (element 32768) (element 2147450879)) refl
