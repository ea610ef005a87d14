-- The prime field of 2^31 - 1 elements.
use Rattle.std.specs.Prelude.{ℕ, ◌+◌, ◌*◌, ◌-◌, ◌%◌, ◌^◌, ◌<◌}
use Rattle.std.proofs.Common.{zero, suc, lit<}
use Rattle.std.proofs.Math.Nat.{mod-lt}
use Rattle.circle_field.specs.declared.mersenne31.Mersenne31.{Mersenne31}
use Rattle.circle_field.specs.Field.{FieldOps}
use Rattle.circle_field.specs.Circle.{Coordinates, at, plus}

-- the number of elements, the prime 2^31 - 1
abbrev pub order : ℕ
order = 2147483647

-- the number below the order that stands for the element
abbrev pub residue : Mersenne31 → ℕ
residue a = a.value

-- a remainder is below the order
pub reduced-below : (n : ℕ) → n % order < order
reduced-below n = mod-lt n (lit< tt)

-- the element of the number n, which is n modulo the order
abbrev pub element : ℕ → Mersenne31
element n = record { value = n % order; below_order = reduced-below n }

-- a^n, the element to the power n
unfoldable pub power : Mersenne31 → ℕ → Mersenne31
power a n = element (residue a ^ n)

-- the field's operations: sums, products and opposites of residues, modulo the order, and inverses
-- as powers
abbrev pub operations : FieldOps Mersenne31
operations = record {
  zero = element 0;
  one = element 1;
  add = λ a b. element (residue a + residue b);
  mul = λ a b. element (residue a * residue b);
  neg = λ a. element (order - residue a);
  inv = λ a. power a (order - 2);
}

-- the point q, n times added to itself
abbrev pub doubled_times : ℕ → Coordinates Mersenne31 → Coordinates Mersenne31
doubled_times zero q = q
doubled_times (suc n) q = doubled_times n (plus operations q q)

-- a point of order 2^n: the point of order 2^31 below, doubled 31 - n times
abbrev pub generators : ℕ → Coordinates Mersenne31
generators n = doubled_times (31 - n) (at (element 311014874) (element 1584694829))
