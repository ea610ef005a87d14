-- The prime field of 127 elements.
use Rattle.std.specs.Prelude.{ℕ, ◌+◌, ◌*◌, ◌-◌, ◌%◌, ◌^◌, ◌<◌}
use Rattle.std.proofs.Common.{zero, suc, lit<}
use Rattle.std.proofs.Math.Nat.{mod-lt}
use Rattle.test_quotient.specs.declared.mersenne7.Mersenne7.{Mersenne7}
use Rattle.circle_field.specs.Field.{FieldOps}
use Rattle.circle_field.specs.Circle.{Coordinates, at, plus}

-- the number of elements, the prime 2^7 - 1
abbrev pub order : ℕ
order = 127

-- the number below the order that stands for the element
abbrev pub residue : Mersenne7 → ℕ
residue a = a.value

pub reduced-below : (n : ℕ) → n % order < order
reduced-below n = mod-lt n (lit< tt)

-- the element of the number n, which is n modulo the order
abbrev pub element : ℕ → Mersenne7
element n = record { value = n % order; below_order = reduced-below n }

-- the field's operations: sums, products and opposites of residues, modulo the order, and inverses
-- as powers
abbrev pub operations : FieldOps Mersenne7
operations = record {
  zero = element 0;
  one = element 1;
  add = λ a b. element (residue a + residue b);
  mul = λ a b. element (residue a * residue b);
  neg = λ a. element (order - residue a);
  inv = λ a. element (residue a ^ (order - 2));
}

-- the point q, n times added to itself
abbrev pub doubled_times : ℕ → Coordinates Mersenne7 → Coordinates Mersenne7
doubled_times zero q = q
doubled_times (suc n) q = doubled_times n (plus operations q q)

-- a point of order 2^n: the point of order 2^7 below, doubled 7 - n times
abbrev pub generators : ℕ → Coordinates Mersenne7
generators n = doubled_times (7 - n) (at (element 2) (element 39))
