-- A field, as its operations and their laws.
use Rattle.std.specs.Prelude.{◌≡◌, ◌≢◌, ℕ}
use Rattle.std.proofs.Common.{zero, suc}

-- the operations of a field
pub record FieldOps (F : Type 0) : Type 0 where
  pub zero : F
  pub one : F
  pub add : F → F → F
  pub mul : F → F → F
  pub neg : F → F
  pub inv : F → F

-- the laws of a commutative ring
pub record RingLaws {F : Type 0} (k : FieldOps F) : Type 0 where
  pub add_assoc : (a b c : F) → k.add (k.add a b) c ≡ k.add a (k.add b c)
  pub add_comm : (a b : F) → k.add a b ≡ k.add b a
  pub zero_add : (a : F) → k.add k.zero a ≡ a
  pub neg_add : (a : F) → k.add (k.neg a) a ≡ k.zero
  pub mul_assoc : (a b c : F) → k.mul (k.mul a b) c ≡ k.mul a (k.mul b c)
  pub mul_comm : (a b : F) → k.mul a b ≡ k.mul b a
  pub one_mul : (a : F) → k.mul k.one a ≡ a
  pub mul_add : (a b c : F) → k.mul a (k.add b c) ≡ k.add (k.mul a b) (k.mul a c)

-- the laws of a field in which 2 is not 0
pub record FieldLaws {F : Type 0} (k : FieldOps F) : Type 0 where
  pub ring : RingLaws k
  pub mul_inv : (a : F) → a ≢ k.zero → k.mul a (k.inv a) ≡ k.one
  pub two_nonzero : k.add k.one k.one ≢ k.zero

module _ {F : Type 0} (k : FieldOps F) where
  -- n as an element: the sum of n ones
  abbrev pub of_nat : ℕ → F
  of_nat zero = k.zero
  of_nat (suc n) = k.add k.one (of_nat n)

  -- a^n: the product of n times a
  abbrev pub nth_power : F → ℕ → F
  nth_power a zero = k.one
  nth_power a (suc n) = k.mul a (nth_power a n)

  -- 2 as an element
  abbrev pub two : F
  two = k.add k.one k.one

  -- a - b
  abbrev pub sub : F → F → F
  sub a b = k.add a (k.neg b)

-- a map of fields that keeps sums, products, opposites, 0 and 1, and maps different elements to
-- different ones
pub record IsEmbedding {F E : Type 0} (k : FieldOps F) (l : FieldOps E)
    (embed : F → E) : Type 0 where
  pub zero : embed k.zero ≡ l.zero
  pub one : embed k.one ≡ l.one
  pub add : (a b : F) → embed (k.add a b) ≡ l.add (embed a) (embed b)
  pub mul : (a b : F) → embed (k.mul a b) ≡ l.mul (embed a) (embed b)
  pub neg : (a : F) → embed (k.neg a) ≡ l.neg (embed a)
  pub injective : (a b : F) → embed a ≡ embed b → a ≡ b
