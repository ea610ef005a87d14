-- The bytes of elements.
use Rattle.std.specs.Prelude.{◌≡◌, ℕ, ◌<◌, ◌^◌, List}
use Rattle.std.specs.Int.{w32, to_be_bytes, from_be_bytes}
use Rattle.std.proofs.Common.{sym, ◌∙◌, ap, arith}
use Rattle.std.proofs.lemmas.Nat.{from_be_bytes-to_be_bytes_4}
use Rattle.circle_field.specs.declared.mersenne31.Mersenne31.{Mersenne31}
use Rattle.circle_field.specs.Mersenne31.{residue, operations}
use Rattle.circle_field.specs.Mersenne31Laws.{same_residue, residue_reduced, residue_of_nat}
use Rattle.circle_field.specs.Field.{of_nat}

-- the four bytes of the residue, the greatest first
abbrev pub bytes : Mersenne31 → List ℕ
bytes a = to_be_bytes w32 (residue a)

-- a residue has 32 bits
residue_small : (a : Mersenne31) → residue a < 2 ^ 32
residue_small a = omega (arith, a.below_order)

-- what the bytes of a residue read back as
read_back : (a : Mersenne31) → from_be_bytes w32 (bytes a) ≡ residue a
read_back a = from_be_bytes-to_be_bytes_4 (residue a) (residue_small a)

-- elements of the same bytes are equal
pub bytes_told_apart : (a b : Mersenne31) → bytes a ≡ bytes b → a ≡ b
bytes_told_apart a b h =
    same_residue a b (sym (read_back a) ∙ ap (from_be_bytes w32) h ∙ read_back b)

-- an element is the sum of as many ones as its residue
pub ones : (a : Mersenne31) → of_nat operations (residue a) ≡ a
ones a = same_residue (of_nat operations (residue a)) a
    (residue_of_nat (residue a) ∙ residue_reduced a)
