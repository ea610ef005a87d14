-- The challenger over SHA-256 as functions of its state, a list of 32 bytes.
use Rattle.std.specs.Prelude.{ℕ, Bool, Option, option_map, ◌%◌, ◌^◌, ◌<◌, List, ◌∷◌, ◌++◌, take}
use Rattle.std.specs.Int.{w64, from_be_bytes}
use Rattle.std.proofs.Math.Nat.{mod-lt}
use Rattle.std.proofs.lemmas.Nat.{pow_pos}
use Rattle.sha2.specs.Sha256.{sha256}
use Rattle.circle_field.specs.declared.mersenne31.Mersenne31.{Mersenne31}
use Rattle.circle_field.specs.Mersenne31.{element, order}
use Rattle.circle_field.specs.Bytes.{bytes}
use Rattle.circle_challenger.specs.Grinding.{passes}
use Rattle.circle_challenger.specs.Least.{least}

-- the state after bytes were absorbed
abbrev pub absorbed : List ℕ → List ℕ → List ℕ
absorbed s bytes = sha256 (0 ∷ s ++ bytes)

-- what is squeezed out of the state
abbrev pub squeezed : List ℕ → List ℕ
squeezed s = sha256 (1 ∷ s)

-- the state after that
abbrev pub after_squeeze : List ℕ → List ℕ
after_squeeze s = sha256 (2 ∷ s)

-- the first eight bytes of what is squeezed out, as a number, the greatest first
abbrev pub number_of : List ℕ → ℕ
number_of s = from_be_bytes w64 (take 8 (squeezed s))

-- the element that is drawn: that number modulo the order
abbrev pub sampled_element : List ℕ → Mersenne31
sampled_element s = element (number_of s)

-- the bits that are drawn: that number modulo 2^bits
abbrev pub sampled_number : List ℕ → ℕ → ℕ
sampled_number s bits = number_of s % 2 ^ bits

pub number-below : (s : List ℕ) (bits : ℕ) → sampled_number s bits < 2 ^ bits
number-below s bits = mod-lt (number_of s) (pow_pos bits)

-- the state after an element was absorbed
abbrev pub absorbed_element : List ℕ → Mersenne31 → List ℕ
absorbed_element s x = absorbed s (bytes x)

-- whether the element of the number n passes at the difficulty
abbrev pub number_passes : List ℕ → ℕ → ℕ → Bool
number_passes s bits n = passes absorbed_element sampled_number s bits (element n)

-- the least element from 0 up that passes
abbrev pub least_witness : List ℕ → ℕ → Option Mersenne31
least_witness s bits = option_map element (least (number_passes s bits) order)
