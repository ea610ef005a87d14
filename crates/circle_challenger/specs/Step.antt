-- The steps of a transcript as contracts see them, and their texts.
use Rattle.std.specs.Prelude.{ℕ, ◌<◌, ◌^◌, List, ◌∷◌, ◌++◌, length}
use Rattle.std.specs.Int.{w64, to_be_bytes}
use Rattle.circle_challenger.specs.declared.interaction.Hierarchy.{Hierarchy}
use Rattle.circle_challenger.specs.declared.interaction.Hierarchy.TheVariants.{Atomic}
use Rattle.circle_challenger.specs.declared.interaction.Kind.{Kind}
use Rattle.circle_challenger.specs.declared.interaction.Kind.TheVariants.{Message, Challenge, Pow}
use Rattle.circle_challenger.specs.declared.interaction.ValueType.{ValueType}
use Rattle.circle_challenger.specs.declared.interaction.ValueType.TheVariants.{Algebra, Opaque}
use Rattle.circle_challenger.specs.declared.interaction.ValueType.TheVariants.{Bits}
use Rattle.circle_challenger.specs.declared.interaction.Length.{Length}
use Rattle.circle_challenger.specs.declared.interaction.Length.TheVariants.{Scalar, Fixed}

-- a step: how it stands among the others, what it does, what its values are, their label, and how
-- many
pub record Step : Type 0 where
  pub hierarchy : Hierarchy
  pub kind : Kind
  pub value_type : ValueType
  pub label : List ℕ
  pub size : Length

-- a step from its parts
abbrev pub step : Hierarchy → Kind → ValueType → List ℕ → Length → Step
step hierarchy kind value_type label size = record {
  hierarchy = hierarchy;
  kind = kind;
  value_type = value_type;
  label = label;
  size = size;
}

-- the byte of each choice
abbrev pub hierarchy_byte : Hierarchy → ℕ
hierarchy_byte Atomic = 0

abbrev pub kind_byte : Kind → ℕ
kind_byte Message = 0
kind_byte Challenge = 1
kind_byte Pow = 2

abbrev pub type_byte : ValueType → ℕ
type_byte (Algebra degree) = 0
type_byte Opaque = 1
type_byte (Bits width) = 2

abbrev pub form_byte : Length → ℕ
form_byte Scalar = 0
form_byte (Fixed count) = 1

-- the degree of an algebra, or the number of bits
abbrev pub parameter_of : ValueType → ℕ
parameter_of (Algebra degree) = degree
parameter_of Opaque = 0
parameter_of (Bits width) = width

-- how many values there are
abbrev pub value_count : Length → ℕ
value_count Scalar = 1
value_count (Fixed count) = count

-- a number in eight bytes, the greatest first
unfoldable pub be64 : ℕ → List ℕ
be64 n = to_be_bytes w64 n

-- bytes after their number
abbrev pub counted : List ℕ → List ℕ
counted bytes = be64 (length bytes) ++ bytes

-- a step's text: three bytes for what it is, the parameter, the label, and how many values
unfoldable pub step_text : Step → List ℕ
step_text s =
    (hierarchy_byte s.hierarchy ∷ kind_byte s.kind ∷ type_byte s.value_type ∷ be64
    (parameter_of s.value_type))
    ++ (counted s.label ++ form_byte s.size ∷ be64 (value_count s.size))

-- the numbers of a step have eight bytes
pub record IsWritableStep (s : Step) : Type 0 where
  pub parameter : parameter_of s.value_type < 2 ^ 64
  pub label : length s.label < 2 ^ 64
  pub count : value_count s.size < 2 ^ 64
