-- The steps that the calls of a transcript play.
use Rattle.std.specs.Prelude.{ℕ, List}
use Rattle.circle_challenger.specs.declared.interaction.Hierarchy.TheVariants.{Atomic}
use Rattle.circle_challenger.specs.declared.interaction.Kind.TheVariants.{Message, Challenge, Pow}
use Rattle.circle_challenger.specs.declared.interaction.ValueType.TheVariants.{Algebra, Opaque}
use Rattle.circle_challenger.specs.declared.interaction.ValueType.TheVariants.{Bits}
use Rattle.circle_challenger.specs.declared.interaction.Length.TheVariants.{Scalar, Fixed}
use Rattle.circle_challenger.specs.Step.{Step, step}

-- one element of an algebra of this degree is absorbed
abbrev pub element_message : ℕ → List ℕ → Step
element_message degree label = step Atomic Message (Algebra degree) label Scalar

-- a fixed number of elements is absorbed
abbrev pub elements_message : ℕ → List ℕ → ℕ → Step
elements_message degree label count = step Atomic Message (Algebra degree) label (Fixed count)

-- a value is absorbed as it is
abbrev pub opaque_message : List ℕ → Step
opaque_message label = step Atomic Message Opaque label Scalar

-- a witness of a proof of work is absorbed, at a difficulty of `bits` bits
abbrev pub pow_step : List ℕ → ℕ → Step
pow_step label bits = step Atomic Pow (Algebra 1) label (Fixed bits)

-- an element of an algebra of this degree is drawn
abbrev pub element_challenge : ℕ → List ℕ → Step
element_challenge degree label = step Atomic Challenge (Algebra degree) label Scalar

-- `count` numbers of `width` bits are drawn
abbrev pub numbers_challenge : List ℕ → ℕ → ℕ → Step
numbers_challenge label width count = step Atomic Challenge (Bits width) label (Fixed count)
