-- What the bytes of a text stand for.
use Rattle.std.specs.Prelude.{◌≡◌, ℕ, ◌≤◌, ◌++◌, false, List, Some, IsUtf8, codes}
use Rattle.circle_json.specs.Form.{Form}
use Rattle.circle_json.specs.declared.error.JsonError.{JsonError}
use Rattle.circle_json.specs.declared.error.JsonError.TheVariants.{Memory}
use Rattle.serde_json.specs.Data.{Data, depth}
use Rattle.serde_json.specs.Read.{read}
use Rattle.serde_json.specs.Written.{compact_text, has_float}

-- the bytes are UTF-8, and a JSON text of the value
pub record IsJsonOf (text : List ℕ) (value : Data) : Type 0 where
  pub utf8 : IsUtf8 text
  pub is : read text ≡ Some value

-- they are a JSON text of no value
abbrev pub IsNoJson : List ℕ → Type 0
IsNoJson text = (value : Data) → ¬ IsJsonOf text value

-- the value nests no deeper than this and has no float, so that its compact text is known
abbrev pub IsPlain : ℕ → Data → Type 0
IsPlain n value = (depth value ≤ n) × (has_float value ≡ false)

-- they are the value's compact text, which is a JSON text of it, and a newline
pub record IsJsonLine (value : Data) (line : List ℕ) : Type 0 where
  pub is : line ≡ compact_text value ++ codes "\n"
  pub json : IsJsonOf (compact_text value) value

module _ {Input : Type 0} (form : Form Input) where
  -- they are a JSON text of a value that stands for the input
  pub record IsTextOf (text : List ℕ) (input : Input) : Type 0 where
    pub value : Data
    pub json : IsJsonOf text value
    pub reads : form.reads value input

  -- they stand for an input that is so
  abbrev pub StandsFor : (Input → Type 0) → List ℕ → Type 0
  StandsFor Is text = (input : Input) × (IsTextOf text input × Is input)

  -- they stand for no input
  abbrev pub StandsForNone : List ℕ → Type 0
  StandsForNone text = (input : Input) → ¬ IsTextOf text input

  -- they are a JSON text of a value that the form refuses for this reason, and so of no input; want
  -- of memory is no such reason
  pub record IsUnfit (text : List ℕ) (error : JsonError) : Type 0 where
    pub value : Data
    pub json : IsJsonOf text value
    pub refuses : form.refuses value error
    pub none : StandsForNone text
    pub reported : ¬ (error ≡ Memory)

  -- they are the line of the value that the input is written as, and that stands for the input
  pub record IsLineOf (input : Input) (line : List ℕ) : Type 0 where
    pub written : IsJsonLine (form.written input) line
    pub reads : form.reads (form.written input) input
