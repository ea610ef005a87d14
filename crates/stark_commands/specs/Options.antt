-- The form of what may be missing.
use Rattle.std.specs.Prelude.{◌≡◌, Option, Some, None}
use Rattle.std.proofs.Common.{refl}
use Rattle.circle_json.specs.declared.error.JsonError.{JsonError}
use Rattle.circle_json.specs.declared.error.JsonError.TheVariants.{Memory}
use Rattle.circle_json.specs.Form.{Form}
use Rattle.serde_json.specs.Data.{Data, null}

-- both are missing, or both are there and the same
abbrev pub SameOption : {T : Type 0} → (T → T → Type 0) → Option T → Option T → Type 0
SameOption Same None None = Unit {0}
SameOption Same None (Some y) = ⊥
SameOption Same (Some x) None = ⊥
SameOption Same (Some x) (Some y) = Same x y

abbrev pub option_written : {T : Type 0} → (T → Data) → Option T → Data
option_written write None = null
option_written write (Some x) = write x

-- it is there, and the JSON value stands for it
abbrev pub ReadsSome : {T : Type 0} → (Data → T → Type 0) → Data → Option T → Type 0
ReadsSome Reads value None = ⊥
ReadsSome Reads value (Some x) = Reads value x

module _ {T : Type 0} (form : Form T) where
  pub some_read_one : (value : Data) (x y : Option T) → ReadsSome form.reads value x →
      ReadsSome form.reads value y → SameOption form.same x y
  some_read_one value None y p q = absurd p
  some_read_one value (Some x) None p q = absurd q
  some_read_one value (Some x) (Some y) p q = form.reads_one value x y p q

  pub options_alike : (x y : Option T) → SameOption form.same x y → option_written form.written x
      ≡ option_written form.written y
  options_alike None None same = refl
  options_alike None (Some y) same = absurd same
  options_alike (Some x) None same = absurd same
  options_alike (Some x) (Some y) same = form.writes_same x y same

  pub some_refuses_others : (value : Data) (x : Option T) (error : JsonError) →
      ReadsSome form.reads value x → form.refuses value error → error ≡ Memory
  some_refuses_others value None error p r = absurd p
  some_refuses_others value (Some x) error p r = form.refuses_others value x error p r

-- what is there, by its own form
abbrev pub some_form : {T : Type 0} → Form T → Form (Option T)
some_form form = record {
  same = SameOption form.same;
  written = option_written form.written;
  reads = ReadsSome form.reads;
  refuses = form.refuses;
  reads_one = some_read_one form;
  writes_same = options_alike form;
  refuses_others = some_refuses_others form;
}
