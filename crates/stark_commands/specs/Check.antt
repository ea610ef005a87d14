-- What the command `check` is given, when rows satisfy an AIR, and why an input is refused.
use Rattle.std.specs.Prelude.{◌≡◌, ℕ, ◌≤◌, List, All, length, Option, Some, None, codes}
use Rattle.std.specs.Prelude.{⊤}
use Rattle.std.proofs.Common.{ap}
use Rattle.circle_air.specs.Parts.{Parts, parts_of}
use Rattle.circle_air.specs.Refusal.{refusal}
use Rattle.circle_air.specs.Satisfies.{IsFirstViolation, Satisfies}
use Rattle.circle_commands.specs.Forms.{row_form, rows_form}
use Rattle.circle_commands.specs.Rows.{lists, IsRectangular, row_length}
use Rattle.circle_commit.specs.Matrix.{IsPowerOfTwo}
use Rattle.circle_commit.specs.declared.params.FriParameters.{FriParameters}
use Rattle.circle_field.specs.Mersenne31.{operations}
use Rattle.circle_field.specs.declared.mersenne31.Mersenne31.{Mersenne31}
use Rattle.circle_json.specs.declared.error.JsonError.{JsonError}
use Rattle.circle_json.specs.declared.error.JsonError.TheVariants.{Memory as no_memory}
use Rattle.circle_json.specs.Claims.{parameters_form}
use Rattle.circle_json.specs.Form.{Form}
use Rattle.circle_json.specs.ObjectForm.{fields_read_one, members_alike, object_form}
use Rattle.circle_json.specs.Objects.{Fields, field, none_left, ReadsObject, RefusesObject}
use Rattle.circle_json.specs.Objects.{SameFields, object_written}
use Rattle.serde_json.specs.Data.{Data, object}
use Rattle.serde_json.specs.Find.{get}
use Rattle.stark_commands.specs.Forms.{air_form}
use Rattle.stark_commands.specs.Options.{some_form}
use Rattle.stark_commands.specs.declared.check.Input.{Input}
use Rattle.stark_commands.specs.declared.check.Refusal.{Refusal}
use Rattle.stark_commands.specs.declared.check.Refusal.TheVariants.{Air, RaggedRows}
use Rattle.stark_commands.specs.declared.check.Refusal.TheVariants.{HeightNotPowerOfTwo}
use Rattle.stark_commands.specs.declared.check.Refusal.TheVariants.{PublicValuesMismatch}
use Rattle.stark_commands.specs.declared.check.Refusal.TheVariants.{WidthMismatch, PeriodTooLong}
use Rattle.stark_commands.specs.declared.check.Refusal.TheVariants.{Unsatisfied, Memory}

-- the parts of the AIR, and the rows
abbrev pub parts_given : Input → Parts Mersenne31
parts_given input = parts_of input.air

abbrev pub rows_given : Input → List (List Mersenne31)
rows_given input = lists input.rows.items

module _ (parts : Parts Mersenne31) (rows : List (List Mersenne31)) (public : List Mersenne31) where
  -- the parts make an AIR
  abbrev pub HasAir : Type 0
  HasAir = refusal parts ≡ None

  -- the parts make an AIR, and all rows have one length, which isn't 0
  abbrev pub HasRows : Type 0
  HasRows = HasAir × IsRectangular rows

  -- `HasRows`, and the number of rows is a power of two
  abbrev pub HasHeight : Type 0
  HasHeight = HasRows × IsPowerOfTwo (length rows)

  -- `HasHeight`, and there are as many public values as the AIR has
  abbrev pub HasPublicValues : Type 0
  HasPublicValues = HasHeight × (length public ≡ parts.num_public_values)

  -- `HasPublicValues`, and the rows have the AIR's width
  abbrev pub HasWidth : Type 0
  HasWidth = HasPublicValues × (row_length rows ≡ parts.width)

  -- no period is longer than the trace
  abbrev pub ArePeriodsShort : Type 0
  ArePeriodsShort = All (λ column. length column ≤ length rows) parts.periodic_columns

  -- `HasWidth`, and no period is longer than the trace
  abbrev pub IsFitting : Type 0
  IsFitting = HasWidth × ArePeriodsShort

  -- why a trace is refused, each where no earlier reason holds
  abbrev pub IsRefused : Refusal → Type 0
  IsRefused (Air error) = refusal parts ≡ Some error
  IsRefused RaggedRows = HasAir × (¬ IsRectangular rows)
  IsRefused HeightNotPowerOfTwo = HasRows × (¬ IsPowerOfTwo (length rows))
  IsRefused PublicValuesMismatch = HasHeight × (¬ (length public ≡ parts.num_public_values))
  IsRefused WidthMismatch = HasPublicValues × (¬ (row_length rows ≡ parts.width))
  IsRefused PeriodTooLong = HasWidth × (¬ ArePeriodsShort)
  IsRefused (Unsatisfied violation) =
      IsFitting × IsFirstViolation operations parts rows public violation
  IsRefused Memory = ⊥

-- the AIR is accepted, the trace fits it and satisfies it
pub record IsSatisfied (input : Input) : Type 0 where
  pub fitting : IsFitting (parts_given input) (rows_given input) input.public_values.items
  pub satisfies :
      Satisfies operations (parts_given input) (rows_given input) input.public_values.items

-- why an input is refused
abbrev pub IsUnsatisfied : Input → Refusal → Type 0
IsUnsatisfied input =
    IsRefused (parts_given input) (rows_given input) input.public_values.items

-- the line of rows that satisfy the AIR
abbrev pub satisfied_line : List ℕ
satisfied_line = codes "{\"satisfied\":true}\n"

-- the parameters of a run, if they are there
abbrev pub params_member : Data → Option Data
params_member value = get (codes "params") value

-- the AIR, the public values and the rows
abbrev pub short_fields : Fields Input
short_fields =
    field (codes "air") (λ i. i.air) air_form
    (field (codes "public_values") (λ i. i.public_values) row_form
    (field (codes "rows") (λ i. i.rows) rows_form
    none_left))

-- with the parameters
abbrev pub whole_fields : Fields Input
whole_fields =
    field (codes "air") (λ i. i.air) air_form
    (field (codes "params") (λ i. i.params) (some_form parameters_form)
    (field (codes "public_values") (λ i. i.public_values) row_form
    (field (codes "rows") (λ i. i.rows) rows_form
    none_left)))

-- the members of the input, without the parameters where their key is missing
abbrev pub fields_at : Option Data → Fields Input
fields_at None = short_fields
fields_at (Some _) = whole_fields

-- the parameters that a member stands for, which are missing where it is
abbrev pub ReadsParams : Option Data → Option (FriParameters ⊤) → Type 0
ReadsParams None params = params ≡ None
ReadsParams (Some d) params = (some_form parameters_form).reads d params

abbrev pub RefusesParams : Option Data → JsonError → Type 0
RefusesParams None error = ⊥
RefusesParams (Some d) error = parameters_form.refuses d error

abbrev pub ReadsInput : Option Data → Data → Input → Type 0
ReadsInput None value input = ReadsObject short_fields value input × (input.params ≡ None)
ReadsInput (Some _) value input = ReadsObject whole_fields value input

abbrev pub RefusesInput : Option Data → Data → JsonError → Type 0
RefusesInput at value error = RefusesObject (fields_at at) value error

abbrev pub input_written : Option (FriParameters ⊤) → Input → Data
input_written None input = object_written short_fields input
input_written (Some _) input = object_written whole_fields input

both_none : (x y : Option (FriParameters ⊤)) → x ≡ None → y ≡ None →
    (some_form parameters_form).same x y
both_none None None p q = tt
both_none None (Some y) p q = absurd (cc)
both_none (Some x) y p q = absurd (cc)

pub input_read_one : (at : Option Data) (value : Data) (x y : Input) → ReadsInput at value x →
    ReadsInput at value y → SameFields whole_fields x y
input_read_one None value x y p q =
    let same = fields_read_one short_fields value x y p.0.1 q.0.1 in
    (same.0, (both_none x.params y.params p.1 q.1, same.1))
input_read_one (Some _) value x y p q = fields_read_one whole_fields value x y p.1 q.1

pub input_alike : (m n : Option (FriParameters ⊤)) (x y : Input) →
    (some_form parameters_form).same m n → SameFields whole_fields x y →
    input_written m x ≡ input_written n y
input_alike None None x y e same =
    ap object (members_alike short_fields x y (same.0, same.1.1))
input_alike None (Some _) x y e same = absurd e
input_alike (Some _) None x y e same = absurd e
input_alike (Some _) (Some _) x y e same = ap object (members_alike whole_fields x y same)

pub input_refuse_others : (at : Option Data) (value : Data) (x : Input) (error : JsonError) →
    ReadsInput at value x → RefusesInput at value error → error ≡ no_memory
input_refuse_others None value x error p r =
    (object_form short_fields).refuses_others value x error p.0 r
input_refuse_others (Some _) value x error p r =
    (object_form whole_fields).refuses_others value x error p r

-- an object of the AIR, the public values, the rows and the parameters, which may be missing
abbrev pub input_form : Form Input
input_form = record {
  same = SameFields whole_fields;
  written = λ input. input_written input.params input;
  reads = λ value input. ReadsInput (params_member value) value input;
  refuses = λ value error. RefusesInput (params_member value) value error;
  reads_one = λ value x y. input_read_one (params_member value) value x y;
  writes_same = λ x y same. input_alike x.params y.params x y same.1.0 same;
  refuses_others = λ value x error. input_refuse_others (params_member value) value x error;
}
