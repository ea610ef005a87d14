-- How the values of a type stand in JSON.
use Rattle.std.specs.Prelude.{◌≡◌, ℕ, map, Result, Vec}
use Rattle.std.specs.declared.alloc.Global.{Global}
use Rattle.std.proofs.Common.{ap}
use Rattle.circle_json.specs.declared.error.JsonError.{JsonError}
use Rattle.circle_json.specs.declared.error.JsonError.TheVariants.{Memory}
use Rattle.circle_json.specs.Values.{IsRead, IsRefused, ReadsArray, RefusesArray, SameItems}
use Rattle.circle_json.specs.Values.{count_of, count_written}
use Rattle.circle_json.specs.FormFacts.{read_one, refused_others, array_reads_one}
use Rattle.circle_json.specs.FormFacts.{array_refuses_others, items_written_alike}
use Rattle.serde_json.specs.Data.{Data, array}
use Rattle.serde_json.specs.View.{items_of}

-- what a value is written as, what it is read of and why there is none, with the laws of these
pub record Form (T : Type 0) : Type 1 where
  -- two values are the same
  pub same : T → T → Type 0
  pub written : T → Data
  -- the JSON value is of the form, and stands for the value
  pub reads : Data → T → Type 0
  -- the JSON value isn't of the form, for this reason, or memory may be refused
  pub refuses : Data → JsonError → Type 0
  -- a JSON value stands for one value at most
  pub reads_one : (value : Data) (x y : T) → reads value x → reads value y → same x y
  -- what is the same is written alike
  pub writes_same : (x y : T) → same x y → written x ≡ written y
  -- what stands for a value isn't refused, but for want of memory
  pub refuses_others : (value : Data) (x : T) (error : JsonError) → reads value x →
      refuses value error → error ≡ Memory

-- what a function of the JSON value tells, and is told of one value alone
abbrev pub told_form : {T A : Type 0} (of : Data → Result A JsonError) (shown : T → A) →
    (A → Data) → ((x y : T) → shown x ≡ shown y → x ≡ y) → Form T
told_form of shown write one = record {
  same = λ x y. x ≡ y;
  written = λ x. write (shown x);
  reads = IsRead of shown;
  refuses = IsRefused of;
  reads_one = λ value x y p q. one x y (read_one of shown value x y p q);
  writes_same = λ x y e. ap (λ z. write (shown z)) e;
  refuses_others = refused_others of shown;
}

-- an array of the forms of the items
abbrev pub list_form : {T : Type 0} → Form T → Form (Vec T Global)
list_form form = record {
  same = λ v w. SameItems form.same v.items w.items;
  written = λ v. array (items_of (map form.written v.items));
  reads = λ value v. ReadsArray form.reads value v.items;
  refuses = RefusesArray form.refuses;
  reads_one = λ value v w. array_reads_one form.same form.reads form.reads_one value v.items
      w.items;
  writes_same = λ v w. items_written_alike form.same form.written form.writes_same v.items w.items;
  refuses_others = λ value v. array_refuses_others form.reads form.refuses form.refuses_others value
      v.items;
}

-- a whole number below 2^64
abbrev pub count_form : Form ℕ
count_form = told_form count_of (λ n. n) count_written (λ m n same. same)
