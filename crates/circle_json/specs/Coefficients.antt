-- Lists of coefficients, of which one stands for itself.
use Rattle.std.specs.Prelude.{◌≡◌, ℕ, Ok, Bool, true, false, List, [], ◌∷◌, map, Vec, ◌⊎◌}
use Rattle.std.specs.declared.alloc.Global.{Global}
use Rattle.std.proofs.Common.{⊎_elim, refl}
use Rattle.circle_field.specs.declared.cubic.Cubic.{Cubic}
use Rattle.circle_json.specs.declared.error.JsonError.{JsonError}
use Rattle.circle_json.specs.declared.error.JsonError.TheVariants.{Memory}
use Rattle.circle_json.specs.Form.{Form}
use Rattle.circle_json.specs.FormFacts.{array_reads_one, array_refuses_others, items_written_alike}
use Rattle.circle_json.specs.Values.{IsRead, ReadsArray, RefusesArray, SameItems}
use Rattle.circle_json.specs.Values.{coefficient_residues, residues_of, residues_of_items}
use Rattle.serde_json.specs.Data.{Data, null, boolean, number, string, array, object, Items}
use Rattle.serde_json.specs.Data.{no_items, item}
use Rattle.serde_json.specs.View.{items_of}

abbrev pub is_array : Data → Bool
is_array null = false
is_array (boolean _) = false
is_array (number _) = false
is_array (string _) = false
is_array (array _) = true
is_array (object _) = false

abbrev pub begins_as_list : Items → Bool
begins_as_list no_items = true
begins_as_list (item d ds) = is_array d

-- an array that is empty or begins with an array
abbrev pub is_list : Data → Bool
is_list null = false
is_list (boolean _) = false
is_list (number _) = false
is_list (string _) = false
is_list (array items) = begins_as_list items
is_list (object _) = false

-- an array, and no list of arrays
abbrev pub IsFlat : Data → Type 0
IsFlat value = (is_array value ≡ true) × (is_list value ≡ false)

-- one coefficient as itself, every other number of them as their array
abbrev pub coefficients_written : {T : Type 0} → (T → Data) → List T → Data
coefficients_written written [] = array no_items
coefficients_written written (x ∷ []) = written x
coefficients_written written (x ∷ y ∷ ys) = array (items_of (map written (x ∷ y ∷ ys)))

module _ {T : Type 0} (Reads : Data → T → Type 0) where
  -- the list of one that the value stands for
  abbrev pub ReadsOne : Data → List T → Type 0
  ReadsOne value [] = ⊥
  ReadsOne value (x ∷ []) = Reads value x
  ReadsOne value (x ∷ y ∷ ys) = ⊥

  -- as a list, or as the one that it has
  abbrev pub ReadsAs : Bool → Data → List T → Type 0
  ReadsAs true value xs = ReadsArray Reads value xs
  ReadsAs false value xs = ReadsOne value xs

  abbrev pub ReadsCoefficients : Data → List T → Type 0
  ReadsCoefficients value xs = ReadsAs (is_list value) value xs

module _ (Refuses : Data → JsonError → Type 0) where
  abbrev pub RefusesAs : Bool → Data → JsonError → Type 0
  RefusesAs true value error = RefusesArray Refuses value error
  RefusesAs false value error = (error ≡ Memory) ⊎ Refuses value error

  abbrev pub RefusesCoefficients : Data → JsonError → Type 0
  RefusesCoefficients value error = RefusesAs (is_list value) value error

module _ {T : Type 0} (form : Form T) where
  pub coefficients_read_one : (list : Bool) (value : Data) (xs ys : List T) →
      ReadsAs form.reads list value xs → ReadsAs form.reads list value ys →
      SameItems form.same xs ys
  coefficients_read_one true value xs ys p q =
      array_reads_one form.same form.reads form.reads_one value xs ys p q
  coefficients_read_one false value [] ys p q = absurd p
  coefficients_read_one false value (x ∷ []) [] p q = absurd q
  coefficients_read_one false value (x ∷ []) (y ∷ []) p q = (form.reads_one value x y p q, tt)
  coefficients_read_one false value (x ∷ []) (y ∷ z ∷ ys) p q = absurd q
  coefficients_read_one false value (x ∷ w ∷ xs) ys p q = absurd p

  pub coefficients_alike : (xs ys : List T) → SameItems form.same xs ys →
      coefficients_written form.written xs ≡ coefficients_written form.written ys
  coefficients_alike [] [] same = refl
  coefficients_alike [] (y ∷ ys) same = absurd same
  coefficients_alike (x ∷ xs) [] same = absurd same
  coefficients_alike (x ∷ []) (y ∷ []) same = form.writes_same x y same.0
  coefficients_alike (x ∷ []) (y ∷ z ∷ ys) same = absurd same.1
  coefficients_alike (x ∷ w ∷ xs) (y ∷ []) same = absurd same.1
  coefficients_alike (x ∷ w ∷ xs) (y ∷ z ∷ ys) same =
      items_written_alike form.same form.written form.writes_same (x ∷ w ∷ xs) (y ∷ z ∷ ys) same

  pub coefficients_refuse_others : (list : Bool) (value : Data) (xs : List T) (error : JsonError) →
      ReadsAs form.reads list value xs → RefusesAs form.refuses list value error → error ≡ Memory
  coefficients_refuse_others true value xs error p r =
      array_refuses_others form.reads form.refuses form.refuses_others value xs error p r
  coefficients_refuse_others false value [] error p r = absurd p
  coefficients_refuse_others false value (x ∷ []) error p r =
      ⊎_elim (λ memory. memory) (λ one. form.refuses_others value x error p one) r
  coefficients_refuse_others false value (x ∷ y ∷ xs) error p r = absurd p

-- a list is written as its items' array, but for a list of one, which is written as its item
abbrev pub coefficients_form : {T : Type 0} → Form T → Form (Vec T Global)
coefficients_form form = record {
  same = λ v w. SameItems form.same v.items w.items;
  written = λ v. coefficients_written form.written v.items;
  reads = λ value v. ReadsCoefficients form.reads value v.items;
  refuses = RefusesCoefficients form.refuses;
  reads_one = λ value v w.
      coefficients_read_one form (is_list value) value v.items w.items;
  writes_same = λ v w. coefficients_alike form v.items w.items;
  refuses_others = λ value v.
      coefficients_refuse_others form (is_list value) value v.items;
}

-- what begins with an array is no element of the cubic extension
begins_with_number : (items : Items) (x : List ℕ) → residues_of_items items ≡ Ok x →
    begins_as_list items ≡ false
begins_with_number no_items x read = absurd (cc)
begins_with_number (item null ds) x read = refl
begins_with_number (item (boolean _) ds) x read = refl
begins_with_number (item (number _) ds) x read = refl
begins_with_number (item (string _) ds) x read = refl
begins_with_number (item (array _) no_items) x read = absurd (cc)
begins_with_number (item (array _) (item b no_items)) x read = absurd (cc)
begins_with_number (item (array _) (item b (item c no_items))) x read = absurd (cc)
begins_with_number (item (array _) (item b (item c (item d ds)))) x read = absurd (cc)
begins_with_number (item (object _) ds) x read = refl

-- an element of the cubic extension begins with a number
pub residues_flat : (value : Data) (x : Cubic) → IsRead residues_of coefficient_residues value x →
    IsFlat value
residues_flat null x read = absurd (cc)
residues_flat (boolean _) x read = absurd (cc)
residues_flat (number _) x read = absurd (cc)
residues_flat (string _) x read = absurd (cc)
residues_flat (array items) x read = (refl, begins_with_number items _ read)
residues_flat (object _) x read = absurd (cc)
