-- Members of objects, items of arrays, pairs of elements, and rows of them.
use Rattle.std.specs.Prelude.{◌≡◌, ℕ, List, [], ◌∷◌, map, Some, None, Result, Ok, Err, codes}
use Rattle.std.proofs.Common.{◌∙◌, ap}
use Rattle.circle_field.specs.Mersenne31.{residue}
use Rattle.circle_field.specs.Mersenne31Laws.{same_residue}
use Rattle.circle_field.specs.declared.mersenne31.Mersenne31.{Mersenne31}
use Rattle.circle_json.specs.declared.error.JsonError.{JsonError}
use Rattle.circle_json.specs.declared.error.JsonError.TheVariants.{MissingKey, WrongKind}
use Rattle.circle_json.specs.Form.{Form, told_form}
use Rattle.circle_json.specs.Values.{count_written, residue_of, residues_written, in_front}
use Rattle.serde_json.specs.Data.{Data, null, boolean, number, string, array, object}
use Rattle.serde_json.specs.Data.{Items, no_items, item, no_members, member}
use Rattle.serde_json.specs.Find.{as_array, get}
use Rattle.serde_json.specs.View.{items_of}

-- the residues of exactly two elements
abbrev pub pair_of_items : Items → Result (List ℕ) JsonError
pair_of_items no_items = Err WrongKind
pair_of_items (item a no_items) = Err WrongKind
pair_of_items (item a (item b no_items)) = in_front (residue_of a) (in_front (residue_of b) (Ok []))
pair_of_items (item a (item b (item c rest))) = Err WrongKind

abbrev pub pair_of : Data → Result (List ℕ) JsonError
pair_of null = Err WrongKind
pair_of (boolean _) = Err WrongKind
pair_of (number _) = Err WrongKind
pair_of (string _) = Err WrongKind
pair_of (array items) = pair_of_items items
pair_of (object _) = Err WrongKind

-- the member of an object with this key, and that it has none
abbrev pub IsPart : List ℕ → Data → Data → Type 0
IsPart key value part = get key value ≡ Some part

abbrev pub IsMissing : List ℕ → Data → JsonError → Type 0
IsMissing key value error = (get key value ≡ None) × (error ≡ MissingKey)

-- the items of an array, and that a value is none
abbrev pub HasItems : Data → Items → Type 0
HasItems value items = as_array value ≡ Some items

abbrev pub IsNoArray : Data → JsonError → Type 0
IsNoArray value error = (as_array value ≡ None) × (error ≡ WrongKind)

-- the residues of two elements
abbrev pub pair_residues : Mersenne31 × Mersenne31 → List ℕ
pair_residues pair = residue pair.0 ∷ residue pair.1 ∷ []

pub same_pair : (p q : Mersenne31 × Mersenne31) → pair_residues p ≡ pair_residues q → p ≡ q
same_pair p q e =
    let first : residue p.0 ≡ residue q.0 = cc in
    let second : residue p.1 ≡ residue q.1 = cc in
    ap (λ x. (x, p.1)) (same_residue p.0 q.0 first)
    ∙ ap (λ x. (q.0, x)) (same_residue p.1 q.1 second)

-- an array of exactly two elements
abbrev pub pair_form : Form (Mersenne31 × Mersenne31)
pair_form = told_form pair_of pair_residues residues_written same_pair

-- the JSON that a list of elements is written as, and the object of the rows
abbrev pub row_written : List Mersenne31 → Data
row_written row = array (items_of (map (λ x. count_written (residue x)) row))

abbrev pub rows_written : List (List Mersenne31) → Data
rows_written rows =
    object (member (codes "rows") (array (items_of (map row_written rows))) no_members)
