-- How AIRs stand in JSON.
use Rattle.std.specs.Prelude.{◌≡◌, ℕ, List, [], ◌∷◌, Option, Some, None, Result, Ok, Err, codes}
use Rattle.std.specs.Prelude.{map, refl}
use Rattle.std.proofs.Common.{◌∙◌, ap, sym}
use Rattle.circle_air.specs.declared.node.Constraint.{Constraint}
use Rattle.circle_air.specs.declared.node.Node.{Node}
use Rattle.circle_air.specs.declared.node.Node.TheVariants.{Local, Next, Periodic, Public}
use Rattle.circle_air.specs.declared.node.Node.TheVariants.{Constant, Add, Sub, Mul, Neg}
use Rattle.circle_air.specs.declared.node.Place.{Place}
use Rattle.circle_air.specs.declared.node.Place.TheVariants.{Every, First, Last, Transition}
use Rattle.circle_air.specs.declared.parts.AirParts.{AirParts}
use Rattle.circle_json.specs.declared.error.JsonError.{JsonError}
use Rattle.circle_json.specs.declared.error.JsonError.TheVariants.{Memory, WrongKind}
use Rattle.circle_json.specs.ChoiceForm.{another, choice_form}
use Rattle.circle_json.specs.Choices.{Choices, no_choice, choice}
use Rattle.circle_json.specs.Form.{Form, told_form, list_form, count_form}
use Rattle.circle_json.specs.ObjectForm.{object_form}
use Rattle.circle_json.specs.Objects.{Fields, field, none_left}
use Rattle.circle_json.specs.Values.{count_of, count_written}
use Rattle.serde_json.specs.Data.{Data, null, boolean, number, string, array, object}
use Rattle.serde_json.specs.Data.{Items, no_items, item}

-- the names of places
abbrev pub place_name : Place → List ℕ
place_name Every = codes "every"
place_name First = codes "first"
place_name Last = codes "last"
place_name Transition = codes "transition"

-- the text is the name of the place
abbrev pub ReadsPlace : Data → Place → Type 0
ReadsPlace null place = ⊥
ReadsPlace (boolean _) place = ⊥
ReadsPlace (number _) place = ⊥
ReadsPlace (string text) place = text ≡ place_name place
ReadsPlace (array _) place = ⊥
ReadsPlace (object _) place = ⊥

-- no text, or the name of no place
abbrev pub NamesNone : Data → Type 0
NamesNone value = (place : Place) → ¬ ReadsPlace value place

abbrev pub RefusesPlace : Data → JsonError → Type 0
RefusesPlace value error = (error ≡ WrongKind) × NamesNone value

one_place : (x y : Place) → place_name x ≡ place_name y → x ≡ y
one_place Every Every e = refl
one_place Every First e = absurd (another (codes "every") (codes "first") refl e)
one_place Every Last e = absurd (another (codes "every") (codes "last") refl e)
one_place Every Transition e = absurd (another (codes "every") (codes "transition") refl e)
one_place First Every e = absurd (another (codes "first") (codes "every") refl e)
one_place First First e = refl
one_place First Last e = absurd (another (codes "first") (codes "last") refl e)
one_place First Transition e = absurd (another (codes "first") (codes "transition") refl e)
one_place Last Every e = absurd (another (codes "last") (codes "every") refl e)
one_place Last First e = absurd (another (codes "last") (codes "first") refl e)
one_place Last Last e = refl
one_place Last Transition e = absurd (another (codes "last") (codes "transition") refl e)
one_place Transition Every e = absurd (another (codes "transition") (codes "every") refl e)
one_place Transition First e = absurd (another (codes "transition") (codes "first") refl e)
one_place Transition Last e = absurd (another (codes "transition") (codes "last") refl e)
one_place Transition Transition e = refl

pub place_reads_one : (value : Data) (x y : Place) → ReadsPlace value x → ReadsPlace value y → x ≡ y
place_reads_one null x y p q = absurd p
place_reads_one (boolean _) x y p q = absurd p
place_reads_one (number _) x y p q = absurd p
place_reads_one (string text) x y p q = one_place x y (sym p ∙ q)
place_reads_one (array _) x y p q = absurd p
place_reads_one (object _) x y p q = absurd p

-- a place is its name
abbrev pub place_form : Form Place
place_form = record {
  same = λ x y. x ≡ y;
  written = λ place. string (place_name place);
  reads = ReadsPlace;
  refuses = RefusesPlace;
  reads_one = place_reads_one;
  writes_same = λ x y e. ap (λ place. string (place_name place)) e;
  refuses_others = λ value x error p r. absurd (r.1 x p);
}

-- a node, and where it is 0
abbrev pub constraint_fields : Fields Constraint
constraint_fields =
    field (codes "node") (λ c. c.node) count_form
    (field (codes "when") (λ c. c.place) place_form
    none_left)

-- two whole numbers
abbrev pub two_counts : Result ℕ JsonError → Result ℕ JsonError → Result (ℕ × ℕ) JsonError
two_counts (Ok m) (Ok n) = Ok (m, n)
two_counts (Ok m) (Err error) = Err error
two_counts (Err error) other = Err error

-- an array of exactly two whole numbers
abbrev pub counts_of_items : Items → Result (ℕ × ℕ) JsonError
counts_of_items no_items = Err WrongKind
counts_of_items (item a no_items) = Err WrongKind
counts_of_items (item a (item b no_items)) = two_counts (count_of a) (count_of b)
counts_of_items (item a (item b (item c rest))) = Err WrongKind

abbrev pub counts_of : Data → Result (ℕ × ℕ) JsonError
counts_of null = Err WrongKind
counts_of (boolean _) = Err WrongKind
counts_of (number _) = Err WrongKind
counts_of (string _) = Err WrongKind
counts_of (array items) = counts_of_items items
counts_of (object _) = Err WrongKind

abbrev pub counts_written : ℕ × ℕ → Data
counts_written pair = array (item (count_written pair.0) (item (count_written pair.1) no_items))

abbrev pub counts_form : Form (ℕ × ℕ)
counts_form = told_form counts_of (λ pair. pair) counts_written (λ x y same. same)

module _ {F : Type 0} where
  -- what a node of each kind reads: a place, an element, or one or two nodes
  abbrev pub local_of : Node F → Option ℕ
  local_of (Local column) = Some column
  local_of _ = None

  abbrev pub next_of : Node F → Option ℕ
  next_of (Next column) = Some column
  next_of _ = None

  abbrev pub periodic_of : Node F → Option ℕ
  periodic_of (Periodic column) = Some column
  periodic_of _ = None

  abbrev pub public_of : Node F → Option ℕ
  public_of (Public index) = Some index
  public_of _ = None

  abbrev pub constant_of : Node F → Option F
  constant_of (Constant element) = Some element
  constant_of _ = None

  abbrev pub sum_of : Node F → Option (ℕ × ℕ)
  sum_of (Add a b) = Some (a, b)
  sum_of _ = None

  abbrev pub difference_of : Node F → Option (ℕ × ℕ)
  difference_of (Sub a b) = Some (a, b)
  difference_of _ = None

  abbrev pub product_of : Node F → Option (ℕ × ℕ)
  product_of (Mul a b) = Some (a, b)
  product_of _ = None

  abbrev pub opposite_of : Node F → Option ℕ
  opposite_of (Neg a) = Some a
  opposite_of _ = None

  -- the kinds of nodes, by ascending key
  abbrev pub node_choices : Form F → Choices (Node F)
  node_choices element =
      choice (codes "add") sum_of counts_form
      (choice (codes "constant") constant_of element
      (choice (codes "local") local_of count_form
      (choice (codes "mul") product_of counts_form
      (choice (codes "neg") opposite_of count_form
      (choice (codes "next") next_of count_form
      (choice (codes "periodic") periodic_of count_form
      (choice (codes "public") public_of count_form
      (choice (codes "sub") difference_of counts_form
      no_choice))))))))

  -- a node is an object of one member, whose key is its kind
  abbrev pub node_form : Form F → Form (Node F)
  node_form element = choice_form (node_choices element) refl

  -- the parts of an AIR
  abbrev pub parts_fields : Form F → Fields (AirParts F)
  parts_fields element =
      field (codes "constraints") (λ p. p.constraints) (list_form (object_form constraint_fields))
      (field (codes "nodes") (λ p. p.nodes) (list_form (node_form element))
      (field (codes "num_public_values") (λ p. p.num_public_values) count_form
      (field (codes "periodic_columns") (λ p. p.periodic_columns) (list_form (list_form element))
      (field (codes "width") (λ p. p.width) count_form
      none_left))))
