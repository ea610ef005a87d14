-- Which JSON values stand for numbers, elements of the fields, digests and lists.
use Rattle.std.specs.Prelude.{◌≡◌, ℕ, List, [], ◌∷◌, map, Option, None, Result, Ok, Err}
use Rattle.std.specs.Prelude.{nat_lt, if◌then◌else◌, ◌⊎◌}
use Rattle.hex.specs.Hex.{encode_lower, decode_sized}
use Rattle.hex.specs.declared.error.FromHexError.{FromHexError}
use Rattle.circle_field.specs.declared.cubic.Cubic.{Cubic}
use Rattle.circle_field.specs.Cubic.{coefficients}
use Rattle.circle_field.specs.Mersenne31.{order, residue}
use Rattle.circle_json.specs.declared.error.JsonError.{JsonError}
use Rattle.circle_json.specs.declared.error.JsonError.TheVariants.{Memory, WrongKind, OutOfRange}
use Rattle.circle_json.specs.declared.error.JsonError.TheVariants.{BadHex}
use Rattle.serde_json.specs.Data.{Num, unsigned, negative, float, Data, null, boolean, number}
use Rattle.serde_json.specs.Data.{string, array, object, Items, no_items, item}
use Rattle.serde_json.specs.View.{items_of}

-- nothing of the kind that is asked for was found, and the error says so
abbrev pub IsOtherKind : {A : Type 0} → Option A → JsonError → Type 0
IsOtherKind found e = (found ≡ None) × (e ≡ WrongKind)

-- a whole number that isn't negative; what has a point or an exponent is a float
abbrev pub count_of_number : Num → Result ℕ JsonError
count_of_number (unsigned n) = Ok n
count_of_number (negative z) = Err OutOfRange
count_of_number (float x) = Err WrongKind

abbrev pub count_of : Data → Result ℕ JsonError
count_of null = Err WrongKind
count_of (boolean _) = Err WrongKind
count_of (number n) = count_of_number n
count_of (string _) = Err WrongKind
count_of (array _) = Err WrongKind
count_of (object _) = Err WrongKind

abbrev pub count_written : ℕ → Data
count_written n = number (unsigned n)

-- a count below the order of the base field
abbrev pub below_order : Result ℕ JsonError → Result ℕ JsonError
below_order (Ok n) = if nat_lt n order then Ok n else Err OutOfRange
below_order (Err e) = Err e

-- the residue of an element of the base field
abbrev pub residue_of : Data → Result ℕ JsonError
residue_of value = below_order (count_of value)

-- the residues of the three coefficients of an element of the cubic extension
abbrev pub coefficient_residues : Cubic → List ℕ
coefficient_residues a = map residue (coefficients a)

-- an element in front of others; of two refusals the first
abbrev pub in_front : Result ℕ JsonError → Result (List ℕ) JsonError → Result (List ℕ) JsonError
in_front (Ok n) (Ok ns) = Ok (n ∷ ns)
in_front (Ok n) (Err e) = Err e
in_front (Err e) rest = Err e

-- an array of exactly three elements
abbrev pub residues_of_items : Items → Result (List ℕ) JsonError
residues_of_items no_items = Err WrongKind
residues_of_items (item a no_items) = Err WrongKind
residues_of_items (item a (item b no_items)) = Err WrongKind
residues_of_items (item a (item b (item c no_items))) =
    in_front (residue_of a) (in_front (residue_of b) (in_front (residue_of c) (Ok [])))
residues_of_items (item a (item b (item c (item d rest)))) = Err WrongKind

abbrev pub residues_of : Data → Result (List ℕ) JsonError
residues_of null = Err WrongKind
residues_of (boolean _) = Err WrongKind
residues_of (number _) = Err WrongKind
residues_of (string _) = Err WrongKind
residues_of (array items) = residues_of_items items
residues_of (object _) = Err WrongKind

abbrev pub residues_written : List ℕ → Data
residues_written residues = array (items_of (map count_written residues))

-- 64 hexadecimal digits, in either case
abbrev pub digest_of_digits : Result (List ℕ) FromHexError → Result (List ℕ) JsonError
digest_of_digits (Ok digest) = Ok digest
digest_of_digits (Err e) = Err BadHex

abbrev pub digest_of : Data → Result (List ℕ) JsonError
digest_of null = Err WrongKind
digest_of (boolean _) = Err WrongKind
digest_of (number _) = Err WrongKind
digest_of (string text) = digest_of_digits (decode_sized text 32)
digest_of (array _) = Err WrongKind
digest_of (object _) = Err WrongKind

-- a digest's digits in lower case
abbrev pub digest_written : List ℕ → Data
digest_written digest = string (encode_lower digest)

module _ {T A : Type 0} (of : Data → Result A JsonError) (shown : T → A) where
  -- the value is read of the JSON value, as far as it is shown
  abbrev pub IsRead : Data → T → Type 0
  IsRead value x = of value ≡ Ok (shown x)

-- the JSON value is refused
abbrev pub IsRefused : {A : Type 0} → (Data → Result A JsonError) → Data → JsonError → Type 0
IsRefused of value error = of value ≡ Err error

module _ {T : Type 0} (Reads : Data → T → Type 0) where
  -- the items stand for the values, one for each
  abbrev pub ReadsItems : Items → List T → Type 0
  ReadsItems no_items [] = Unit {0}
  ReadsItems no_items (x ∷ xs) = ⊥
  ReadsItems (item d ds) [] = ⊥
  ReadsItems (item d ds) (x ∷ xs) = Reads d x × ReadsItems ds xs

  -- an array of items that stand for the values
  abbrev pub ReadsArray : Data → List T → Type 0
  ReadsArray null xs = ⊥
  ReadsArray (boolean _) xs = ⊥
  ReadsArray (number _) xs = ⊥
  ReadsArray (string _) xs = ⊥
  ReadsArray (array items) xs = ReadsItems items xs
  ReadsArray (object _) xs = ⊥

module _ (Refuses : Data → JsonError → Type 0) where
  -- one of the items is refused
  abbrev pub RefusesItem : Items → JsonError → Type 0
  RefusesItem no_items error = ⊥
  RefusesItem (item d ds) error = Refuses d error ⊎ RefusesItem ds error

  -- what is no array is of another kind
  abbrev pub RefusesArray : Data → JsonError → Type 0
  RefusesArray null error = error ≡ WrongKind
  RefusesArray (boolean _) error = error ≡ WrongKind
  RefusesArray (number _) error = error ≡ WrongKind
  RefusesArray (string _) error = error ≡ WrongKind
  RefusesArray (array items) error = (error ≡ Memory) ⊎ RefusesItem items error
  RefusesArray (object _) error = error ≡ WrongKind

-- as many items on each side, which are the same one by one
abbrev pub SameItems : {T : Type 0} → (T → T → Type 0) → List T → List T → Type 0
SameItems Same [] [] = Unit {0}
SameItems Same [] (y ∷ ys) = ⊥
SameItems Same (x ∷ xs) [] = ⊥
SameItems Same (x ∷ xs) (y ∷ ys) = Same x y × SameItems Same xs ys
