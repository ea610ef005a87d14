-- Objects with one member, whose key says of which of several forms the member is.
use Rattle.std.specs.Prelude.{◌≡◌, ℕ, ◌⊎◌, List, [], ◌∷◌, Option, Some, None}
use Rattle.std.specs.Prelude.{Bool, true, false, not, ◌&&◌, ◌||◌, nat_eq, IsTrue}
use Rattle.circle_json.specs.declared.error.JsonError.{JsonError}
use Rattle.circle_json.specs.declared.error.JsonError.TheVariants.{Memory, MissingKey, UnknownKey}
use Rattle.circle_json.specs.declared.error.JsonError.TheVariants.{WrongKind}
use Rattle.circle_json.specs.Form.{Form}
use Rattle.serde_json.specs.Data.{Data, null, boolean, number, string, array, object, Members}
use Rattle.serde_json.specs.Data.{no_members, member}

-- the kinds of a type's values: each has its key, the part of a value of this kind, and that part's
-- form
pub data Choices (T : Type 0) : Type 1 where
  no_choice : Choices T
  choice : {Part : Type 0} → List ℕ → (T → Option Part) → Form Part → Choices T → Choices T

-- the texts are equal
abbrev pub is_text : List ℕ → List ℕ → Bool
is_text [] [] = true
is_text [] (y ∷ ys) = false
is_text (x ∷ xs) [] = false
is_text (x ∷ xs) (y ∷ ys) = nat_eq x y && is_text xs ys

-- the key is one of these
abbrev pub is_among : List ℕ → List (List ℕ) → Bool
is_among key [] = false
is_among key (k ∷ keys) = is_text key k || is_among key keys

-- no key stands twice
abbrev pub are_distinct : List (List ℕ) → Bool
are_distinct [] = true
are_distinct (key ∷ keys) = not (is_among key keys) && are_distinct keys

module _ {T : Type 0} where
  abbrev pub choice_keys : Choices T → List (List ℕ)
  choice_keys no_choice = []
  choice_keys (choice key part form others) = key ∷ choice_keys others

-- of a value of this kind its part is so, and of another kind the rest
abbrev pub OfKind : {Part : Type 0} → Option Part → Type 0 → (Part → Type 0) → Type 0
OfKind None rest Is = rest
OfKind (Some part) rest Is = Is part

-- two values are of this kind and their parts the same, or neither is and the rest
abbrev pub SamePart : {Part : Type 0} → (Part → Part → Type 0) → Option Part → Option Part → Type 0
    → Type 0
SamePart Same None None rest = rest
SamePart Same None (Some q) rest = ⊥
SamePart Same (Some p) None rest = ⊥
SamePart Same (Some p) (Some q) rest = Same p q

-- a value of this kind is written as the member of this key, and of another kind as the rest
abbrev pub part_written : {Part : Type 0} → List ℕ → (Part → Data) → Option Part → Data → Data
part_written key write None rest = rest
part_written key write (Some part) rest = object (member key (write part) no_members)

-- no object, or one without a key, or with two
abbrev pub IsOfNoMember : Data → JsonError → Type 0
IsOfNoMember null error = error ≡ WrongKind
IsOfNoMember (boolean _) error = error ≡ WrongKind
IsOfNoMember (number _) error = error ≡ WrongKind
IsOfNoMember (string _) error = error ≡ WrongKind
IsOfNoMember (array _) error = error ≡ WrongKind
IsOfNoMember (object no_members) error = error ≡ MissingKey
IsOfNoMember (object (member _ _ no_members)) error = ⊥
IsOfNoMember (object (member _ _ (member _ _ _))) error = error ≡ UnknownKey

module _ {T : Type 0} where
  -- the member of this key stands for the part of the value, which is of the key's kind
  abbrev pub ReadsMember : Choices T → List ℕ → Data → T → Type 0
  ReadsMember no_choice key d x = ⊥
  ReadsMember (choice of part form others) key d x =
      OfKind (part x) (ReadsMember others key d x) (λ p. (key ≡ of) × form.reads d p)

  -- there is no such key, or the member isn't of the key's form
  abbrev pub RefusesMember : Choices T → List ℕ → Data → JsonError → Type 0
  RefusesMember no_choice key d error = error ≡ UnknownKey
  RefusesMember (choice of part form others) key d error =
      ((key ≡ of) × form.refuses d error) ⊎ ((¬ (key ≡ of)) × RefusesMember others key d error)

  -- both values are of one kind, and their parts are the same
  abbrev pub SameChoice : Choices T → T → T → Type 0
  SameChoice no_choice x y = ⊥
  SameChoice (choice of part form others) x y =
      SamePart form.same (part x) (part y) (SameChoice others x y)

  abbrev pub choice_written : Choices T → T → Data
  choice_written no_choice x = null
  choice_written (choice of part form others) x =
      part_written of form.written (part x) (choice_written others x)

  -- an object of one member, which stands for the value
  abbrev pub ReadsChoice : Choices T → Data → T → Type 0
  ReadsChoice choices null x = ⊥
  ReadsChoice choices (boolean _) x = ⊥
  ReadsChoice choices (number _) x = ⊥
  ReadsChoice choices (string _) x = ⊥
  ReadsChoice choices (array _) x = ⊥
  ReadsChoice choices (object no_members) x = ⊥
  ReadsChoice choices (object (member key d no_members)) x = ReadsMember choices key d x
  ReadsChoice choices (object (member key d (member _ _ _))) x = ⊥

  -- an object of one member, which is refused
  abbrev pub RefusesOnly : Choices T → Data → JsonError → Type 0
  RefusesOnly choices null error = ⊥
  RefusesOnly choices (boolean _) error = ⊥
  RefusesOnly choices (number _) error = ⊥
  RefusesOnly choices (string _) error = ⊥
  RefusesOnly choices (array _) error = ⊥
  RefusesOnly choices (object no_members) error = ⊥
  RefusesOnly choices (object (member key d no_members)) error = RefusesMember choices key d error
  RefusesOnly choices (object (member key d (member _ _ _))) error = ⊥

  -- by its keys, by its member, or for want of memory
  abbrev pub RefusesChoice : Choices T → Data → JsonError → Type 0
  RefusesChoice choices value error =
      (error ≡ Memory) ⊎ (IsOfNoMember value error ⊎ RefusesOnly choices value error)
