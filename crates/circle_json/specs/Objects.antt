-- Objects with exactly these members.
use Rattle.std.specs.Prelude.{◌≡◌, ℕ, ◌<◌, ◌≤◌, ◌⊎◌, List, [], ◌∷◌, length, Some, None}
use Rattle.circle_json.specs.declared.error.JsonError.{JsonError}
use Rattle.circle_json.specs.declared.error.JsonError.TheVariants.{Memory, MissingKey, UnknownKey}
use Rattle.circle_json.specs.declared.error.JsonError.TheVariants.{WrongKind}
use Rattle.circle_json.specs.Form.{Form}
use Rattle.serde_json.specs.Data.{Data, null, boolean, number, string, array, object, Members}
use Rattle.serde_json.specs.Data.{no_members, member}
use Rattle.serde_json.specs.Events.{members_len}
use Rattle.serde_json.specs.Find.{get}

-- the members of an object for a value: each has its key, a part of the value, and that part's form
pub data Fields (T : Type 0) : Type 1 where
  none_left : Fields T
  field : {Part : Type 0} → List ℕ → (T → Part) → Form Part → Fields T → Fields T

module _ {T : Type 0} where
  abbrev pub keys_of : Fields T → List (List ℕ)
  keys_of none_left = []
  keys_of (field key part form others) = key ∷ keys_of others

-- an object with no more members than these
abbrev pub HasAtMost : ℕ → Data → Type 0
HasAtMost n null = ⊥
HasAtMost n (boolean _) = ⊥
HasAtMost n (number _) = ⊥
HasAtMost n (string _) = ⊥
HasAtMost n (array _) = ⊥
HasAtMost n (object ms) = members_len ms ≤ n

-- each of these keys has a member
abbrev pub HasEach : List (List ℕ) → Data → Type 0
HasEach [] value = Unit {0}
HasEach (key ∷ keys) value = ((d : Data) × (get key value ≡ Some d)) × HasEach keys value

-- one of these keys has no member
abbrev pub Lacks : List (List ℕ) → Data → Type 0
Lacks [] value = ⊥
Lacks (key ∷ keys) value = (get key value ≡ None) ⊎ Lacks keys value

-- no object, or one that lacks a key, or one that has each of them and further ones
abbrev pub RefusesKeys : List (List ℕ) → Data → JsonError → Type 0
RefusesKeys keys null error = error ≡ WrongKind
RefusesKeys keys (boolean _) error = error ≡ WrongKind
RefusesKeys keys (number _) error = error ≡ WrongKind
RefusesKeys keys (string _) error = error ≡ WrongKind
RefusesKeys keys (array _) error = error ≡ WrongKind
RefusesKeys keys (object ms) error = (Lacks keys (object ms) × (error ≡ MissingKey))
    ⊎ (HasEach keys (object ms) × (length keys < members_len ms) × (error ≡ UnknownKey))

-- the object has exactly these keys
pub record HasKeys (keys : List (List ℕ)) (value : Data) : Type 0 where
  pub each : HasEach keys value
  pub no_more : HasAtMost (length keys) value

-- the member of this key is so
abbrev pub HasMember : List ℕ → Data → (Data → Type 0) → Type 0
HasMember key value Is = (d : Data) × (get key value ≡ Some d) × Is d

-- there is no member of this key, or it is refused
abbrev pub RefusesMember : List ℕ → (Data → JsonError → Type 0) → Data → JsonError → Type 0
RefusesMember key Refuses value error = ((get key value ≡ None) × (error ≡ MissingKey))
    ⊎ HasMember key value (λ d. Refuses d error)

module _ {T : Type 0} where
  -- each member stands for its part
  abbrev pub ReadsFields : Fields T → Data → T → Type 0
  ReadsFields none_left value x = Unit {0}
  ReadsFields (field key part form others) value x =
      HasMember key value (λ d. form.reads d (part x)) × ReadsFields others value x

  -- one of the members is refused
  abbrev pub RefusesFields : Fields T → Data → JsonError → Type 0
  RefusesFields none_left value error = ⊥
  RefusesFields (field key part form others) value error =
      RefusesMember key form.refuses value error ⊎ RefusesFields others value error

  -- each part is the same
  abbrev pub SameFields : Fields T → T → T → Type 0
  SameFields none_left x y = Unit {0}
  SameFields (field key part form others) x y = form.same (part x) (part y) × SameFields others x y

  abbrev pub members_written : Fields T → T → Members
  members_written none_left x = no_members
  members_written (field key part form others) x =
      member key (form.written (part x)) (members_written others x)

  abbrev pub object_written : Fields T → T → Data
  object_written fields x = object (members_written fields x)

  -- an object whose members stand for the parts, and no others
  abbrev pub ReadsObject : Fields T → Data → T → Type 0
  ReadsObject fields value x =
      HasAtMost (length (keys_of fields)) value × ReadsFields fields value x

  -- by its keys, by one of its members where it has exactly these keys, or for want of memory
  abbrev pub RefusesObject : Fields T → Data → JsonError → Type 0
  RefusesObject fields value error = (error ≡ Memory)
      ⊎ (RefusesKeys (keys_of fields) value error
      ⊎ (HasKeys (keys_of fields) value × RefusesFields fields value error))
