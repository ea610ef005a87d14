-- Objects and their keys.
use Rattle.std.proofs.Common.{◌≡◌, ℕ, ◌<◌, ◌≤◌, List, [], ◌∷◌, length, map, All, Bor, Option, Some}
use Rattle.std.proofs.Common.{None, IsSome, zero, suc, refl, subst, sym, inl, inr, arith, ap}
use Rattle.std.proofs.Common.{String, Global, Bool, false, IsTrue}
use Rattle.circle_json.specs.declared.error.JsonError.{JsonError}
use Rattle.circle_json.specs.declared.error.JsonError.TheVariants.{MissingKey, UnknownKey}
use Rattle.circle_json.specs.declared.error.JsonError.TheVariants.{WrongKind}
use Rattle.circle_json.specs.Objects.{HasEach, HasKeys, Lacks, RefusesKeys}
use Rattle.serde_json.specs.Data.{Data, null, boolean, number, string, array, object, Members}
use Rattle.serde_json.specs.Events.{members_len}
use Rattle.serde_json.specs.Find.{get, as_object}
use Rattle.serde_json.specs.View.{members_view}
use Rattle.serde_json.specs.declared.value.Value.{Value}

-- the keys that references hold
abbrev pub texts : List (Bor (List ℕ)) → List (List ℕ)
texts keys = map (λ key. key.now) keys

-- each key is found
abbrev pub FindsAll : Data → List (Bor (List ℕ)) → Type 0
FindsAll value keys = All (λ key. IsSome (get key.now value)) keys

found : (o : Option Data) → IsSome o → (d : Data) × (o ≡ Some d)
found None some = absurd (cc)
found (Some d) some = (d, refl)

is_some : (o : Option Data) (d : Data) → o ≡ Some d → IsSome o
is_some None d e = absurd (cc)
is_some (Some x) d e = refl

pub has_each : (value : Data) (keys : List (Bor (List ℕ))) → FindsAll value keys →
    HasEach (texts keys) value
has_each value [] all = tt
has_each value (key ∷ keys) all = (
  found (get key.now value) (all 0 key (omega arith)),
  has_each value keys (λ k d h. all (suc k) d (omega arith)),
)

some_and_all : (value : Data) (key : Bor (List ℕ)) (keys : List (Bor (List ℕ))) →
    IsSome (get key.now value) → FindsAll value keys → FindsAll value (key ∷ keys)
some_and_all value key keys some all zero d h = some
some_and_all value key keys some all (suc k) d h = all k d (omega arith)

lacks_here : (value : Data) (key : Bor (List ℕ)) (keys : List (Bor (List ℕ))) (o : Option Data) →
    get key.now value ≡ o
    → (¬ FindsAll value (key ∷ keys)) → ((¬ FindsAll value keys) → Lacks (texts keys) value) →
    Lacks (texts (key ∷ keys)) value
lacks_here value key keys None e not others = inl e
lacks_here value key keys (Some d) e not others =
    inr (others (λ all. not (some_and_all value key keys (is_some (get key.now value) d e) all)))

pub lacks_one : (value : Data) (keys : List (Bor (List ℕ))) → (¬ FindsAll value keys) →
    Lacks (texts keys) value
lacks_one value [] not = absurd (not (λ k d h. absurd (omega arith)))
lacks_one value (key ∷ keys) not =
    lacks_here value key keys (get key.now value) refl not (λ n. lacks_one value keys n)

-- an object that lacks a key
pub missing_key : (value : Data) (inside : Members) (keys : List (List ℕ)) → as_object value
    ≡ Some inside → Lacks keys value → RefusesKeys keys value MissingKey
missing_key null inside keys e lacks = absurd (cc)
missing_key (boolean b) inside keys e lacks = absurd (cc)
missing_key (number n) inside keys e lacks = absurd (cc)
missing_key (string s) inside keys e lacks = absurd (cc)
missing_key (array ds) inside keys e lacks = absurd (cc)
missing_key (object ms) inside keys e lacks = inl (lacks, refl)

-- an object of more inside than keys, each of which it has
pub unknown_key : (value : Data) (inside : Members) (keys : List (List ℕ)) → as_object value
    ≡ Some inside → HasEach keys value → length keys < members_len inside →
    RefusesKeys keys value UnknownKey
unknown_key null inside keys e each more = absurd (cc)
unknown_key (boolean b) inside keys e each more = absurd (cc)
unknown_key (number n) inside keys e each more = absurd (cc)
unknown_key (string s) inside keys e each more = absurd (cc)
unknown_key (array ds) inside keys e each more = absurd (cc)
unknown_key (object ms) inside keys e each more = let same : ms ≡ inside = cc in
    inr (each, subst (λ (x : Members). length keys < members_len x) (sym same) more, refl)

-- an object of no more inside than keys, each of which it has
pub has_keys : (value : Data) (inside : Members) (keys : List (List ℕ)) → as_object value
    ≡ Some inside → HasEach keys value → members_len inside ≤ length keys → HasKeys keys value
has_keys null inside keys e each few = absurd (cc)
has_keys (boolean b) inside keys e each few = absurd (cc)
has_keys (number n) inside keys e each few = absurd (cc)
has_keys (string s) inside keys e each few = absurd (cc)
has_keys (array ds) inside keys e each few = absurd (cc)
has_keys (object ms) inside keys e each few =
    let same : ms ≡ inside = cc in
    record {
      each = each;
      no_more = subst (λ (x : Members). members_len x ≤ length keys) (sym same)
          few;
    }

no_object : (value : Data) → as_object value ≡ None → (keys : List (List ℕ)) →
    RefusesKeys keys value WrongKind
no_object null e keys = refl
no_object (boolean b) e keys = refl
no_object (number n) e keys = refl
no_object (string s) e keys = refl
no_object (array ds) e keys = refl
no_object (object ms) e keys = absurd (cc)

pub refused_as_no_object : (value : Data) (error : JsonError) (keys : List (List ℕ)) →
    (as_object value ≡ None) × (error ≡ WrongKind) → RefusesKeys keys value error
refused_as_no_object value error keys h =
    subst (λ (e : JsonError). RefusesKeys keys value e) (sym h.1) (no_object value h.0 keys)

pub members_len-view : (entries : List (String Global × Value)) → members_len (members_view entries)
    ≡ length entries
members_len-view [] = refl
members_len-view (e ∷ es) = ap suc (members_len-view es)

pub is_not_true : (b : Bool) → b ≡ false → IsTrue b → ⊥
is_not_true b e h = absurd (cc)

pub length-texts : (keys : List (Bor (List ℕ))) → length (texts keys) ≡ length keys
length-texts [] = refl
length-texts (key ∷ keys) = ap suc (length-texts keys)
