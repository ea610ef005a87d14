-- Pairs of counts, and nodes of AIRs by their kinds.
use Rattle.std.proofs.Common.{◌≡◌, ◌<◌, ◌≤◌, List, [], ◌∷◌, ℕ, length, Some, None, Err, ap, arith}
use Rattle.std.proofs.Common.{refl, subst, sym}
use Rattle.std.proofs.Common.{◌∙◌}
use Rattle.std.specs.Prelude.{slice_get, String, string_bytes}
use Rattle.std.specs.declared.alloc.Global.{Global}
use Rattle.circle_json.specs.Airs.{counts_of, counts_of_items}
use Rattle.circle_json.specs.Choices.{IsOfNoMember}
use Rattle.circle_json.specs.declared.error.JsonError.{JsonError}
use Rattle.circle_json.specs.declared.error.JsonError.TheVariants.{MissingKey, UnknownKey}
use Rattle.circle_json.specs.declared.error.JsonError.TheVariants.{WrongKind}
use Rattle.serde_json.specs.Data.{Data, null, boolean, number, string, array, object, Items}
use Rattle.serde_json.specs.Data.{Members, member, no_members}
use Rattle.serde_json.specs.Find.{as_array, as_object}
use Rattle.serde_json.specs.View.{items_view, members_view, view}
use Rattle.serde_json.specs.declared.value.Value.{Value}

counts_of-array : (value : Data) (items : Items) → as_array value ≡ Some items → counts_of value
    ≡ counts_of_items items
counts_of-array null items e = absurd (cc)
counts_of-array (boolean b) items e = absurd (cc)
counts_of-array (number n) items e = absurd (cc)
counts_of-array (string s) items e = absurd (cc)
counts_of-array (array ds) items e = let same : ds ≡ items = cc in ap counts_of_items same
counts_of-array (object ms) items e = absurd (cc)

-- an array of fewer than two
pub fewer_than_two : (value : Data) (vs : List Value) → as_array value ≡ Some (items_view vs) →
    length vs < 2 → counts_of value ≡ Err WrongKind
fewer_than_two value [] e h = counts_of-array value _ e
fewer_than_two value (a ∷ []) e h = counts_of-array value _ e
fewer_than_two value (a ∷ b ∷ vs) e h = absurd (omega arith)

-- an array of more than two
pub more_than_two : (value : Data) (vs : List Value) → as_array value ≡ Some (items_view vs) →
    2 < length vs → counts_of value ≡ Err WrongKind
more_than_two value [] e h = absurd (omega arith)
more_than_two value (a ∷ []) e h = absurd (omega arith)
more_than_two value (a ∷ b ∷ []) e h = absurd (omega arith)
more_than_two value (a ∷ b ∷ c ∷ vs) e h = counts_of-array value _ e

-- an object of no member, of one, and of more
object-view : (value : Data) (inside : Members) → as_object value ≡ Some inside → value
    ≡ object inside
object-view null inside e = absurd (cc)
object-view (boolean b) inside e = absurd (cc)
object-view (number n) inside e = absurd (cc)
object-view (string s) inside e = absurd (cc)
object-view (array ds) inside e = absurd (cc)
object-view (object ms) inside e = let same : ms ≡ inside = cc in ap object same

pub no_object : (value : Data) → as_object value ≡ None → IsOfNoMember value WrongKind
no_object null e = refl
no_object (boolean b) e = refl
no_object (number n) e = refl
no_object (string s) e = refl
no_object (array ds) e = refl
no_object (object ms) e = absurd (cc)

pub of_no_object : (value : Data) (error : JsonError) →
    (as_object value ≡ None) × (error ≡ WrongKind) → IsOfNoMember value error
of_no_object value error h =
    subst (λ (e : JsonError). IsOfNoMember value e) (sym h.1) (no_object value h.0)

pub no_member : (value : Data) (entries : List (String Global × Value)) →
    as_object value ≡ Some (members_view entries) → length entries < 1 →
    IsOfNoMember value MissingKey
no_member value [] e h =
    subst (λ (d : Data). IsOfNoMember d MissingKey) (sym (object-view value _ e)) refl
no_member value (m ∷ ms) e h = absurd (omega arith)

pub more_members : (value : Data) (entries : List (String Global × Value)) →
    as_object value ≡ Some (members_view entries) → 1 < length entries →
    IsOfNoMember value UnknownKey
more_members value [] e h = absurd (omega arith)
more_members value (m ∷ []) e h = absurd (omega arith)
more_members value (m ∷ n ∷ ms) e h =
    subst (λ (d : Data). IsOfNoMember d UnknownKey) (sym (object-view value _ e)) refl

-- an object of one member
pub one_member : (value : Data) (entries : List (String Global × Value)) (key : String Global)
    (v : Value) → as_object value ≡ Some (members_view entries) → length entries ≤ 1 →
    slice_get entries 0 ≡ Some (key, v) →
    value ≡ object (member (string_bytes key) (view v) no_members)
one_member value [] key v e few first = absurd (cc)
one_member value (m ∷ []) key v e few first =
    let same : m ≡ (key, v) = cc in
    object-view value _ e
    ∙ ap (λ (p : String Global × Value). object (member (string_bytes p.0) (view p.1) no_members))
    same
one_member value (m ∷ n ∷ ms) key v e few first = absurd (omega arith)
