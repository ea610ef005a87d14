-- Arrays of another length than two.
use Rattle.std.proofs.Common.{◌≡◌, ◌<◌, List, [], ◌∷◌, length, Some, Err, ap, arith}
use Rattle.serde_json.specs.Data.{Data, null, boolean, number, string, array, object, Items}
use Rattle.serde_json.specs.Find.{as_array}
use Rattle.serde_json.specs.View.{items_view}
use Rattle.serde_json.specs.declared.value.Value.{Value}
use Rattle.circle_json.specs.declared.error.JsonError.TheVariants.{WrongKind}
use Rattle.circle_commands.specs.Json.{pair_of, pair_of_items}

pair_of-array : (value : Data) (items : Items) → as_array value ≡ Some items →
    pair_of value ≡ pair_of_items items
pair_of-array null items e = absurd (cc)
pair_of-array (boolean b) items e = absurd (cc)
pair_of-array (number n) items e = absurd (cc)
pair_of-array (string s) items e = absurd (cc)
pair_of-array (array ds) items e = let same : ds ≡ items = cc in ap pair_of_items same
pair_of-array (object ms) items e = absurd (cc)

pub fewer_than_two : (value : Data) (vs : List Value) → as_array value ≡ Some (items_view vs) →
    length vs < 2 → pair_of value ≡ Err WrongKind
fewer_than_two value [] e h = pair_of-array value _ e
fewer_than_two value (a ∷ []) e h = pair_of-array value _ e
fewer_than_two value (a ∷ b ∷ vs) e h = absurd (omega arith)

pub more_than_two : (value : Data) (vs : List Value) → as_array value ≡ Some (items_view vs) →
    2 < length vs → pair_of value ≡ Err WrongKind
more_than_two value [] e h = absurd (omega arith)
more_than_two value (a ∷ []) e h = absurd (omega arith)
more_than_two value (a ∷ b ∷ []) e h = absurd (omega arith)
more_than_two value (a ∷ b ∷ c ∷ vs) e h = pair_of-array value _ e
