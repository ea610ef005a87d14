-- What lines are and how far they are written, at worked examples.
use Rattle.std.specs.Prelude.{◌≡◌, ◌++◌, [], Some, true, codes, refl}
use Rattle.std.proofs.Common.{inl, inr}
use Rattle.std.specs.Fmt.{digits}
use Rattle.serde_json.proofs.OnLiterals.{serde_json_on_literals}
use Rattle.serde_json.specs.Data.{array, boolean, member, no_members, number, object, string}
use Rattle.serde_json.specs.Data.{item, no_items, unsigned}
use Rattle.serde_json.specs.Written.{compact_text}
use Rattle.circle_commands.specs.Program.{IsWritten}

-- the compact text of an object, of an array, of a number and of a text
object_text : compact_text (object (member (codes "verified") (boolean true) no_members))
    ++ codes "\n" ≡ codes "{\"verified\":true}\n"
unfolding serde_json_on_literals
object_text = refl

array_text : compact_text (array (item (number (unsigned 10)) (item (string (codes "a")) no_items)))
    ≡ codes "[10,\"a\"]"
unfolding serde_json_on_literals digits
array_text = refl

-- a whole line with its status, and five bytes of it with the status 1
whole : IsWritten 2 (codes "{}\n") (Some []) (Some (codes "{}\n")) 2
whole = inl (refl, refl)

front : IsWritten 0 (codes "{\"verified\":true}\n") (Some []) (Some (codes "{\"ver")) 1
front = inr (refl, (5, refl))

-- five bytes of it with its own status are no result
no_result : IsWritten 0 (codes "{\"verified\":true}\n") (Some []) (Some (codes "{\"ver")) 0 → ⊥
no_result (inl written) = absurd (cc)
no_result (inr written) = absurd (cc)
