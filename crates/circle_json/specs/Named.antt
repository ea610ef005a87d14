-- The names of refusals, letter by letter.
use Rattle.std.specs.Prelude.{ℕ, List, codes}
use Rattle.circle_json.specs.declared.error.JsonError.{JsonError}
use Rattle.circle_json.specs.declared.error.JsonError.TheVariants as error

-- the name of a variant
abbrev pub json_name : JsonError → List ℕ
json_name error.Memory = codes "Memory"
json_name error.MissingKey = codes "MissingKey"
json_name error.UnknownKey = codes "UnknownKey"
json_name error.WrongKind = codes "WrongKind"
json_name error.OutOfRange = codes "OutOfRange"
json_name error.BadHex = codes "BadHex"
