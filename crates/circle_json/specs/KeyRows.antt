-- Which fault of an object's keys is reported, at worked examples.
use Rattle.std.specs.Prelude.{◌≡◌, List, ℕ, [], ◌∷◌, codes, refl}
use Rattle.std.proofs.Common.{inl, inr, arith}
use Rattle.circle_json.specs.declared.error.JsonError.TheVariants.{MissingKey, UnknownKey}
use Rattle.circle_json.specs.Objects.{RefusesKeys}
use Rattle.serde_json.proofs.OnLiterals.{serde_json_on_literals}
use Rattle.serde_json.specs.Data.{Data, member, no_members, null, object}

-- an object of two keys
abbrev two : Data
two = object (member (codes "b") null (member (codes "c") null no_members))

-- it lacks one of two others
missing : RefusesKeys (codes "a" ∷ codes "b" ∷ []) two MissingKey
unfolding serde_json_on_literals
missing = inl (inl refl, refl)

-- it has a further key beside each of one
further : RefusesKeys (codes "b" ∷ []) two UnknownKey
unfolding serde_json_on_literals
further = inr (((null, refl), tt), omega arith, refl)

-- of an object that lacks a key no further one is reported
missing_first : RefusesKeys (codes "a" ∷ []) two UnknownKey → ⊥
unfolding serde_json_on_literals
missing_first (inl lacks) = absurd (cc)
missing_first (inr more) = let found = more.0.0.1 in absurd (cc)
