-- The command that the program's arguments name.
use Rattle.std.specs.Prelude.{◌≡◌, ℕ, ◌⊎◌, List, [], ◌∷◌, map, codes, String, string_bytes}
use Rattle.std.specs.declared.alloc.Global.{Global}
use Rattle.stark_commands.specs.declared.run.CommandName.{CommandName}
use Rattle.stark_commands.specs.declared.run.CommandName.TheVariants.{Check, Prove, Verify}

abbrev pub name_of : CommandName → List ℕ
name_of Check = codes "check"
name_of Prove = codes "prove"
name_of Verify = codes "verify"

-- the one argument is the name of this command
abbrev pub Names : List (String Global) → CommandName → Type 0
Names args name = map string_bytes args ≡ name_of name ∷ []

-- the one argument is the name of a command
abbrev pub NamesCommand : List (String Global) → Type 0
NamesCommand args = Names args Check ⊎ (Names args Prove ⊎ Names args Verify)
