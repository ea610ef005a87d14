-- The command that the program's arguments name.
use Rattle.std.specs.Prelude.{◌≡◌, ℕ, ◌⊎◌, List, [], ◌∷◌, map, codes, String, string_bytes}
use Rattle.std.specs.declared.alloc.Global.{Global}
use Rattle.circle_commands.specs.declared.run.CommandName.{CommandName}
use Rattle.circle_commands.specs.declared.run.CommandName.TheVariants.{Values, Prove, Verify, Shape}

abbrev pub name_of : CommandName → List ℕ
name_of Values = codes "values"
name_of Prove = codes "prove"
name_of Verify = codes "verify"
name_of Shape = codes "shape"

-- the one argument is the name of this command
abbrev pub Names : List (String Global) → CommandName → Type 0
Names args name = map string_bytes args ≡ name_of name ∷ []

-- the one argument is the name of a command
abbrev pub NamesCommand : List (String Global) → Type 0
NamesCommand args = Names args Values
    ⊎ (Names args Prove ⊎ (Names args Verify ⊎ Names args Shape))
