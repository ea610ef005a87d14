-- Tests in order: the first that has reason to refuse gives the result.
use Rattle.std.specs.Prelude.{Bool, if◌then◌else◌, List, [], ◌∷◌, Result, Ok, Err}

-- a refusal, and whether there is reason for it
abbrev pub Test : Type 0 → Type 0
Test E = Bool × E

-- the result of tests: the first refusal that there is reason for, or the value where there is none
unfoldable pub answer : {A E : Type 0} → List (Test E) → A → Result A E
answer [] value = Ok value
answer (test ∷ tests) value = if test.0 then Err test.1 else answer tests value
