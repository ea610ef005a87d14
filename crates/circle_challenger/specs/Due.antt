-- The steps that are due in a transcript.
use Rattle.std.specs.Prelude.{◌≡◌, List, ◌++◌}
use Rattle.circle_challenger.specs.Step.{Step}

-- these steps are the next of those that are due
abbrev pub AreNext : List Step → List Step → Type 0
AreNext steps due = (rest : List Step) × (due ≡ steps ++ rest)

-- where these steps are the next, the others are due afterwards
abbrev pub HasPlayed : List Step → List Step → List Step → Type 0
HasPlayed steps old new = (rest : List Step) → old ≡ steps ++ rest → new ≡ rest
