-- One level up from the known positions of a level, which stand in ascending order.
use Rattle.std.specs.Prelude.{ℕ, ◌/◌, ◌==◌, List, [], ◌∷◌, if◌then◌else◌}
use Rattle.circle_merkle.specs.Tree.{sibling}

-- the positions one level up
abbrev pub parents_of : List ℕ → List ℕ
parents_of [] = []
parents_of (p ∷ []) = p / 2 ∷ []
parents_of (p ∷ q ∷ rest) = p / 2 ∷ (if q == sibling p then parents_of rest else parents_of
    (q ∷ rest))

-- the siblings that aren't known
abbrev pub siblings_of : List ℕ → List ℕ
siblings_of [] = []
siblings_of (p ∷ []) = sibling p ∷ []
siblings_of (p ∷ q ∷ rest) = if q == sibling p then siblings_of rest else sibling p ∷ siblings_of
    (q ∷ rest)
