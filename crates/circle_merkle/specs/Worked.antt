-- The tree and its proofs at small instances.
use Rattle.std.specs.Prelude.{◌≡◌, ℕ, List, [], ◌∷◌, ◌++◌, refl, slice_index_or}
use Rattle.circle_commit.specs.declared.matrix.Dimensions.{Dimensions}
use Rattle.circle_merkle.specs.Tree as Tree
use Rattle.circle_merkle.specs.Tree.{digest, known, taken, taken_below, proof_of, given}
use Rattle.circle_merkle.specs.Rows.{tree_rows}

-- indices below a greatest height of 8, one of them twice
abbrev indices : List ℕ
indices = 7 ∷ 2 ∷ 3 ∷ 2 ∷ []

known_lowest : known indices 3 0 ≡ 2 ∷ 3 ∷ 7 ∷ []
known_lowest = refl

known_next : known indices 3 1 ≡ 1 ∷ 3 ∷ []
known_next = refl

taken_lowest : taken indices 3 0 ≡ 6 ∷ []
taken_lowest = refl

taken_next : taken indices 3 1 ≡ 0 ∷ 2 ∷ []
taken_next = refl

taken_top : taken indices 3 2 ≡ []
taken_top = refl

taken_in_all : taken_below indices 3 3 ≡ 3
taken_in_all = refl

-- the digests of a proof: of position 6 of the lowest level, and of 0 and 2 of the next
proof_of_three : (at : ℕ → ℕ → List ℕ) → proof_of at indices 3 3 ≡ at 0 6 ∷ at 1 0 ∷ at 1 2 ∷ []
proof_of_three at = refl

given_second : (a b c : List ℕ) → given indices 3 (a ∷ b ∷ c ∷ []) 1 2 ≡ c
given_second a b c = refl

-- one column of 4 rows and one of 2, of entries that are one byte each
abbrev dims : List Dimensions
dims = record { width = 1; height = 4 } ∷ record { width = 1; height = 2 } ∷ []

abbrev rows_at : ℕ → ℕ → List (List ℕ)
rows_at level i =
    slice_index_or ((10 ∷ []) ∷ (11 ∷ []) ∷ (12 ∷ []) ∷ (13 ∷ []) ∷ []) i []
    ∷ slice_index_or ((20 ∷ []) ∷ (21 ∷ []) ∷ []) i [] ∷ []

abbrev rows : Tree.Rows
rows = tree_rows (λ x. x ∷ []) dims rows_at

module _ (hash : List ℕ → List ℕ) where
  lowest : digest hash rows 0 3 ≡ hash (0 ∷ 13 ∷ [])
  lowest = refl

  -- the lower matrix's rows stand one level up
  abbrev left : List ℕ
  left = hash ((2 ∷ hash ((1 ∷ hash (0 ∷ 10 ∷ [])) ++ hash (0 ∷ 11 ∷ []))) ++ hash (0 ∷ 20 ∷ []))

  abbrev right : List ℕ
  right = hash ((2 ∷ hash ((1 ∷ hash (0 ∷ 12 ∷ [])) ++ hash (0 ∷ 13 ∷ []))) ++ hash (0 ∷ 21 ∷ []))

  root : digest hash rows 2 0 ≡ hash ((1 ∷ left) ++ right)
  root = refl
