-- Which refusal of opened rows comes first.
use Rattle.std.specs.Prelude.{◌≡◌, ◌≢◌, ℕ, ◌^◌, Bool, true, false, List, length}
use Rattle.circle_commit.specs.declared.matrix.Dimensions.{Dimensions}
use Rattle.circle_commit.specs.Mmcs.{greatest, heights}
use Rattle.circle_merkle.specs.declared.error.MerkleTreeError.{MerkleTreeError}
use Rattle.circle_merkle.specs.declared.error.MerkleTreeError.TheVariants.{WrongIndex, WrongWidth}
use Rattle.circle_merkle.specs.declared.error.MerkleTreeError.TheVariants.{WrongProofLength}
use Rattle.circle_merkle.specs.declared.error.MerkleTreeError.TheVariants.{DisagreeingRows}
use Rattle.circle_merkle.specs.declared.error.MerkleTreeError.TheVariants.{RootMismatch, Memory}
use Rattle.circle_merkle.specs.Tree.{taken_below}
use Rattle.circle_merkle.specs.Authentication.{HasShape, HasIndices, Agrees, opened_root}

-- the error says that memory was refused
abbrev pub says_memory : MerkleTreeError → Bool
says_memory WrongIndex = false
says_memory WrongWidth = false
says_memory WrongProofLength = false
says_memory DisagreeingRows = false
says_memory RootMismatch = false
says_memory Memory = true

module _ {T : Type 0} (hash : List ℕ → List ℕ) (bytes : T →
    List ℕ) (commitment : List ℕ) (dims : List Dimensions) (indices : List ℕ)
    (opened : List (List (List T))) (proof : List (List ℕ)) where
  -- the number of digests is the number of positions that the indices leave open
  abbrev pub HasCount : Type 0
  HasCount = (levels : ℕ) → greatest (heights dims) ≡ 2 ^ levels →
      length proof ≡ taken_below indices levels levels

  -- the refusal's condition holds, and that of none before it
  abbrev pub IsFirstRefusal : MerkleTreeError → Type 0
  IsFirstRefusal WrongWidth = ¬ HasShape dims opened
  IsFirstRefusal WrongIndex = HasShape dims opened × ¬ HasIndices dims indices opened
  IsFirstRefusal DisagreeingRows = HasShape dims opened × HasIndices dims indices opened
      × ¬ Agrees dims indices opened
  IsFirstRefusal WrongProofLength = HasShape dims opened × HasIndices dims indices opened
      × Agrees dims indices opened
      × ((levels : ℕ) → greatest (heights dims) ≡ 2 ^ levels →
      length proof ≢ taken_below indices levels levels)
  IsFirstRefusal RootMismatch = HasShape dims opened × HasIndices dims indices opened
      × Agrees dims indices opened × HasCount
      × ((levels : ℕ) → greatest (heights dims) ≡ 2 ^ levels →
      opened_root hash bytes dims indices opened proof levels ≢ commitment)
  IsFirstRefusal Memory = Unit {0}
