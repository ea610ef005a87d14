-- The names of refusals, letter by letter.
use Rattle.std.specs.Prelude.{ℕ, List, codes}
use Rattle.circle_merkle.specs.declared.error.MerkleTreeError.{MerkleTreeError}
use Rattle.circle_merkle.specs.declared.error.MerkleTreeError.TheVariants as error

-- the name of a variant
abbrev pub merkle_name : MerkleTreeError → List ℕ
merkle_name error.WrongIndex = codes "WrongIndex"
merkle_name error.WrongWidth = codes "WrongWidth"
merkle_name error.WrongProofLength = codes "WrongProofLength"
merkle_name error.DisagreeingRows = codes "DisagreeingRows"
merkle_name error.RootMismatch = codes "RootMismatch"
merkle_name error.Memory = codes "Memory"
