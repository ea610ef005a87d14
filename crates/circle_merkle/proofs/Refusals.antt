-- A right refusal is of rows that aren't shown to be of the commitment.
use Rattle.std.specs.Prelude.{ℕ, List, Result, Ok, Err, IfErr, IsTrue}
use Rattle.std.proofs.Common.{refl}
use Rattle.circle_commit.specs.declared.matrix.Dimensions.{Dimensions}
use Rattle.circle_merkle.specs.declared.error.MerkleTreeError.{MerkleTreeError}
use Rattle.circle_merkle.specs.declared.error.MerkleTreeError.TheVariants.{WrongIndex, WrongWidth}
use Rattle.circle_merkle.specs.declared.error.MerkleTreeError.TheVariants.{WrongProofLength}
use Rattle.circle_merkle.specs.declared.error.MerkleTreeError.TheVariants.{DisagreeingRows}
use Rattle.circle_merkle.specs.declared.error.MerkleTreeError.TheVariants.{RootMismatch, Memory}
use Rattle.circle_merkle.specs.Authentication.{Authenticates}
use Rattle.circle_merkle.specs.Verdict.{IsFirstRefusal, says_memory}

module _ {T : Type 0} (hash : List ℕ → List ℕ) (bytes : T → List ℕ) (commitment : List ℕ)
    (dims : List Dimensions) (indices : List ℕ) (opened : List (List (List T)))
    (proof : List (List ℕ)) where
  refusal-excludes : (e : MerkleTreeError) →
      IsFirstRefusal hash bytes commitment dims indices opened proof e →
      Authenticates hash bytes commitment dims indices opened proof → IsTrue (says_memory e)
  refusal-excludes WrongIndex h a = absurd (h.1 a.known)
  refusal-excludes WrongWidth h a = absurd (h a.shape)
  refusal-excludes WrongProofLength h a = absurd (h.3 a.levels a.top a.count)
  refusal-excludes DisagreeingRows h a = absurd (h.2 a.agreeing)
  refusal-excludes RootMismatch h a = absurd (h.4 a.levels a.top a.root)
  refusal-excludes Memory h a = refl

  pub refused-first : {A : Type 0} (r : Result A MerkleTreeError) →
      IfErr r (IsFirstRefusal hash bytes commitment dims indices opened proof) →
      IfErr r (λ e. Authenticates hash bytes commitment dims indices opened proof →
      IsTrue (says_memory e))
  refused-first (Ok x) h = tt
  refused-first (Err e) h = refusal-excludes e h
