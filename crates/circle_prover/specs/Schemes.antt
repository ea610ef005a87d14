-- The fields, the challenger and the two schemes of an opening, as contracts see them.
use Rattle.std.specs.Prelude.{List}
use Rattle.circle_challenger.specs.Moves.{RunMoves}
use Rattle.circle_commit.specs.declared.matrix.RowMajorMatrix.{RowMajorMatrix}
use Rattle.circle_relation.specs.Accepts.{Authenticates, Fields}

-- I and W are the schemes of the batches and of the codewords, each with its commitments, data and
-- proofs
pub record Schemes (C S F E I IC ID IP W WC WD WP : Type 0) : Type 1 where
  pub fields : Fields F E
  pub run : RunMoves C S F E WC
  pub kept : ID → List (RowMajorMatrix F)
  pub Commits : I → List (RowMajorMatrix F) → IC → Type 0
  pub authenticates : I → Authenticates IC F IP
  pub word_kept : WD → List (RowMajorMatrix E)
  pub WordCommits : W → List (RowMajorMatrix E) → WC → Type 0
  pub word_authenticates : W → Authenticates WC E WP
