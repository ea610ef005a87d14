-- Claims as contracts see them.
use Rattle.std.specs.Prelude.{List, map}
use Rattle.circle_commit.specs.declared.pcs.PointOpening.{PointOpening}
use Rattle.circle_commit.specs.declared.pcs.MatrixOpening.{MatrixOpening}
use Rattle.circle_commit.specs.declared.pcs.CommitmentOpening.{CommitmentOpening}
use Rattle.circle_domain.specs.declared.domain.CircleDomain.{CircleDomain}
use Rattle.circle_domain.specs.Domain.{log_size}
use Rattle.circle_relation.specs.Statement.{PointClaim, MatrixClaim, BatchClaim}

module _ {E : Type 0} where
  -- the claimed values at a point
  abbrev pub point_claim : PointOpening E → PointClaim E
  point_claim p = record { point = p.point; values = p.values.items }

  -- the claims on a matrix and on a batch, and on several: of a claimed domain only its size is a
  -- part of the statement
  abbrev pub matrix_claim : {F : Type 0} {g : _} →
      MatrixOpening E (CircleDomain F g) → MatrixClaim E
  matrix_claim m = record { log_n = log_size m.domain; claims = map point_claim m.points.items }

  abbrev pub matrix_claims : {F : Type 0} {g : _} →
      List (MatrixOpening E (CircleDomain F g)) → List (MatrixClaim E)
  matrix_claims matrices = map matrix_claim matrices

  abbrev pub batch_claim : {F Com : Type 0} {g : _} →
      CommitmentOpening E Com (CircleDomain F g) → BatchClaim Com E
  batch_claim b = record { commitment = b.commitment; matrices = matrix_claims b.matrices.items }

  abbrev pub batch_claims : {F Com : Type 0} {g : _} →
      List (CommitmentOpening E Com (CircleDomain F g)) → List (BatchClaim Com E)
  batch_claims batches = map batch_claim batches
