use Rattle.std.proofs.Common.{◌≡◌, ◌/◌, All, map}
use Rattle.std.specs.List.{range_with_len}
use Rattle.circle_commit.specs.Matrix.{mapped_rows}
use Rattle.circle_commit.specs.RowMajorMatrix.{rows, width_of, height_of}
use Rattle.circle_domain.specs.Splitting.{place_of}
use Rattle.circle_domain.proofs.domain.CircleDomainPolynomialSpace.split_evals.Given as goal

abbrev pub invariant-loop-part : goal.invariant-loop-part
invariant-loop-part g l = record {
  matched : map rows l.parts.items
      ≡ map
      (λ j. mapped_rows (place_of l.num_chunks j) (height_of l.evals / l.num_chunks) (rows l.evals))
      (range_with_len 0 l.part);
  wide : All (λ part. width_of part ≡ width_of l.evals) l.parts.items;
}
