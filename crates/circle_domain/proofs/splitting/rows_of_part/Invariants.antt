use Rattle.std.proofs.Common.{◌≡◌, []}
use Rattle.std.specs.List.{range_with_len, flat_map}
use Rattle.std.specs.Prelude.{slice_index_or}
use Rattle.circle_commit.specs.RowMajorMatrix.{rows}
use Rattle.circle_domain.specs.Splitting.{place_of}
use Rattle.circle_domain.proofs.splitting.rows_of_part.Given as goal

abbrev pub invariant-loop-r : goal.invariant-loop-r
invariant-loop-r g l =
    l.values.items
    ≡ flat_map (λ i. slice_index_or (rows l.evals) (place_of l.num_chunks l.part i) [])
    (range_with_len 0 l.r)
