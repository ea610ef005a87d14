use Rattle.std.proofs.Common.{◌≡◌, take}
use Rattle.circle_commit.specs.Mmcs.{rows_at_each, opened_rows}
use Rattle.circle_merkle.specs.ProverData.{matrices_of}
use Rattle.circle_merkle.proofs.mmcs.ShaMmcsMmcs.open_multi_batch.Given as goal

abbrev pub invariant-loop-index : goal.invariant-loop-index
invariant-loop-index g l = opened_rows l.opened.items
    ≡ rows_at_each (matrices_of l.prover_data) (take l.index-index l.indices)
