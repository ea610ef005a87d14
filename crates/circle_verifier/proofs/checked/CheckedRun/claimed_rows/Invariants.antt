use Rattle.std.proofs.Common.{◌≡◌, length, map, take}
use Rattle.std.specs.Prelude.{zip}
use Rattle.circle_verifier.specs.OfRun.{run_of}
use Rattle.circle_verifier.specs.Rows.{all_placed, rows_claimed, rows_at}
use Rattle.circle_verifier.proofs.checked.CheckedRun.claimed_rows.Given as goal

-- the rows of the batches so far are there
abbrev pub invariant-loop-batch : goal.invariant-loop-batch
invariant-loop-batch g l =
    let r = run_of l.self.run in
    map rows_at l.rows.items
    ≡ rows_claimed l.self.run.params.now.log_blowup
    (all_placed (take (length l.yielded) (zip r.batches r.proof.inputs)))
