use Rattle.std.proofs.Common.{◌≡◌, length, map, take, zip}
use Rattle.circle_commit.specs.Mmcs.{opened_rows}
use Rattle.circle_commit.specs.Claims.{batch_claimed, batch_told}
use Rattle.circle_commit.proofs.claims.claims_of.Given as goal

-- the claims so far are there
abbrev pub invariant-loop-batch : goal.invariant-loop-batch
invariant-loop-batch g l = map batch_told l.claims.items
    ≡ map (λ t. batch_claimed t.0 (opened_rows t.1.items))
    (take (length l.yielded) (zip l.fn.batches.items l.fn.values.items))
