use Rattle.std.proofs.Common.{map, take}
use Rattle.std.specs.List.{AllZip}
use Rattle.circle_relation.specs.RunOf.{opened_batch}
use Rattle.circle_codewords.specs.Requests.{HasBatchRows}
use Rattle.circle_prover.proofs.openable.OpenableRequests.open_inputs.Given as goal

-- of the requests so far the rows
abbrev pub invariant-loop-request : goal.invariant-loop-request
invariant-loop-request g l =
    AllZip
    (HasBatchRows g.InputMmcs.Mmcs.matrices (g.InputMmcs.Mmcs.commits l.self.mmcs.now)
    (g.InputMmcs.Mmcs.authenticates l.self.mmcs.now) l.log_max_height l.indices)
    (take l.request-index l.self.requests.now) (map opened_batch l.openings.items)
