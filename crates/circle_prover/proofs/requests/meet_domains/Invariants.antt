use Rattle.std.proofs.Common.{◌≡◌, Bool, false, take}
use Rattle.std.specs.List.{list_any}
use Rattle.circle_commit.specs.declared.pcs.OpeningRequest.{OpeningRequest}
use Rattle.circle_prover.specs.Requesting.{meets_standard}
use Rattle.circle_prover.proofs.requests.meet_domains.Given as goal

-- no matrix of the requests so far is to be opened on its domain
abbrev pub invariant-loop-request : goal.invariant-loop-request
invariant-loop-request g l =
    let test : OpeningRequest g.row.M-ProverData.Denot g.row.EF.Denot → Bool =
    λ r. meets_standard g.F.Operations.ops g.F.ComplexExtendable.generators g.EF.Operations.ops
    g.EF.ExtensionField.embed g.EF.PartialEq.eq (g.M.Mmcs.matrices r.prover_data.now)
    r.points.items in
    list_any test (take l.request-index l.requests) ≡ false
