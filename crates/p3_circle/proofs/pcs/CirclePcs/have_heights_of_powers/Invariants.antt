use Rattle.std.proofs.Common.{All, take}
use Rattle.circle_commit.specs.Mmcs.{HaveHeightsOfPowers}
use Rattle.p3_circle.proofs.pcs.CirclePcs.have_heights_of_powers.Given as goal

-- the matrices of the requests so far have such heights
abbrev pub invariant-loop-request : goal.invariant-loop-request
invariant-loop-request g l =
    All (λ r. HaveHeightsOfPowers (g.InputMmcs.Mmcs.matrices r.prover_data.now))
    (take l.request-index l.requests)
