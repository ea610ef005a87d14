use Rattle.std.proofs.lemmas.Result.{IfOk-weaker}
use Rattle.circle_stark.proofs.prover.open_requests.Goals as goal

pub returns-clause-only : goal.returns-clause-only
returns-clause-only g c =
    IfOk-weaker c.open.result _ _
    (λ r opened. g.met.P.Pcs.true_values c.args.pcs.now _ _ r.1 _ _ opened) c.open.ensures.opened
