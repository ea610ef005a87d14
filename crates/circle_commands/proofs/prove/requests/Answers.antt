use Rattle.std.proofs.Common.{◌+◌, refl, sym, subst, take, take_all}
use Rattle.std.specs.List.{AllZip}
use Rattle.circle_prover.proofs.Requested.{pushed-more}
use Rattle.circle_commands.specs.Proved.{IsRequested}
use Rattle.circle_commands.proofs.prove.requests.Goals as goal

pub loop-batch-preserved : goal.loop-batch-preserved
loop-batch-preserved c =
    let committed = c.args.committed.now in
    let i = c.loop-batch.batch-index in
    subst (AllZip IsRequested (take (i + 1) committed)) (sym c.in_ok-push.ensures.items)
    (pushed-more IsRequested committed i c.batch-item.result
    c.loop-batch.requests.items _ c.loop-batch-test.true c.batch-item.is c.loop-batch.invariant
    (record { matrices = refl; points = c.in_ok-points.ensures }))

pub returns : goal.returns
returns c =
    subst (λ cs. AllZip IsRequested cs c.loop-batch.requests.items)
    (take_all c.loop-batch.batch-index c.args.committed.now c.loop-batch-test.false)
    c.loop-batch.invariant
