use Rattle.std.proofs.Common.{◌+◌, sym, subst, take, take_all}
use Rattle.std.specs.List.{AllZip}
use Rattle.circle_prover.proofs.Requested.{pushed-more}
use Rattle.circle_commands.specs.Proved.{ArePlaced}
use Rattle.circle_commands.specs.Traces.{AreFittingRows, HasFittingRows}
use Rattle.circle_commands.proofs.prove.evaluations.Goals as goal

pub evaluation-requires : goal.evaluation-requires
evaluation-requires c =
    subst AreFittingRows (sym c.deref.ensures.value)
    (subst HasFittingRows (sym c.trace-item.is)
    (c.requires c.loop-trace.trace-index c.trace-item.result c.loop-trace-test.true))

pub loop-trace-preserved : goal.loop-trace-preserved
loop-trace-preserved c =
    let traces = c.args.traces.now in
    let i = c.loop-trace.trace-index in
    subst (λ es. AllZip (λ t e. ArePlaced t.rows.items e) (take (i + 1) traces) es)
    (sym c.in_ok-push.ensures.items)
    (pushed-more (λ t e. ArePlaced t.rows.items e) traces i c.trace-item.result
    c.loop-trace.evaluations.items c.in_ok-evaluation.field-0 c.loop-trace-test.true
    c.trace-item.is c.loop-trace.invariant
    (subst (λ rows. ArePlaced rows c.in_ok-evaluation.field-0) c.deref.ensures.value
    c.in_ok-evaluation.ensures))

pub returns : goal.returns
returns c =
    subst (λ ts. AllZip (λ t e. ArePlaced t.rows.items e) ts c.loop-trace.evaluations.items)
    (take_all c.loop-trace.trace-index c.args.traces.now c.loop-trace-test.false)
    c.loop-trace.invariant
