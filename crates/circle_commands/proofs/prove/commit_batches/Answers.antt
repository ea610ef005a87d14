use Rattle.std.proofs.Common.{◌+◌, sym, subst, take, take_all, All}
use Rattle.circle_prover.proofs.Requested.{pushed-more}
use Rattle.circle_commands.specs.Proved.{AreCommitted, IsCommitted}
use Rattle.circle_commands.specs.Traces.{HasFittingRows}
use Rattle.circle_commands.proofs.Unproved.{error-is, first-uncommitted}
use Rattle.circle_commands.proofs.prove.commit_batches.Goals as goal

pub commit_batch-requires : goal.commit_batch-requires
commit_batch-requires c =
    subst (All HasFittingRows) (sym c.deref.ensures.value)
    (subst (λ b. All HasFittingRows b.items) (sym c.batch-item.is)
    (c.requires c.loop-batch.batch-index c.batch-item.result c.loop-batch-test.true))

pub loop-batch-preserved : goal.loop-batch-preserved
loop-batch-preserved c =
    let batches = c.args.batches.now in
    let i = c.loop-batch.batch-index in
    let mmcs = c.args.scheme.now.mmcs in
    let blowup = c.args.scheme.now.fri_params.log_blowup in
    let made = c.in_ok-commit_batch.field-0 in
    subst (AreCommitted mmcs blowup (take (i + 1) batches)) (sym c.in_ok-push_batch.ensures)
    (pushed-more (λ b m. IsCommitted mmcs blowup b.items m) batches i c.batch-item.result
    c.loop-batch.committed.items made c.loop-batch-test.true c.batch-item.is c.loop-batch.invariant
    (subst (λ ts. IsCommitted mmcs blowup ts made) c.deref.ensures.value
    c.in_ok-commit_batch.ensures.made))

pub returns-clause-made : goal.returns-clause-made
returns-clause-made c =
    let blowup = c.args.scheme.now.fri_params.log_blowup in
    subst (λ bs. AreCommitted c.args.scheme.now.mmcs blowup bs c.loop-batch.committed.items)
    (take_all c.loop-batch.batch-index c.args.batches.now c.loop-batch-test.false)
    c.loop-batch.invariant

pub returns-in_err-commit_batch-clause-reason : goal.returns-in_err-commit_batch-clause-reason
returns-in_err-commit_batch-clause-reason c =
    error-is _ _ c.in_err-commit_batch.field-0.0 c.from_residual-in_err-commit_batch.ensures.1
    (first-uncommitted c.args.scheme.now c.args.batches.now
    c.loop-batch.committed.items c.loop-batch.batch-index c.batch-item.result _
    c.in_err-commit_batch.field-0.0
    c.loop-batch-test.true c.batch-item.is c.loop-batch.invariant c.deref.ensures.value
    c.in_err-commit_batch.ensures.reason)
