use Rattle.std.proofs.Common.{Vec, Global, All, subst, take_all}
use Rattle.std.proofs.lemmas.List.Elements.{All-more}
use Rattle.circle_commands.specs.Traces.{AreTall, HasTallRows, IsRefusalOfBatch, IsRefusalOfBatches}
use Rattle.circle_commands.specs.declared.prove.Trace.{Trace}
use Rattle.circle_commands.proofs.First.{first_at, refused_by}
use Rattle.circle_commands.proofs.prove.validate_batches.Goals as goal

pub returns-in_err-validate_batch : goal.returns-in_err-validate_batch
returns-in_err-validate_batch c =
    let batches = c.args.batches.now in
    let e = c.in_err-validate_batch.field-0.0 in
    let f = c.args.log_final_poly_len in
    let here : IsRefusalOfBatch f c.batch-item.result.items e =
    subst (λ ts. IsRefusalOfBatch f ts e) c.deref.ensures.value c.in_err-validate_batch.ensures in
    refused_by (AreTall f batches) (IsRefusalOfBatches f batches) c.from_residual.result e
    c.from_residual.ensures.1
    (first_at (λ b. All (HasTallRows f) b.items) (λ b. IsRefusalOfBatch f b.items e) batches
    c.loop-batch.batch-index c.batch-item.result c.loop-batch-test.true c.batch-item.is
    c.loop-batch.invariant here)

pub loop-batch-preserved : goal.loop-batch-preserved
loop-batch-preserved c =
    let f = c.args.log_final_poly_len in
    let Fits : Vec Trace Global → Type 0 = λ b. All (HasTallRows f) b.items in
    let here : Fits c.batch-item.result =
    subst (All (HasTallRows f)) c.deref.ensures.value c.in_ok-validate_batch.ensures in
    All-more Fits c.args.batches.now c.loop-batch.batch-index c.batch-item.result
    c.loop-batch-test.true c.loop-batch.invariant (subst Fits c.batch-item.is here)

pub returns : goal.returns
returns c =
    subst (AreTall c.args.log_final_poly_len)
    (take_all c.loop-batch.batch-index c.args.batches.now c.loop-batch-test.false)
    c.loop-batch.invariant
