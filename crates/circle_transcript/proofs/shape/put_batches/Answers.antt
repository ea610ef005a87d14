use Rattle.std.proofs.Common.{◌<◌, ◌++◌, flat_map, length, take, ap, ◌∙◌, arith}
use Rattle.std.proofs.lemmas.List.{take_all}
use Rattle.circle_transcript.specs.Shape.{batch_layout}
use Rattle.circle_transcript.specs.ShapeOf.{matrices_of, batches_of}
use Rattle.circle_transcript.proofs.Each.{one_more, mapped-push}
use Rattle.circle_transcript.proofs.Playing.{take_read}
use Rattle.circle_transcript.proofs.shape.put_batches.Goals as goal

pub loop-batch-preserved : goal.loop-batch-preserved
loop-batch-preserved c =
    let batches = c.args.batches.now in
    let i = c.loop-batch.batch-index in
    let b = c.batch-item.result in
    let within : i < length batches = omega arith in
    one_more (λ bs. flat_map batch_layout (batches_of bs)) (batch_layout (matrices_of b.items))
    batches i b _ _ _
    (take_read batches i b within c.batch-item.is)
    (mapped-push batch_layout (λ v. matrices_of v.items) (take i batches) b)
    c.loop-batch.invariant
    (c.in_ok-put_batch.ensures ∙ ap (λ ms. c.loop-batch.text.items ++ batch_layout (matrices_of ms))
    c.deref.ensures.value)

pub returns : goal.returns
returns c =
    c.loop-batch.invariant
    ∙ ap (λ bs. c.args.text.now.items ++ flat_map batch_layout (batches_of bs))
    (take_all c.loop-batch.batch-index c.args.batches.now c.loop-batch-test.false)
