use Rattle.std.proofs.Common.{◌<◌, ◌++◌, flat_map, length, map, take, ap, ◌∙◌, arith}
use Rattle.std.proofs.lemmas.List.{take_all}
use Rattle.circle_challenger.specs.Interaction.{step_of}
use Rattle.circle_transcript.specs.Shape.{claim_steps, widths_in}
use Rattle.circle_transcript.specs.ShapeOf.{matrices_of, batches_of}
use Rattle.circle_transcript.proofs.Each.{one_more, batches-push}
use Rattle.circle_transcript.proofs.Playing.{take_read}
use Rattle.circle_transcript.proofs.shape.push_batches.Goals as goal

pub loop-batch-preserved : goal.loop-batch-preserved
loop-batch-preserved c =
    let steps = claim_steps c.args.degree in
    let batches = c.args.batches.now in
    let i = c.loop-batch.batch-index in
    let b = c.batch-item.result in
    let within : i < length batches = omega arith in
    one_more (λ bs. flat_map steps (widths_in (batches_of bs)))
    (flat_map steps (flat_map (λ m. m) (matrices_of b.items))) batches i b _ _ _
    (take_read batches i b within c.batch-item.is) (batches-push steps (take i batches) b)
    c.loop-batch.invariant
    (c.in_ok-push_matrices.ensures
    ∙ ap (λ ms. map step_of c.loop-batch.steps.items
    ++ flat_map steps (flat_map (λ m. m) (matrices_of ms))) c.deref.ensures.value)

pub returns : goal.returns
returns c =
    let steps = claim_steps c.args.degree in
    c.loop-batch.invariant
    ∙ ap (λ bs. map step_of c.args.steps.now.items ++ flat_map steps (widths_in (batches_of bs)))
    (take_all c.loop-batch.batch-index c.args.batches.now c.loop-batch-test.false)
