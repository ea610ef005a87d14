use Rattle.std.proofs.Common.{◌≡◌, ◌<◌, ◌++◌, ◌∷◌, [], length, take, sym, ap, ◌∙◌, arith}
use Rattle.std.proofs.lemmas.List.{map-append, take_all}
use Rattle.circle_transcript.specs.ShapeOf.{matrices_of, batches_of}
use Rattle.circle_transcript.proofs.Playing.{take_read}
use Rattle.circle_transcript.proofs.shape.copied_batches.Goals as goal

pub loop-batch-preserved : goal.loop-batch-preserved
loop-batch-preserved c =
    let batches = c.args.batches.now in
    let i = c.loop-batch.batch-index in
    let b = c.batch-item.result in
    let copy = c.in_ok-copied_matrices.field-0 in
    let within : i < length batches = omega arith in
    let same : matrices_of copy.items ≡ matrices_of b.items = c.in_ok-copied_matrices.ensures
    ∙ ap matrices_of c.deref.ensures.value in
    ap batches_of c.in_ok-push.ensures.items
    ∙ map-append (λ b. matrices_of b.items) c.loop-batch.copies.items (copy ∷ [])
    ∙ ap (λ before. before ++ matrices_of copy.items ∷ []) c.loop-batch.invariant
    ∙ ap (λ last. batches_of (take i batches) ++ last ∷ []) same
    ∙ sym (ap batches_of (take_read batches i b within c.batch-item.is)
    ∙ map-append (λ b. matrices_of b.items) (take i batches) (b ∷ []))

pub returns : goal.returns
returns c = c.loop-batch.invariant
    ∙ ap batches_of (take_all c.loop-batch.batch-index c.args.batches.now c.loop-batch-test.false)
