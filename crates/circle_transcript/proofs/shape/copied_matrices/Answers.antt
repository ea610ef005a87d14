use Rattle.std.proofs.Common.{◌≡◌, ◌<◌, ◌++◌, ◌∷◌, [], length, take, sym, ap, ◌∙◌, arith}
use Rattle.std.proofs.lemmas.List.{map-append, take_all}
use Rattle.circle_transcript.specs.ShapeOf.{matrices_of}
use Rattle.circle_transcript.proofs.Playing.{take_read}
use Rattle.circle_transcript.proofs.shape.copied_matrices.Goals as goal

pub loop-matrix-preserved : goal.loop-matrix-preserved
loop-matrix-preserved c =
    let matrices = c.args.matrices.now in
    let i = c.loop-matrix.matrix-index in
    let m = c.matrix-item.result in
    let copy = c.in_ok-from_slice.field-0 in
    let within : i < length matrices = omega arith in
    let same : copy.items ≡ m.items = c.in_ok-from_slice.ensures.items ∙ c.deref.ensures.value in
    ap matrices_of c.in_ok-push.ensures.items
    ∙ map-append (λ m. m.items) c.loop-matrix.copies.items (copy ∷ [])
    ∙ ap (λ before. before ++ copy.items ∷ []) c.loop-matrix.invariant
    ∙ ap (λ last. matrices_of (take i matrices) ++ last ∷ []) same
    ∙ sym (ap matrices_of (take_read matrices i m within c.matrix-item.is)
    ∙ map-append (λ m. m.items) (take i matrices) (m ∷ []))

pub returns : goal.returns
returns c = c.loop-matrix.invariant
    ∙ ap matrices_of
    (take_all c.loop-matrix.matrix-index c.args.matrices.now c.loop-matrix-test.false)
