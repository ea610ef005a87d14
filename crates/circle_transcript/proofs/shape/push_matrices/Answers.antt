use Rattle.std.proofs.Common.{◌<◌, ◌++◌, flat_map, length, map, take, ap, ◌∙◌, arith}
use Rattle.std.proofs.lemmas.List.{take_all}
use Rattle.circle_challenger.specs.Interaction.{step_of}
use Rattle.circle_transcript.specs.Shape.{claim_steps}
use Rattle.circle_transcript.specs.ShapeOf.{matrices_of}
use Rattle.circle_transcript.proofs.Each.{one_more, matrices-push}
use Rattle.circle_transcript.proofs.Playing.{take_read}
use Rattle.circle_transcript.proofs.shape.push_matrices.Goals as goal

pub loop-matrix-preserved : goal.loop-matrix-preserved
loop-matrix-preserved c =
    let steps = claim_steps c.args.degree in
    let matrices = c.args.matrices.now in
    let i = c.loop-matrix.matrix-index in
    let m = c.matrix-item.result in
    let within : i < length matrices = omega arith in
    one_more (λ ms. flat_map steps (flat_map (λ m. m) (matrices_of ms))) (flat_map steps m.items)
    matrices i m _ _ _
    (take_read matrices i m within c.matrix-item.is) (matrices-push steps (take i matrices) m)
    c.loop-matrix.invariant
    (c.in_ok-push_claims.ensures
    ∙ ap (λ ws. map step_of c.loop-matrix.steps.items ++ flat_map steps ws)
    c.deref.ensures.value)

pub returns : goal.returns
returns c =
    let steps = claim_steps c.args.degree in
    c.loop-matrix.invariant
    ∙ ap (λ ms. map step_of c.args.steps.now.items
    ++ flat_map steps (flat_map (λ m. m) (matrices_of ms)))
    (take_all c.loop-matrix.matrix-index c.args.matrices.now c.loop-matrix-test.false)
