use Rattle.std.proofs.Common.{◌++◌, flat_map, length, ap, ◌∙◌}
use Rattle.std.proofs.lemmas.List.{take_all}
use Rattle.circle_challenger.specs.Step.{be64}
use Rattle.circle_transcript.specs.ShapeOf.{matrices_of}
use Rattle.circle_transcript.proofs.shape.put_matrices.Goals as goal

pub returns : goal.returns
returns c =
    c.loop-matrix.invariant
    ∙ ap (λ ms. c.args.text.now.items ++ flat_map (λ m. be64 (length m)) (matrices_of ms))
    (take_all c.loop-matrix.matrix-index c.args.matrices.now c.loop-matrix-test.false)
