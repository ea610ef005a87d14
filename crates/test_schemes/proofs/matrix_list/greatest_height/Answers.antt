use Rattle.std.proofs.Common.{◌∙◌, sym, ap}
use Rattle.std.specs.Prelude.{max}
use Rattle.circle_merkle.proofs.Heights.{max-more}
use Rattle.test_schemes.proofs.matrix_list.greatest_height.Goals as goal

pub loop-matrix-preserved : goal.loop-matrix-preserved
loop-matrix-preserved g c =
    c.max-top.ensures ∙ ap (λ h. max h c.loop-matrix.top) c.height.ensures
    ∙ ap (max _) c.loop-matrix.invariant
    ∙ sym
    (max-more c.args.matrices.now c.loop-matrix.matrix-index c.matrix-item.result
    c.loop-matrix-test.true c.matrix-item.is)
