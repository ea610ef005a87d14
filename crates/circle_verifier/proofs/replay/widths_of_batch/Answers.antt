use Rattle.std.proofs.Common.{length, map, ap, ◌∙◌}
use Rattle.std.proofs.lemmas.List.{take_all}
use Rattle.circle_relation.specs.StatementOf.{point_claim, matrix_claim, matrix_claims}
use Rattle.circle_verifier.proofs.Items.{pushed-more}
use Rattle.circle_verifier.proofs.replay.widths_of_batch.Goals as goal

pub loop-matrix-preserved : goal.loop-matrix-preserved
loop-matrix-preserved g c =
    pushed-more (λ m. map (λ c. length c.values) m.claims) matrix_claim (λ v. v.items)
    c.args.matrices.now c.loop-matrix.matrix-index c.matrix-item.result
    c.loop-matrix.widths.items c.push.new.self.items c.in_ok-widths_of_matrix.field-0
    c.loop-matrix-test.true c.matrix-item.is c.in_ok-push.ensures.items
    (c.in_ok-widths_of_matrix.ensures ∙ ap (λ ps. map (λ c. length c.values) (map point_claim ps))
    c.deref.ensures.value) c.loop-matrix.invariant

pub returns : goal.returns
returns g c =
    c.loop-matrix.invariant
    ∙ ap (λ ms. map (λ m. map (λ c. length c.values) m.claims) (matrix_claims ms))
    (take_all c.loop-matrix.matrix-index c.args.matrices.now c.loop-matrix-test.false)
