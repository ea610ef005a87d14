use Rattle.std.proofs.Common.{length, map, ap, ◌∙◌}
use Rattle.std.proofs.lemmas.List.{take_all}
use Rattle.circle_relation.specs.StatementOf.{matrix_claims, batch_claim, batch_claims}
use Rattle.circle_relation.specs.Taken.{widths_by}
use Rattle.circle_transcript.specs.ShapeOf.{matrices_of}
use Rattle.circle_verifier.proofs.Items.{pushed-more}
use Rattle.circle_verifier.proofs.replay.widths_of_claims.Goals as goal

pub loop-batch-preserved : goal.loop-batch-preserved
loop-batch-preserved g c =
    pushed-more (λ b. map (λ m. map (λ c. length c.values) m.claims) b.matrices) batch_claim
    (λ b. matrices_of b.items) c.args.claims.now c.loop-batch.batch-index c.batch-item.result
    c.loop-batch.widths.items c.push.new.self.items c.in_ok-widths_of_batch.field-0
    c.loop-batch-test.true c.batch-item.is c.in_ok-push.ensures.items
    (c.in_ok-widths_of_batch.ensures
    ∙ ap (λ ms. map (λ m. map (λ c. length c.values) m.claims) (matrix_claims ms))
    c.deref.ensures.value) c.loop-batch.invariant

pub returns : goal.returns
returns g c =
    c.loop-batch.invariant
    ∙ ap (λ bs. widths_by (batch_claims bs))
    (take_all c.loop-batch.batch-index c.args.claims.now c.loop-batch-test.false)
