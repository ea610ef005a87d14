use Rattle.std.proofs.Common.{All, sym, ap, subst, ◌∙◌}
use Rattle.std.proofs.lemmas.List.{take_all}
use Rattle.circle_domain.specs.Selectors.{IsFinite}
use Rattle.circle_relation.specs.StatementOf.{batch_claim, batch_claims, matrix_claims}
use Rattle.circle_relation.specs.Taken.{claims_taken}
use Rattle.circle_verifier.proofs.Items.{All-read-part}
use Rattle.circle_verifier.proofs.replay.opening_claims.Goals as goal

pub push_batch-requires : goal.push_batch-requires
push_batch-requires g c =
    subst
    (λ ms. All (λ m. All (λ p. IsFinite g.EF.Operations.ops p.point) m.claims)
    (matrix_claims ms)) (sym c.deref.ensures.value)
    (All-read-part (λ m. All (λ p. IsFinite g.EF.Operations.ops p.point) m.claims) (λ b. b.matrices)
    batch_claim c.args.batches.now c.loop-batch.batch-index c.batch-item.result
    c.requires c.loop-batch-test.true c.batch-item.is)

pub returns : goal.returns
returns g c =
    c.loop-batch.invariant
    ∙ ap (λ bs. claims_taken g.EF.Operations.ops (batch_claims bs))
    (take_all c.loop-batch.batch-index c.args.batches.now c.loop-batch-test.false)
