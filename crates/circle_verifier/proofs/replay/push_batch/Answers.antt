use Rattle.std.proofs.Common.{◌++◌, map, flat_map, All, sym, ap, subst, ◌∙◌}
use Rattle.std.proofs.lemmas.List.{take_all}
use Rattle.circle_domain.specs.Selectors.{IsFinite}
use Rattle.circle_relation.specs.StatementOf.{point_claim, matrix_claim, matrix_claims}
use Rattle.circle_transcript.specs.Claims.{claims_of}
use Rattle.circle_relation.specs.Taken.{point_taken}
use Rattle.circle_verifier.proofs.Items.{All-read}
use Rattle.circle_verifier.proofs.replay.push_batch.Goals as goal

pub push_matrix-requires : goal.push_matrix-requires
push_matrix-requires g c =
    subst (λ ps. All (λ p. IsFinite g.EF.Operations.ops p.point) (map point_claim ps))
    (sym c.deref.ensures.value)
    (All-read (λ m. All (λ p. IsFinite g.EF.Operations.ops p.point) m.claims) matrix_claim
    c.args.matrices.now c.loop-matrix.matrix-index c.matrix-item.result
    c.requires c.loop-matrix-test.true c.matrix-item.is)

pub returns : goal.returns
returns g c =
    c.loop-matrix.invariant
    ∙ ap (λ ms. claims_of c.args.claims.now.items
    ++ flat_map (λ m. map (point_taken g.EF.Operations.ops) m.claims) (matrix_claims ms))
    (take_all c.loop-matrix.matrix-index c.args.matrices.now c.loop-matrix-test.false)
