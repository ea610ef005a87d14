use Rattle.std.proofs.Common.{refl}
use Rattle.circle_domain.specs.Selectors.{IsFinite}
use Rattle.circle_relation.specs.StatementOf.{point_claim}
use Rattle.circle_verifier.proofs.Items.{All-read}
use Rattle.circle_verifier.proofs.replay.push_matrix.Goals as goal

pub unreachable-requires : goal.unreachable-requires
unreachable-requires g c =
    All-read (λ p. IsFinite g.EF.Operations.ops p.point) point_claim c.args.points.now
    c.loop-opening.opening-index c.opening-item.result
    c.requires c.loop-opening-test.true c.opening-item.is (c.in-None.ensures.none.0 refl)
