use Rattle.circle_transcript.proofs.Due.{past_claims}
use Rattle.circle_transcript.proofs.Playing.{next_is, left_is}
use Rattle.circle_transcript.proofs.transcript.CircleTranscript+C+F+EF+Com+ProverSide.batch_phase.Goals as goal

pub grind-requires-clause-next : goal.grind-requires-clause-next
grind-requires-clause-next g c =
    (_, past_claims _ _ _ _ _ _ c.observe_claims.ensures.due c.requires.next.1)

pub challenge-requires : goal.challenge-requires
challenge-requires g c =
    record {
      next =
          next_is _ _ _
          (c.in_ok-witness.ensures.due _
          (past_claims _ _ _ _ _ _ c.observe_claims.ensures.due c.requires.next.1));
    }

pub returns-clause-due : goal.returns-clause-due
returns-clause-due g c = λ rest e.
    left_is _ _ _ _
    (c.in_ok-witness.ensures.due _ (past_claims _ _ _ rest _ _ c.observe_claims.ensures.due e))
    c.challenge.ensures.due
