use Rattle.circle_transcript.proofs.Due.{past_commitment}
use Rattle.circle_transcript.proofs.Playing.{next_is, left_is}
use Rattle.circle_transcript.proofs.transcript.CircleTranscript+C+F+EF+Com+VerifierSide.commit_round.Goals as goal

pub check-requires-clause-next : goal.check-requires-clause-next
check-requires-clause-next g c =
    (_, past_commitment _ _ _ _ _ c.requires.next.1 c.observe_commitment.ensures.due)

pub challenge-requires : goal.challenge-requires
challenge-requires g c =
    record {
      next =
          next_is _ _ _
          (c.in_ok-check.ensures.due _
          (past_commitment _ _ _ _ _ c.requires.next.1 c.observe_commitment.ensures.due));
    }

pub returns-clause-due : goal.returns-clause-due
returns-clause-due g c = λ rest e.
    left_is _ _ _ _
    (c.in_ok-check.ensures.due _
    (past_commitment _ _ rest _ _ e c.observe_commitment.ensures.due))
    c.challenge.ensures.due
