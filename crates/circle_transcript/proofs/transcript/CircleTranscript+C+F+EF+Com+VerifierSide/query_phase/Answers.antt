use Rattle.std.proofs.Common.{sym, ap, inr}
use Rattle.circle_challenger.specs.Moves.{is_passed, after_pow}
use Rattle.circle_commit.specs.declared.params.PowPhase.TheVariants.{Query}
use Rattle.circle_transcript.specs.Draw.{indices}
use Rattle.circle_transcript.specs.Transcript.{at_query_pow, run_of, or_bad_witness}
use Rattle.circle_transcript.proofs.Due.{past_final_poly}
use Rattle.circle_transcript.proofs.Phases.{passed_on}
use Rattle.circle_transcript.proofs.Playing.{next_is, left_is}
use Rattle.circle_transcript.proofs.transcript.CircleTranscript+C+F+EF+Com+VerifierSide.query_phase.Goals as goal

pub check-requires-clause-next : goal.check-requires-clause-next
check-requires-clause-next g c =
    (_, past_final_poly _ _ _ _ _ _ _ _ c.requires.next.1 c.observe_final_poly.ensures.due)

pub draw_indices-requires-clause-next : goal.draw_indices-requires-clause-next
draw_indices-requires-clause-next g c =
    next_is _ _ _
    (c.in_ok-check.ensures.due _
    (past_final_poly _ _ _ _ _ _ _ _ c.requires.next.1 c.observe_final_poly.ensures.due))

pub returns-clause-due : goal.returns-clause-due
returns-clause-due g c = λ rest e.
    left_is _ _ _ _
    (c.in_ok-check.ensures.due _
    (past_final_poly _ _ _ _ _ rest _ _ e c.observe_final_poly.ensures.due))
    c.in_ok-draw_indices.ensures.due

pub returns-clause-played : goal.returns-clause-played
returns-clause-played g c =
    let old = c.args.self.now in
    let r = run_of old in
    let n = old.shape in
    let w = c.args.witness in
    inr (sym (ap (or_bad_witness n) (passed_on Query (λ s. is_passed r.base s n.query_pow_bits w)
    (λ s. after_pow r.base s n.query_pow_bits w) (indices r.base n)
    (at_query_pow old c.args.final_poly.now) _ _ _ c.observe_final_poly.ensures.state
    c.in_ok-check.ensures.passes c.check.ensures.state c.in_ok-draw_indices.ensures.drawn)))
