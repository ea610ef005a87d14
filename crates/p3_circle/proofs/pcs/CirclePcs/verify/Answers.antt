use Rattle.std.proofs.Common.{refl, sym, ap, ◌∙◌, inr}
use Rattle.circle_relation.proofs.Answering.{refused-is}
use Rattle.circle_relation.proofs.Results.{on_one, if_err}
use Rattle.circle_verifier.specs.OfTested.{parts_of}
use Rattle.circle_verifier.proofs.Verified.{not_true}
use Rattle.p3_circle.proofs.Verdicts.{at_err, at_ok, not_both, first-by, later-by, of-three}
use Rattle.p3_circle.proofs.Verdicts.{first-refused, none-refused, accepted-passes, missed-memory}
use Rattle.p3_circle.proofs.Verdicts.{reason-memory, accepted-of, refused-of, undrawn-of}
use Rattle.p3_circle.proofs.pcs.CirclePcs.verify.Goals as goal

pub returns-in_err-run-clause-first : goal.returns-in_err-run-clause-first
returns-in_err-run-clause-first g c =
    let e = c.in_err-run.field-0.0 in
    let first =
    first-refused c.new.result _ _ _ (rw c.deref.ensures.value at c.new.ensures) e
    c.in_err-run.was in
    at_err _ _ e first (refused-is c.from_residual.result e c.from_residual.ensures.1, refl)

pub returns-in_err-run-clause-complete : goal.returns-in_err-run-clause-complete
returns-in_err-run-clause-complete g c =
    let e = c.in_err-run.field-0.0 in
    let first =
    first-refused c.new.result _ _ _ (rw c.deref.ensures.value at c.new.ensures) e
    c.in_err-run.was in
    let null = g.Val.Field.ZERO in
    at_err _ _ e (refused-is c.from_residual.result e c.from_residual.ensures.1)
    (λ left a. absurd
    (not_both _ _ _
    (accepted-passes c.args.claims.items c.args.proof.now a
    (λ w h. (g.met.Val.Field.eq_law w null).1 (h ∙ sym g.met.Val.Field.zero_law))
    (λ t h. not_true _ (λ at. h ((g.met.EF.Field.eq_law _ _).0 at)))) first))

pub returns-in_err-run-clause-reason : goal.returns-in_err-run-clause-reason
returns-in_err-run-clause-reason g c =
    let e = c.in_err-run.field-0.0 in
    let first =
    first-refused c.new.result _ _ _ (rw c.deref.ensures.value at c.new.ensures) e
    c.in_err-run.was in
    at_err _ _ e (refused-is c.from_residual.result e c.from_residual.ensures.1)
    (first-by _ _ e (g.C.ChallengerState.state c.args.challenger.now) first)

pub returns-in_err-drawn-clause-first : goal.returns-in_err-drawn-clause-first
returns-in_err-drawn-clause-first g c =
    at_ok _ _ _
    (none-refused c.new.result _ _ _ (rw c.deref.ensures.value at c.new.ensures) _
    c.in_ok-run.was).0

pub returns-in_err-drawn-clause-complete : goal.returns-in_err-drawn-clause-complete
returns-in_err-drawn-clause-complete g c =
    let e = c.in_err-drawn.field-0.0 in
    let tests =
    none-refused c.new.result _ _ _ (rw c.deref.ensures.value at c.new.ensures) _ c.in_ok-run.was in
    at_err _ _ e
    (refused-is c.from_residual-in_err-drawn.result e c.from_residual-in_err-drawn.ensures.1)
    (λ left a. missed-memory c.args.claims.items c.args.proof.now a e
    (undrawn-of _ c.in_ok-run.run' _ _ _ c.args.challenger.now e tests.1
    c.in_err-drawn.ensures.failure))

pub returns-in_err-drawn-clause-reason : goal.returns-in_err-drawn-clause-reason
returns-in_err-drawn-clause-reason g c =
    let e = c.in_err-drawn.field-0.0 in
    let tests =
    none-refused c.new.result _ _ _ (rw c.deref.ensures.value at c.new.ensures) _ c.in_ok-run.was in
    at_err _ _ e
    (refused-is c.from_residual-in_err-drawn.result e c.from_residual-in_err-drawn.ensures.1)
    (later-by _ _ e (g.C.ChallengerState.state c.args.challenger.now)
    (g.C.ChallengerState.state c.replay_transcript.new.challenger) tests.0
    (of-three
    (undrawn-of _ c.in_ok-run.run' _ _ _ c.args.challenger.now e tests.1
    c.in_err-drawn.ensures.failure)))

pub returns-clause-first : goal.returns-clause-first
returns-clause-first g c =
    at_ok _ _ _
    (none-refused c.new.result _ _ _ (rw c.deref.ensures.value at c.new.ensures) _
    c.in_ok-run.was).0

pub returns-clause-accepted : goal.returns-clause-accepted
returns-clause-accepted g c =
    let tests =
    none-refused c.new.result _ _ _ (rw c.deref.ensures.value at c.new.ensures) _ c.in_ok-run.was in
    let drawn = c.in_ok-drawn.ensures in
    on_one c.verify.result
    (accepted-of c.in_ok-drawn.drawn _ _ _ (tests.1 ∙ ap parts_of (sym drawn.run)) _
    c.args.challenger.now c.replay_transcript.new.challenger drawn.drawn)
    c.verify.ensures.accepted

pub returns-clause-complete : goal.returns-clause-complete
returns-clause-complete g c =
    let tests =
    none-refused c.new.result _ _ _ (rw c.deref.ensures.value at c.new.ensures) _ c.in_ok-run.was in
    let drawn = c.in_ok-drawn.ensures in
    if_err _ _ c.verify.result
    (λ e why left a. reason-memory g.met.EF.ExtensionField.are_coefficients.determined
    (refused-of c.in_ok-drawn.drawn _ _ _ (tests.1 ∙ ap parts_of (sym drawn.run)) _
    c.args.challenger.now c.replay_transcript.new.challenger drawn.drawn e why) a)
    c.verify.ensures.refused

pub returns-clause-reason : goal.returns-clause-reason
returns-clause-reason g c =
    let tests =
    none-refused c.new.result _ _ _ (rw c.deref.ensures.value at c.new.ensures) _ c.in_ok-run.was in
    let drawn = c.in_ok-drawn.ensures in
    if_err _ _ c.verify.result
    (λ e why. later-by _ _ e (g.C.ChallengerState.state c.args.challenger.now)
    (g.C.ChallengerState.state c.replay_transcript.new.challenger) tests.0
    (inr
    (inr
    (refused-of c.in_ok-drawn.drawn _ _ _ (tests.1 ∙ ap parts_of (sym drawn.run)) _
    c.args.challenger.now c.replay_transcript.new.challenger drawn.drawn e why))))
    c.verify.ensures.refused
