use Rattle.std.specs.Prelude.{Ok, ◌≡◌, ◌<◌, ◌^◌, All}
use Rattle.std.proofs.Common.{length, rules, sym, ap, ◌∙◌, subst}
use Rattle.circle_transcript.specs.Claims.{claims_of}
use Rattle.circle_transcript.specs.Draw.{draw, draw_seeded, widths_of}
use Rattle.circle_transcript.specs.Numbers.{numbers_of, run_steps}
use Rattle.circle_transcript.specs.ShapeOf.{shape_of}
use Rattle.circle_transcript.specs.Runs.{taken_of, drawn_leaving, IsMiss, ArePlayable}
use Rattle.circle_transcript.specs.Transcript.{current, numbers, run_of}
use Rattle.circle_transcript.proofs.Playing.{or_moved}
use Rattle.circle_transcript.proofs.run.verifier_run.Goals as goal

pub returns-in-Err-clause-failure : goal.returns-in-Err-clause-failure
returns-in-Err-clause-failure g c =
    let r = run_of c.of_seeded-transcript.result in
    let all = taken_of c.args.claims.now c.args.messages.now c.args.witnesses.now in
    or_moved (λ n s. IsMiss n (draw_seeded r n all s) c.in-Err.failure) _ _ _ _
    (c.of_seeded-transcript.ensures.shape ∙ c.in_ok-seeded.ensures.shape)
    (ap g.C.ChallengerState.state c.of_seeded-transcript.ensures.same
    ∙ c.in_ok-seeded.ensures.state) c.in-Err.ensures.failure

pub returns-in-Ok-clause-below : goal.returns-in-Ok-clause-below
returns-in-Ok-clause-below g c =
    subst (λ n. All (λ i. i < 2 ^ n.index_bits) c.in-Ok.draws.indices.items)
    (c.of_seeded-transcript.ensures.shape ∙ c.in_ok-seeded.ensures.shape) c.in-Ok.ensures.below

pub checking_run-requires-clause-next : goal.checking_run-requires-clause-next
checking_run-requires-clause-next g c =
    let degree = g.EF.ExtensionField.DEGREE in
    let widths = widths_of (claims_of c.args.claims.now) in
    let rounds = length c.args.messages.now.commitments.now in
    let n = numbers_of (shape_of c.args.shape) in
    c.of_seeded-transcript.ensures.due ∙ c.in_ok-seeded.ensures.due
    ∙ ap (λ v. run_steps degree v c.args.shape.num_commit_rounds n) (sym c.requires.claims)
    ∙ ap (λ k. run_steps degree widths k n) (sym c.requires.rounds)
    ∙ ap (run_steps degree widths rounds)
    (sym (c.of_seeded-transcript.ensures.shape ∙ c.in_ok-seeded.ensures.shape))

pub checking_run-requires-clause-small : goal.checking_run-requires-clause-small
checking_run-requires-clause-small g c =
    subst ArePlayable (sym (c.of_seeded-transcript.ensures.shape ∙ c.in_ok-seeded.ensures.shape))
    c.requires.small

pub checking_run-requires-clause-count : goal.checking_run-requires-clause-count
checking_run-requires-clause-count g c =
    c.requires.count
    ∙ ap (λ n. 2 ^ n.log_final_poly_len)
    (sym (c.of_seeded-transcript.ensures.shape ∙ c.in_ok-seeded.ensures.shape))

pub returns-in-Ok-clause-draws : goal.returns-in-Ok-clause-draws
returns-in-Ok-clause-draws g c =
    let r = run_of c.of_seeded-transcript.result in
    let all = taken_of c.args.claims.now c.args.messages.now c.args.witnesses.now in
    let begun = c.of_seeded-transcript.result in
    let moved : draw_seeded r (numbers begun) all (r.base.state (current begun)) ≡ draw r
    (shape_of c.args.shape) all (r.base.state c.args.challenger.now) =
    ap (λ n. draw_seeded r n all (r.base.state (current begun)))
    (c.of_seeded-transcript.ensures.shape ∙ c.in_ok-seeded.ensures.shape)
    ∙ ap (draw_seeded r (numbers_of (shape_of c.args.shape)) all)
    (ap g.C.ChallengerState.state c.of_seeded-transcript.ensures.same
    ∙ c.in_ok-seeded.ensures.state) in
    subst (λ v. draw r (shape_of c.args.shape) all (r.base.state c.args.challenger.now)
    ≡ Ok (drawn_leaving r c.in-Ok.draws v)) (search rules) (sym moved ∙ c.in-Ok.ensures.draws)
