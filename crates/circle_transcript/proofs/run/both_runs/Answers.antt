use Rattle.std.specs.Prelude.{◌⊎◌}
use Rattle.std.proofs.Common.{◌≡◌, ap, sym, ◌∙◌, subst, inl, inr}
use Rattle.circle_transcript.specs.declared.failure.CircleTranscriptFailure.TheVariants.{Memory}
use Rattle.circle_transcript.specs.CircleRun.{moves_of, FindsNone}
use Rattle.circle_transcript.specs.Claims.{claims_of}
use Rattle.circle_transcript.specs.Draw.{draw, seeded}
use Rattle.circle_transcript.specs.Numbers.{numbers_of}
use Rattle.circle_transcript.specs.Runs.{taken_of, IsStuck, ArePlayable}
use Rattle.circle_transcript.specs.ShapeOf.{shape_of}
use Rattle.circle_transcript.proofs.Playing.{handed_on, same_ok, not_both}
use Rattle.circle_transcript.proofs.run.both_runs.Goals as goal

pub new-copy-requires : goal.new-copy-requires
new-copy-requires g c =
    subst (λ shape. ArePlayable (numbers_of shape)) (sym c.in_ok-try_clone.ensures)
    c.args.run.playable

pub returns-in_err-drawn-clause-failure : goal.returns-in_err-drawn-clause-failure
returns-in_err-drawn-clause-failure g c =
    let r = moves_of c.args.run in
    let e = c.in_err-drawn.field-0.0 in
    handed_on c.from_residual-in_err-drawn.result e
    (λ e. (e ≡ Memory) ⊎ FindsNone c.args.run c.args.claims.now c.args.messages.now
    c.args.prover.now e) c.from_residual-in_err-drawn.ensures.1
    (subst (λ shape. (e ≡ Memory) ⊎ IsStuck r (numbers_of shape) (claims_of c.args.claims.now)
    c.args.messages.now (seeded r shape (r.base.state c.args.prover.now)) e)
    (ap shape_of c.new-copy.ensures ∙ c.in_ok-try_clone.ensures) c.in_err-drawn.ensures.failure)

pub returns-in_err-redrawn-clause-failure : goal.returns-in_err-redrawn-clause-failure
returns-in_err-redrawn-clause-failure g c =
    let r = moves_of c.args.run in
    let all = taken_of c.args.claims.now c.args.messages.now c.in_ok-drawn.witnesses in
    let same : draw r (shape_of c.new-copy.result.shape) all (r.base.state c.args.prover.now)
    ≡ draw r (shape_of c.args.run.shape) all (r.base.state c.args.verifier.now) =
    ap (λ shape. draw r shape all (r.base.state c.args.prover.now))
    (ap shape_of c.new-copy.ensures ∙ c.in_ok-try_clone.ensures)
    ∙ ap (draw r (shape_of c.args.run.shape) all) c.requires.equal in
    handed_on c.from_residual-in_err-redrawn.result c.in_err-redrawn.field-0.0
    (λ e. (e ≡ Memory) ⊎ FindsNone c.args.run c.args.claims.now c.args.messages.now
    c.args.prover.now e) c.from_residual-in_err-redrawn.ensures.1
    (elim c.in_err-redrawn.ensures.failure [
      | inl refused ↦ inl refused
      | inr missed ↦ absurd (not_both _ _ _ _ c.in_ok-drawn.ensures.draws missed.failed same)
    ])

pub returns-clause-draws : goal.returns-clause-draws
returns-clause-draws g c =
    let r = moves_of c.args.run in
    let w = c.in_ok-drawn.witnesses in
    let all = taken_of c.args.claims.now c.args.messages.now w in (
      w,
      ap (λ shape. draw r shape all (r.base.state c.args.prover.now))
          (sym (ap shape_of c.new-copy.ensures ∙ c.in_ok-try_clone.ensures))
          ∙ c.in_ok-drawn.ensures.draws,
    )

pub returns-clause-alike : goal.returns-clause-alike
returns-clause-alike g c =
    let r = moves_of c.args.run in
    let all = taken_of c.args.claims.now c.args.messages.now c.in_ok-drawn.witnesses in
    let same : draw r (shape_of c.new-copy.result.shape) all (r.base.state c.args.prover.now)
    ≡ draw r (shape_of c.args.run.shape) all (r.base.state c.args.verifier.now) =
    ap (λ shape. draw r shape all (r.base.state c.args.prover.now))
    (ap shape_of c.new-copy.ensures ∙ c.in_ok-try_clone.ensures)
    ∙ ap (draw r (shape_of c.args.run.shape) all) c.requires.equal in
    same_ok _ _ _ _ c.in_ok-drawn.ensures.draws c.in_ok-redrawn.ensures.draws same
