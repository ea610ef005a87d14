use Rattle.std.specs.Prelude.{◌⊎◌, Ok, All, IfErr}
use Rattle.std.proofs.Common.{◌≡◌, ◌<◌, ◌≤◌, ◌^◌, ◌++◌, List, [], length, refl, sym, ap, ◌∙◌}
use Rattle.std.proofs.Common.{inl, inr, subst}
use Rattle.std.specs.Borrow.{Bor}
use Rattle.circle_point.specs.declared.point.Point.{Point}
use Rattle.circle_transcript.specs.declared.failure.CircleTranscriptFailure.TheVariants.{Memory}
use Rattle.circle_transcript.specs.declared.run.CircleMessages.{CircleMessages}
use Rattle.circle_transcript.specs.declared.run.CircleWitnesses.{CircleWitnesses}
use Rattle.circle_transcript.specs.Claims.{claims_of}
use Rattle.circle_transcript.specs.Draw.{Taken, draw_seeded}
use Rattle.circle_transcript.specs.Runs.{taken_with, taken_of, drawn_of, IsMiss}
use Rattle.circle_transcript.specs.Shape.{rounds_steps}
use Rattle.circle_transcript.specs.Numbers.{indices_steps}
use Rattle.circle_transcript.specs.declared.transcript.Numbers.{Numbers}
use Rattle.circle_transcript.specs.Transcript.{numbers, outcome, run_of, state_of}
use Rattle.circle_transcript.proofs.Playing.{handed_on}
use Rattle.circle_transcript.proofs.Phases.{gave, missed, not_refused, same_failure}
use Rattle.circle_transcript.proofs.Runs.{indices_due, same_on}
use Rattle.circle_transcript.proofs.Drawn.{at_rounds, at_query, miss_moved, fails_batch}
use Rattle.circle_transcript.proofs.Drawn.{fails_rounds}
use Rattle.circle_transcript.proofs.Drawn.{fails_query, all_drawn}
use Rattle.circle_transcript.proofs.run.checking_run.Goals as goal

-- what the run absorbs, with this list of the rounds' witnesses
abbrev taken_beside : {F E Com : Type 0} {g : _} → List (Point E g × Bor (List E)) →
    CircleMessages E Com → CircleWitnesses F → List F → Taken F E Com
taken_beside claims messages witnesses rounds =
    taken_with (claims_of claims) messages witnesses.batch rounds witnesses.query

pub returns-in_err-alpha-clause-failure : goal.returns-in_err-alpha-clause-failure
returns-in_err-alpha-clause-failure g c =
    let old = c.args.transcript.now in
    let r = run_of old in
    let n = numbers old in
    let s = state_of old in
    let coefficients = g.EF.ExtensionField.coefficients in
    let all = taken_of c.args.claims.now c.args.messages.now c.args.witnesses.now in
    let e = c.in_err-alpha.field-0.0 in
    handed_on c.from_residual.result e (λ e. (e ≡ Memory) ⊎ IsMiss n (draw_seeded r n all s) e)
    c.from_residual.ensures.1
    (inr
    (miss_moved n n _ (draw_seeded r n all s) e refl (fails_batch r n all s)
    (missed n _ e (ap (outcome c.batch_phase.new.self coefficients) (sym c.in_err-alpha.was)
    ∙ c.batch_phase.ensures.played))))

pub returns-in_err-betas-clause-failure : goal.returns-in_err-betas-clause-failure
returns-in_err-betas-clause-failure g c =
    let old = c.args.transcript.now in
    let r = run_of old in
    let n = numbers old in
    let s = state_of old in
    let coefficients = g.EF.ExtensionField.coefficients in
    let all = taken_beside c.args.claims.now c.args.messages.now c.args.witnesses.now
    c.deref.result.now in
    let same2 = c.first_layer-bivariate.ensures.same.shape ∙ c.batch_phase.ensures.same.shape in
    let second = at_rounds r n all s same2
    (gave n _ _ (ap (outcome c.batch_phase.new.self coefficients) (sym c.in_ok-alpha.was)
    ∙ c.batch_phase.ensures.played)) c.first_layer-bivariate.ensures.played in
    let e = c.in_err-betas.field-0.0 in
    subst
    (λ v. IfErr c.from_residual-in_err-betas.result
    (λ e. (e ≡ Memory)
    ⊎ IsMiss n
    (draw_seeded r n (taken_beside c.args.claims.now c.args.messages.now c.args.witnesses.now v)
    s) e)) c.deref.ensures.value
    (handed_on c.from_residual-in_err-betas.result e
    (λ e. (e ≡ Memory) ⊎ IsMiss n (draw_seeded r n all s) e)
    c.from_residual-in_err-betas.ensures.1
    (elim c.in_err-betas.ensures.failure [
      | inl refused ↦ inl refused
      | inr miss ↦
          inr
          (miss_moved _ n _ (draw_seeded r n all s) e same2
          (fails_rounds r n all s _ _ _ _ second) miss)
    ]))

-- the steps that are due before the indices
pub query_phase-requires-clause-next : goal.query_phase-requires-clause-next
query_phase-requires-clause-next g c = (
  [],
  indices_due g.EF.ExtensionField.DEGREE (length c.args.messages.now.commitments.now)
      (numbers c.args.transcript.now) _ _ _ _ (c.first_layer-bivariate.ensures.same.shape
      ∙ c.batch_phase.ensures.same.shape) c.checking_rounds.ensures.same.shape
      (c.first_layer-bivariate.ensures.due _ (c.in_ok-alpha.ensures.due _ c.requires.next))
      c.in_ok-betas.ensures.due,
)

pub returns-clause-due : goal.returns-clause-due
returns-clause-due g c =
    c.in_ok-indices.ensures.due []
    (indices_due g.EF.ExtensionField.DEGREE (length c.args.messages.now.commitments.now)
    (numbers c.args.transcript.now) _ _ _ _ (c.first_layer-bivariate.ensures.same.shape
    ∙ c.batch_phase.ensures.same.shape) c.checking_rounds.ensures.same.shape
    (c.first_layer-bivariate.ensures.due _ (c.in_ok-alpha.ensures.due _ c.requires.next))
    c.in_ok-betas.ensures.due)

pub returns-in_err-indices-clause-failure : goal.returns-in_err-indices-clause-failure
returns-in_err-indices-clause-failure g c =
    let old = c.args.transcript.now in
    let r = run_of old in
    let n = numbers old in
    let s = state_of old in
    let coefficients = g.EF.ExtensionField.coefficients in
    let all = taken_beside c.args.claims.now c.args.messages.now c.args.witnesses.now
    c.deref.result.now in
    let same2 = c.first_layer-bivariate.ensures.same.shape ∙ c.batch_phase.ensures.same.shape in
    let second = at_rounds r n all s same2
    (gave n _ _ (ap (outcome c.batch_phase.new.self coefficients) (sym c.in_ok-alpha.was)
    ∙ c.batch_phase.ensures.played)) c.first_layer-bivariate.ensures.played in
    let third = at_query r n all s _ _ _ (numbers c.checking_rounds.new.transcript) _ _ _ second
    c.checking_rounds.ensures.same.shape c.in_ok-betas.ensures.played in
    let e = c.in_err-indices.field-0.0 in
    subst
    (λ v. IfErr c.from_residual-in_err-indices.result
    (λ e. (e ≡ Memory)
    ⊎ IsMiss n
    (draw_seeded r n (taken_beside c.args.claims.now c.args.messages.now c.args.witnesses.now v)
    s) e)) c.deref.ensures.value
    (handed_on c.from_residual-in_err-indices.result e
    (λ e. (e ≡ Memory) ⊎ IsMiss n (draw_seeded r n all s) e)
    c.from_residual-in_err-indices.ensures.1
    (elim c.query_phase.ensures.played [
      | inl refused ↦ inl (same_failure c.query_phase.result e Memory c.in_err-indices.was refused)
      | inr played ↦
          inr
          (miss_moved _ n _ (draw_seeded r n all s) e
          (c.checking_rounds.ensures.same.shape ∙ same2)
          (fails_query r n all s _ _ _ _ _ third)
          (missed _ _ e
          (ap (outcome c.query_phase.new.self (λ v. v.items)) (sym c.in_err-indices.was)
          ∙ played)))
    ]))

pub returns-clause-draws : goal.returns-clause-draws
returns-clause-draws g c =
    let old = c.args.transcript.now in
    let r = run_of old in
    let n = numbers old in
    let s = state_of old in
    let coefficients = g.EF.ExtensionField.coefficients in
    let all = taken_beside c.args.claims.now c.args.messages.now c.args.witnesses.now
    c.deref.result.now in
    let same2 = c.first_layer-bivariate.ensures.same.shape ∙ c.batch_phase.ensures.same.shape in
    let second = at_rounds r n all s same2
    (gave n _ _ (ap (outcome c.batch_phase.new.self coefficients) (sym c.in_ok-alpha.was)
    ∙ c.batch_phase.ensures.played)) c.first_layer-bivariate.ensures.played in
    let third = at_query r n all s _ _ _ (numbers c.checking_rounds.new.transcript) _ _ _ second
    c.checking_rounds.ensures.same.shape c.in_ok-betas.ensures.played in
    let drawn =
    drawn_of coefficients
    (record {
      alpha = c.in_ok-alpha.alpha;
      bivariate = c.first_layer-bivariate.result;
      betas =
          c.in_ok-betas.betas;
      indices = c.in_ok-indices.indices;
    })
    (state_of c.query_phase.new.self) in
    subst
    (λ v. draw_seeded r n
    (taken_beside c.args.claims.now c.args.messages.now c.args.witnesses.now v) s ≡ Ok drawn)
    c.deref.ensures.value
    (all_drawn r n all s _ _ _ _ _ third drawn.indices drawn.state
    (gave (numbers c.checking_rounds.new.transcript) _ _
    (ap (outcome c.query_phase.new.self (λ v. v.items)) (sym c.in_ok-indices.was)
    ∙ not_refused _ c.query_phase.result c.in_ok-indices.indices c.in_ok-indices.was
    c.query_phase.ensures.played)))

pub batch_phase-requires-clause-next : goal.batch_phase-requires-clause-next
batch_phase-requires-clause-next g c = (_, c.requires.next)

pub batch_phase-requires-clause-small : goal.batch_phase-requires-clause-small
batch_phase-requires-clause-small g c = c.requires.small.batch

pub checking_rounds-requires-clause-next : goal.checking_rounds-requires-clause-next
checking_rounds-requires-clause-next g c =
    let n = numbers c.args.transcript.now in (
      _,
      c.first_layer-bivariate.ensures.due _ (c.in_ok-alpha.ensures.due _ c.requires.next)
          ∙ ap
          (λ (v : Numbers). rounds_steps g.EF.ExtensionField.DEGREE v.commit_pow_bits
          (length c.args.messages.now.commitments.now)
          ++ indices_steps g.EF.ExtensionField.DEGREE n)
          (sym (c.first_layer-bivariate.ensures.same.shape ∙ c.batch_phase.ensures.same.shape)),
    )

pub checking_rounds-requires-clause-small : goal.checking_rounds-requires-clause-small
checking_rounds-requires-clause-small g c =
    subst (λ n. n.commit_pow_bits ≤ 63)
    (sym (c.first_layer-bivariate.ensures.same.shape ∙ c.batch_phase.ensures.same.shape))
    c.requires.small.commit

pub checking_rounds-requires-clause-paired : goal.checking_rounds-requires-clause-paired
checking_rounds-requires-clause-paired g c = ap length c.deref.ensures.value ∙ c.requires.paired

pub query_phase-requires-clause-small : goal.query_phase-requires-clause-small
query_phase-requires-clause-small g c =
    subst (λ n. n.query_pow_bits ≤ 63)
    (sym (c.checking_rounds.ensures.same.shape ∙ c.first_layer-bivariate.ensures.same.shape
    ∙ c.batch_phase.ensures.same.shape)) c.requires.small.query

pub query_phase-requires-clause-narrow : goal.query_phase-requires-clause-narrow
query_phase-requires-clause-narrow g c =
    subst (λ n. n.index_bits ≤ 63)
    (sym (c.checking_rounds.ensures.same.shape ∙ c.first_layer-bivariate.ensures.same.shape
    ∙ c.batch_phase.ensures.same.shape)) c.requires.small.index

pub query_phase-requires-clause-count : goal.query_phase-requires-clause-count
query_phase-requires-clause-count g c =
    c.requires.count
    ∙ ap (λ n. 2 ^ n.log_final_poly_len)
    (sym (c.checking_rounds.ensures.same.shape ∙ c.first_layer-bivariate.ensures.same.shape
    ∙ c.batch_phase.ensures.same.shape))

pub returns-in_err-alpha-clause-same : goal.returns-in_err-alpha-clause-same
returns-in_err-alpha-clause-same g c = c.batch_phase.ensures.same

pub returns-in_err-betas-clause-same : goal.returns-in_err-betas-clause-same
returns-in_err-betas-clause-same g c =
    same_on (same_on c.batch_phase.ensures.same c.first_layer-bivariate.ensures.same)
    c.checking_rounds.ensures.same

pub returns-in_err-indices-clause-same : goal.returns-in_err-indices-clause-same
returns-in_err-indices-clause-same g c =
    same_on (same_on c.batch_phase.ensures.same c.first_layer-bivariate.ensures.same)
    (same_on c.checking_rounds.ensures.same c.query_phase.ensures.same)

pub returns-clause-same : goal.returns-clause-same
returns-clause-same g c =
    same_on (same_on c.batch_phase.ensures.same c.first_layer-bivariate.ensures.same)
    (same_on c.checking_rounds.ensures.same c.query_phase.ensures.same)

pub returns-clause-below : goal.returns-clause-below
returns-clause-below g c =
    subst (λ n. All (λ i. i < 2 ^ n.index_bits) c.in_ok-indices.indices.items)
    (c.checking_rounds.ensures.same.shape ∙ c.first_layer-bivariate.ensures.same.shape
    ∙ c.batch_phase.ensures.same.shape) c.in_ok-indices.ensures.below
