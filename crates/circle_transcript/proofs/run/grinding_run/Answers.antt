use Rattle.std.specs.Prelude.{◌⊎◌, Ok, Err, All, unwrap_or}
use Rattle.std.proofs.Common.{◌≡◌, ◌<◌, ◌≤◌, ◌^◌, ◌++◌, [], length, map, refl, sym, ap, ◌∙◌, subst}
use Rattle.std.proofs.Common.{inl, inr}
use Rattle.circle_commit.specs.declared.params.PowPhase.TheVariants.{Batch, CommitPhase, Query}
use Rattle.circle_transcript.specs.declared.failure.CircleTranscriptFailure.TheVariants.{Memory}
use Rattle.circle_transcript.specs.Claims.{claims_of}
use Rattle.circle_transcript.specs.Draw.{draw_seeded}
use Rattle.circle_transcript.specs.Runs.{taken_with, IsStuck}
use Rattle.circle_transcript.specs.Shape.{rounds_steps}
use Rattle.circle_transcript.specs.Numbers.{indices_steps}
use Rattle.circle_transcript.specs.declared.transcript.Numbers.{Numbers}
use Rattle.circle_transcript.specs.Transcript.{numbers, run_of, state_of}
use Rattle.circle_transcript.proofs.Playing.{handed_on, unwrap_none}
use Rattle.circle_transcript.proofs.Phases.{missed_in}
use Rattle.circle_transcript.proofs.Runs.{indices_due, same_on}
use Rattle.circle_transcript.proofs.Drawn.{at_rounds, at_query, stuck_in, stuck_rounds}
use Rattle.circle_transcript.proofs.Drawn.{stuck_query, all_drawn, drawn_parts}
use Rattle.circle_transcript.proofs.run.grinding_run.Goals as goal

pub returns-in_err-alpha-clause-failure : goal.returns-in_err-alpha-clause-failure
returns-in_err-alpha-clause-failure g c =
    let old = c.args.transcript.now in
    let r = run_of old in
    let zero = g.F.Operations.ops.zero in
    let n = numbers old in
    let s = state_of old in
    let claims = claims_of c.args.claims.now in
    let messages = c.args.messages.now in
    handed_on c.from_residual.result c.in_err-alpha.field-0.0
    (λ e. (e ≡ Memory) ⊎ IsStuck r n claims messages s e) c.from_residual.ensures.1
    (inr
    (stuck_in
    r n claims messages s Batch c.in_err-alpha.field-0.0 _ c.in_err-alpha.ensures.failure refl
    (λ w. missed_in Batch _ _ _ (c.in_err-alpha.ensures.none w))))

pub returns-in_err-betas-clause-failure : goal.returns-in_err-betas-clause-failure
returns-in_err-betas-clause-failure g c =
    let old = c.args.transcript.now in
    let r = run_of old in
    let zero = g.F.Operations.ops.zero in
    let n = numbers old in
    let s = state_of old in
    let claims = claims_of c.args.claims.now in
    let messages = c.args.messages.now in
    let all = taken_with claims messages (unwrap_or c.in_ok-alpha.batch zero) [] zero in
    let same2 = c.first_layer-bivariate.ensures.same.shape ∙ c.batch_phase.ensures.same.shape in
    let second = at_rounds r n all s same2 c.in_ok-alpha.ensures.played
    c.first_layer-bivariate.ensures.played in
    handed_on c.from_residual-in_err-betas.result c.in_err-betas.field-0.0
    (λ e. (e ≡ Memory) ⊎ IsStuck r n claims messages s e) c.from_residual-in_err-betas.ensures.1
    (elim c.in_err-betas.ensures.failure [
      | inl refused ↦ inl refused
      | inr stuck ↦
          inr
          (stuck_in r n claims messages s CommitPhase c.in_err-betas.field-0.0 _ stuck.0
          (ap (λ v. v.commit_pow_bits) same2)
          (stuck_rounds r n claims messages s (unwrap_or c.in_ok-alpha.batch zero) _ _ _ _
          second stuck.1))
    ])

-- the steps that are due before the indices
pub query_phase-requires-clause-next : goal.query_phase-requires-clause-next
query_phase-requires-clause-next g c = (
  [],
  indices_due g.EF.ExtensionField.DEGREE (length c.args.messages.now.commitments.now)
      (numbers c.args.transcript.now) _ _ _ _ (c.first_layer-bivariate.ensures.same.shape
      ∙ c.batch_phase.ensures.same.shape) c.grinding_rounds.ensures.same.shape
      (c.first_layer-bivariate.ensures.due _ (c.in_ok-alpha.ensures.due _ c.requires.next))
      c.in_ok-betas.ensures.due,
)

pub returns-clause-due : goal.returns-clause-due
returns-clause-due g c =
    c.in_ok-indices.ensures.due []
    (indices_due g.EF.ExtensionField.DEGREE (length c.args.messages.now.commitments.now)
    (numbers c.args.transcript.now) _ _ _ _ (c.first_layer-bivariate.ensures.same.shape
    ∙ c.batch_phase.ensures.same.shape) c.grinding_rounds.ensures.same.shape
    (c.first_layer-bivariate.ensures.due _ (c.in_ok-alpha.ensures.due _ c.requires.next))
    c.in_ok-betas.ensures.due)

pub returns-in_err-indices-clause-failure : goal.returns-in_err-indices-clause-failure
returns-in_err-indices-clause-failure g c =
    let old = c.args.transcript.now in
    let r = run_of old in
    let zero = g.F.Operations.ops.zero in
    let n = numbers old in
    let s = state_of old in
    let claims = claims_of c.args.claims.now in
    let messages = c.args.messages.now in
    let all = taken_with claims messages (unwrap_or c.in_ok-alpha.batch zero)
    c.in_ok-betas.rounds.items zero in
    let same2 = c.first_layer-bivariate.ensures.same.shape ∙ c.batch_phase.ensures.same.shape in
    let second = at_rounds r n all s same2 c.in_ok-alpha.ensures.played
    c.first_layer-bivariate.ensures.played in
    let third = at_query r n all s _ _ _ (numbers c.grinding_rounds.new.transcript) _ _ _ second
    c.grinding_rounds.ensures.same.shape c.in_ok-betas.ensures.played in
    handed_on c.from_residual-in_err-indices.result c.in_err-indices.field-0.0
    (λ e. (e ≡ Memory) ⊎ IsStuck r n claims messages s e)
    c.from_residual-in_err-indices.ensures.1
    (elim c.in_err-indices.ensures.failure [
      | inl refused ↦ inl refused
      | inr none ↦
          inr
          (stuck_in
          r n claims messages s Query c.in_err-indices.field-0.0 _ none
          (ap (λ v. v.query_pow_bits) (c.grinding_rounds.ensures.same.shape ∙ same2))
          (stuck_query r n claims messages s (unwrap_or c.in_ok-alpha.batch zero)
          c.in_ok-betas.rounds.items _ _ _ _ _ third c.in_ok-betas.ensures.count
          (λ w. missed_in Query _ _ _
          (c.query_phase.ensures.none (c.in_err-indices.was ∙ ap Err none) w))))
    ])

pub returns-clause-draws : goal.returns-clause-draws
returns-clause-draws g c =
    let old = c.args.transcript.now in
    let r = run_of old in
    let zero = g.F.Operations.ops.zero in
    let n = numbers old in
    let s = state_of old in
    let claims = claims_of c.args.claims.now in
    let messages = c.args.messages.now in
    let all = taken_with claims messages (unwrap_or c.in_ok-alpha.batch zero)
    c.in_ok-betas.rounds.items (unwrap_or c.in_ok-indices.query zero) in
    let same2 = c.first_layer-bivariate.ensures.same.shape ∙ c.batch_phase.ensures.same.shape in
    let second = at_rounds r n all s same2 c.in_ok-alpha.ensures.played
    c.first_layer-bivariate.ensures.played in
    let third = at_query r n all s _ _ _ (numbers c.grinding_rounds.new.transcript) _ _ _ second
    c.grinding_rounds.ensures.same.shape c.in_ok-betas.ensures.played in
    let coefficients = g.EF.ExtensionField.coefficients in
    let drawn =
    drawn_parts (coefficients c.in_ok-alpha.alpha) (coefficients c.first_layer-bivariate.result)
    (map coefficients c.in_ok-betas.betas.items) c.in_ok-indices.indices.items
    (state_of c.query_phase.new.self) in
    let given : draw_seeded r n all s ≡ Ok drawn =
    all_drawn r n all s _ _ _ _ _ third drawn.indices drawn.state c.in_ok-indices.ensures.played in
    subst
    (λ w. draw_seeded r n
    (taken_with claims messages w c.in_ok-betas.rounds.items c.or_zero-query_witness.result) s
    ≡ Ok drawn) (sym c.or_zero-batch_witness.ensures)
    (subst
    (λ w. draw_seeded r n
    (taken_with claims messages (unwrap_or c.in_ok-alpha.batch zero) c.in_ok-betas.rounds.items
    w) s ≡ Ok drawn) (sym c.or_zero-query_witness.ensures) given)

pub returns-clause-easy_batch : goal.returns-clause-easy_batch
returns-clause-easy_batch g c = λ none.
    c.or_zero-batch_witness.ensures ∙ unwrap_none g.F.Operations.ops.zero c.in_ok-alpha.batch
    (c.in_ok-alpha.ensures.needed.1 none)

pub returns-clause-easy_rounds : goal.returns-clause-easy_rounds
returns-clause-easy_rounds g c = λ none.
    c.in_ok-betas.ensures.easy
    (ap (λ v. v.commit_pow_bits) (c.first_layer-bivariate.ensures.same.shape
    ∙ c.batch_phase.ensures.same.shape) ∙ none)

pub returns-clause-easy_query : goal.returns-clause-easy_query
returns-clause-easy_query g c = λ none.
    let same = c.grinding_rounds.ensures.same.shape ∙ c.first_layer-bivariate.ensures.same.shape
    ∙ c.batch_phase.ensures.same.shape in
    c.or_zero-query_witness.ensures ∙ unwrap_none g.F.Operations.ops.zero c.in_ok-indices.query
    (c.in_ok-indices.ensures.needed.1 (ap (λ v. v.query_pow_bits) same ∙ none))

pub batch_phase-requires-clause-next : goal.batch_phase-requires-clause-next
batch_phase-requires-clause-next g c = (_, c.requires.next)

pub batch_phase-requires-clause-small : goal.batch_phase-requires-clause-small
batch_phase-requires-clause-small g c = c.requires.small.batch

pub first_layer-bivariate-requires : goal.first_layer-bivariate-requires
first_layer-bivariate-requires g c =
    record { next = (_, c.in_ok-alpha.ensures.due _ c.requires.next) }

pub grinding_rounds-requires-clause-next : goal.grinding_rounds-requires-clause-next
grinding_rounds-requires-clause-next g c =
    let n = numbers c.args.transcript.now in (
      _,
      c.first_layer-bivariate.ensures.due _ (c.in_ok-alpha.ensures.due _ c.requires.next)
          ∙ ap
          (λ (v : Numbers). rounds_steps g.EF.ExtensionField.DEGREE v.commit_pow_bits
          (length c.args.messages.now.commitments.now)
          ++ indices_steps g.EF.ExtensionField.DEGREE n)
          (sym (c.first_layer-bivariate.ensures.same.shape ∙ c.batch_phase.ensures.same.shape)),
    )

pub grinding_rounds-requires-clause-small : goal.grinding_rounds-requires-clause-small
grinding_rounds-requires-clause-small g c =
    subst (λ n. n.commit_pow_bits ≤ 63)
    (sym (c.first_layer-bivariate.ensures.same.shape ∙ c.batch_phase.ensures.same.shape))
    c.requires.small.commit

pub query_phase-requires-clause-small : goal.query_phase-requires-clause-small
query_phase-requires-clause-small g c =
    subst (λ n. n.query_pow_bits ≤ 63)
    (sym (c.grinding_rounds.ensures.same.shape ∙ c.first_layer-bivariate.ensures.same.shape
    ∙ c.batch_phase.ensures.same.shape)) c.requires.small.query

pub query_phase-requires-clause-narrow : goal.query_phase-requires-clause-narrow
query_phase-requires-clause-narrow g c =
    subst (λ n. n.index_bits ≤ 63)
    (sym (c.grinding_rounds.ensures.same.shape ∙ c.first_layer-bivariate.ensures.same.shape
    ∙ c.batch_phase.ensures.same.shape)) c.requires.small.index

pub query_phase-requires-clause-count : goal.query_phase-requires-clause-count
query_phase-requires-clause-count g c =
    c.requires.count
    ∙ ap (λ n. 2 ^ n.log_final_poly_len)
    (sym (c.grinding_rounds.ensures.same.shape ∙ c.first_layer-bivariate.ensures.same.shape
    ∙ c.batch_phase.ensures.same.shape))

pub returns-in_err-alpha-clause-same : goal.returns-in_err-alpha-clause-same
returns-in_err-alpha-clause-same g c = c.batch_phase.ensures.same

pub returns-in_err-betas-clause-same : goal.returns-in_err-betas-clause-same
returns-in_err-betas-clause-same g c =
    same_on (same_on c.batch_phase.ensures.same c.first_layer-bivariate.ensures.same)
    c.grinding_rounds.ensures.same

pub returns-in_err-indices-clause-same : goal.returns-in_err-indices-clause-same
returns-in_err-indices-clause-same g c =
    same_on (same_on c.batch_phase.ensures.same c.first_layer-bivariate.ensures.same)
    (same_on c.grinding_rounds.ensures.same c.query_phase.ensures.same)

pub returns-clause-same : goal.returns-clause-same
returns-clause-same g c =
    same_on (same_on c.batch_phase.ensures.same c.first_layer-bivariate.ensures.same)
    (same_on c.grinding_rounds.ensures.same c.query_phase.ensures.same)

pub returns-clause-below : goal.returns-clause-below
returns-clause-below g c =
    subst (λ n. All (λ i. i < 2 ^ n.index_bits) c.in_ok-indices.indices.items)
    (c.grinding_rounds.ensures.same.shape ∙ c.first_layer-bivariate.ensures.same.shape
    ∙ c.batch_phase.ensures.same.shape) c.in_ok-indices.ensures.below

pub returns-clause-count : goal.returns-clause-count
returns-clause-count g c = c.in_ok-betas.ensures.count
