use Rattle.std.specs.Prelude.{zip, Ok, ◌⊎◌, All, unwrap_or}
use Rattle.std.proofs.Common.{◌≡◌, ◌+◌, ◌<◌, ◌≤◌, ◌++◌, ◌∷◌, [], length, map, refl, sym, ap, ◌∙◌}
use Rattle.std.proofs.Common.{subst, arith, inr}
use Rattle.std.proofs.lemmas.List.{map-append, length_push, take_all}
use Rattle.std.proofs.lemmas.List.Elements.{All-from_recursion}
use Rattle.circle_commit.specs.declared.params.PowPhase.TheVariants.{CommitPhase}
use Rattle.circle_transcript.specs.Draw.{play_rounds}
use Rattle.circle_transcript.specs.Runs.{HasStuckRound}
use Rattle.circle_transcript.specs.Transcript.{numbers, run_of, state_of}
use Rattle.circle_transcript.specs.declared.failure.CircleTranscriptFailure.TheVariants.{NoWitness}
use Rattle.circle_transcript.specs.declared.failure.CircleTranscriptFailure.TheVariants.{Memory}
use Rattle.circle_transcript.proofs.Phases.{told, missed_in}
use Rattle.circle_transcript.proofs.Playing.{handed_on, zeros_pushed, unwrap_none}
use Rattle.circle_transcript.proofs.Runs.{rounds_more, stuck_here, zip_pushed, rounds_all}
use Rattle.circle_transcript.proofs.Runs.{next_round, rounds_none}
use Rattle.circle_transcript.proofs.run.grinding_rounds.Goals as goal

pub loop-commitment-init : goal.loop-commitment-init
unfolding play_rounds
loop-commitment-init g c = record {
  same = record { challenger = refl; shape = refl };
  due =
      λ rest e. rounds_all g.EF.ExtensionField.DEGREE
      (numbers c.args.transcript.now).commit_pow_bits (length c.args.commitments.now) rest _ e;
  count = ap length c.new-witnesses.ensures.items;
  easy = λ none. subst (All (λ w. w ≡ g.F.Operations.ops.zero)) (sym c.new-witnesses.ensures.items)
      (All-from_recursion (λ w. w ≡ g.F.Operations.ops.zero) [] tt);
  played = ap (λ v. Ok (map g.EF.ExtensionField.coefficients v, state_of c.args.transcript.now))
      (sym c.new-betas.ensures.items);
}

pub commit_round-requires-clause-next : goal.commit_round-requires-clause-next
commit_round-requires-clause-next g c =
    let rest = c.requires.next.0 in (
      _,
      next_round g.EF.ExtensionField.DEGREE (numbers c.args.transcript.now).commit_pow_bits _
          (length c.args.commitments.now) c.loop-commitment.commitment-index rest _
          (ap (λ v. v.commit_pow_bits) c.loop-commitment.invariant.same.shape) (omega arith)
          (c.loop-commitment.invariant.due rest c.requires.next.1),
    )

pub loop-commitment-preserved : goal.loop-commitment-preserved
loop-commitment-preserved g c =
    let degree = g.EF.ExtensionField.DEGREE in
    let coefficients = g.EF.ExtensionField.coefficients in
    let zero = g.F.Operations.ops.zero in
    let bits = (numbers c.args.transcript.now).commit_pow_bits in
    let commitments = c.args.commitments.now in
    let witnesses = c.loop-commitment.witnesses.items in
    let pushed = c.push-in-loop-commitment.new.self.items in
    let found = c.in_ok-beta.found in
    let i = c.loop-commitment.commitment-index in
    let commitment = c.commitment-item.result in
    let witness = c.unwrap_or-witness.result in
    let is_witness : unwrap_or found zero ≡ witness =
    sym
    (c.unwrap_or-witness.ensures
    ∙ ap (unwrap_or found) (c.ZERO.ensures ∙ g.met.F.Field.zero_law)) in
    let beta = c.in_ok-beta.beta in
    let within : i < length commitments = omega arith in
    let more = zip_pushed commitments witnesses pushed i commitment (unwrap_or found zero) within
    c.loop-commitment.invariant.count c.commitment-item.is
    (c.in-Ok-push.ensures.items ∙ ap (λ w. witnesses ++ w ∷ []) (sym is_witness)) in
    let same_bits = ap (λ v. v.commit_pow_bits) c.loop-commitment.invariant.same.shape in
    record {
      same = record {
        challenger = c.commit_round.ensures.same.challenger
            ∙ c.loop-commitment.invariant.same.challenger;
        shape = c.commit_round.ensures.same.shape ∙ c.loop-commitment.invariant.same.shape;
      };
      due =
          λ rest e. c.in_ok-beta.ensures.due _
          (next_round degree bits _ (length commitments) i rest _ same_bits within
          (c.loop-commitment.invariant.due rest e));
      count = ap length c.in-Ok-push.ensures.items ∙ length_push witnesses witness
          ∙ ap (λ k. k + 1) c.loop-commitment.invariant.count;
      easy = λ none.
          zeros_pushed zero witnesses pushed witness (c.loop-commitment.invariant.easy none)
          (sym is_witness
          ∙ unwrap_none zero found (c.in_ok-beta.ensures.needed.1 (same_bits ∙ none)))
          c.in-Ok-push.ensures.items;
      played =
          rounds_more (run_of c.args.transcript.now) bits _ _ _ _
          (commitment, unwrap_or found zero) _ same_bits c.loop-commitment.invariant.played
          _ _ _ _ more c.in_ok-beta.ensures.played
          (ap (map coefficients) c.in-Ok.ensures.items
          ∙ map-append coefficients c.loop-commitment.betas.items (beta ∷ []));
    }

pub returns-clause-due : goal.returns-clause-due
returns-clause-due g c = λ rest e.
    c.loop-commitment.invariant.due rest e
    ∙ rounds_none g.EF.ExtensionField.DEGREE (numbers c.args.transcript.now).commit_pow_bits
    (length c.args.commitments.now) c.loop-commitment.commitment-index rest
    c.loop-commitment-test.false

pub returns-in_err-beta-clause-failure : goal.returns-in_err-beta-clause-failure
returns-in_err-beta-clause-failure g c =
    let r = run_of c.args.transcript.now in
    let bits = (numbers c.args.transcript.now).commit_pow_bits in
    let commitments = c.args.commitments.now in
    let i = c.loop-commitment.commitment-index in
    let begun = state_of c.args.transcript.now in
    let known = told r bits begun _ _ _ c.loop-commitment.invariant.played in
    let within : i < length commitments = omega arith in
    let same_bits = ap (λ v. v.commit_pow_bits) c.loop-commitment.invariant.same.shape in
    let stuck = stuck_here r bits begun _ commitments c.loop-commitment.witnesses.items
    c.commitment-item.result i _ c.loop-commitment.invariant.count within
    c.commitment-item.is same_bits
    known.passes known.state (λ w. missed_in CommitPhase _ _ _ (c.in_err-beta.ensures.none w)) in
    handed_on c.from_residual.result c.in_err-beta.field-0.0
    (λ e. (e ≡ Memory)
    ⊎ ((e ≡ NoWitness CommitPhase bits) × HasStuckRound r bits begun commitments))
    c.from_residual.ensures.1
    (inr (c.in_err-beta.ensures.failure ∙ ap (NoWitness CommitPhase) same_bits, stuck))

pub commit_round-requires-clause-small : goal.commit_round-requires-clause-small
commit_round-requires-clause-small g c =
    subst (λ n. n.commit_pow_bits ≤ 63) (sym c.loop-commitment.invariant.same.shape)
    c.requires.small

pub returns-in_err-beta-clause-same : goal.returns-in_err-beta-clause-same
returns-in_err-beta-clause-same g c = record {
  challenger = c.commit_round.ensures.same.challenger ∙ c.loop-commitment.invariant.same.challenger;
  shape = c.commit_round.ensures.same.shape ∙ c.loop-commitment.invariant.same.shape;
}

pub returns-in-Err-clause-same : goal.returns-in-Err-clause-same
returns-in-Err-clause-same g c = record {
  challenger = c.commit_round.ensures.same.challenger ∙ c.loop-commitment.invariant.same.challenger;
  shape = c.commit_round.ensures.same.shape ∙ c.loop-commitment.invariant.same.shape;
}

pub returns-in-Err-push-clause-same : goal.returns-in-Err-push-clause-same
returns-in-Err-push-clause-same g c = record {
  challenger = c.commit_round.ensures.same.challenger ∙ c.loop-commitment.invariant.same.challenger;
  shape = c.commit_round.ensures.same.shape ∙ c.loop-commitment.invariant.same.shape;
}

pub returns-clause-same : goal.returns-clause-same
returns-clause-same g c = c.loop-commitment.invariant.same

pub returns-clause-count : goal.returns-clause-count
returns-clause-count g c = c.loop-commitment.invariant.count ∙ omega arith

pub returns-clause-easy : goal.returns-clause-easy
returns-clause-easy g c = c.loop-commitment.invariant.easy

pub returns-clause-played : goal.returns-clause-played
returns-clause-played g c =
    let old = c.args.transcript.now in
    let betas = map g.EF.ExtensionField.coefficients c.loop-commitment.betas.items in
    subst
    (λ v. play_rounds (run_of old) (numbers old).commit_pow_bits (state_of old)
    (zip v c.loop-commitment.witnesses.items) ≡ Ok (betas, state_of c.loop-commitment.transcript))
    (take_all c.loop-commitment.commitment-index c.args.commitments.now
    c.loop-commitment-test.false) c.loop-commitment.invariant.played
