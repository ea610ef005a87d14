use Rattle.std.specs.Prelude.{zip, Ok, ◌⊎◌}
use Rattle.std.proofs.Common.{◌≡◌, ℕ, List, ◌+◌, ◌<◌, ◌≤◌, ◌++◌, ◌∷◌, [], length, take, drop, map}
use Rattle.std.proofs.Common.{refl}
use Rattle.std.proofs.Common.{sym, ap, ◌∙◌, subst, arith, inr}
use Rattle.std.proofs.lemmas.List.{map-append, take_all}
use Rattle.circle_transcript.specs.Draw.{play_rounds}
use Rattle.circle_transcript.specs.Runs.{rounds_from, MissesInRounds}
use Rattle.circle_transcript.specs.Transcript.{numbers, outcome, run_of, state_of}
use Rattle.circle_transcript.specs.declared.failure.CircleTranscriptFailure.TheVariants.{Memory}
use Rattle.circle_transcript.proofs.Drawn.{miss_moved}
use Rattle.circle_transcript.proofs.Phases.{gave, missed}
use Rattle.circle_transcript.proofs.Playing.{handed_on}
use Rattle.circle_transcript.proofs.Runs.{rounds_more, rounds_missed, zip_more, zip_split}
use Rattle.circle_transcript.proofs.Runs.{rounds_all, next_round, rounds_none}
use Rattle.circle_transcript.proofs.run.checking_rounds.Goals as goal

pub loop-i-init : goal.loop-i-init
unfolding play_rounds
loop-i-init g c = record {
  same = record { challenger = refl; shape = refl };
  due =
      λ rest e. rounds_all g.EF.ExtensionField.DEGREE
      (numbers c.args.transcript.now).commit_pow_bits (length c.args.commitments.now) rest _ e;
  played = ap (λ v. Ok (map g.EF.ExtensionField.coefficients v, state_of c.args.transcript.now))
      (sym c.new-betas.ensures.items);
}

pub commit_round-requires-clause-next : goal.commit_round-requires-clause-next
commit_round-requires-clause-next g c =
    let rest = c.requires.next.0 in (
      _,
      next_round g.EF.ExtensionField.DEGREE (numbers c.args.transcript.now).commit_pow_bits _
          (length c.args.commitments.now) c.loop-i.i rest _
          (ap (λ v. v.commit_pow_bits) c.loop-i.invariant.same.shape) (omega arith)
          (c.loop-i.invariant.due rest c.requires.next.1),
    )

pub loop-i-preserved : goal.loop-i-preserved
loop-i-preserved g c =
    let degree = g.EF.ExtensionField.DEGREE in
    let coefficients = g.EF.ExtensionField.coefficients in
    let bits = (numbers c.args.transcript.now).commit_pow_bits in
    let commitments = c.args.commitments.now in
    let witnesses = c.args.witnesses.now in
    let i = c.loop-i.i in
    let commitment = c.index-commitments-i.result in
    let witness = c.index-witnesses-i.result in
    let beta = c.in_ok-beta.beta in
    let within : i < length commitments = omega arith in
    let same_bits = ap (λ v. v.commit_pow_bits) c.loop-i.invariant.same.shape in
    let more = zip_more commitments witnesses i commitment witness within
    c.requires.paired c.index-commitments-i.is c.index-witnesses-i.is in
    let played = gave (numbers c.loop-i.transcript) _ _
    (ap (outcome c.commit_round.new.self coefficients) (sym c.in_ok-beta.was)
    ∙ c.commit_round.ensures.played) in
    record {
      same = record {
        challenger = c.commit_round.ensures.same.challenger ∙ c.loop-i.invariant.same.challenger;
        shape = c.commit_round.ensures.same.shape ∙ c.loop-i.invariant.same.shape;
      };
      due =
          λ rest e. c.in_ok-beta.ensures.due _
          (next_round degree bits _ (length commitments) i rest _ same_bits within
          (c.loop-i.invariant.due rest e));
      played =
          rounds_more (run_of c.args.transcript.now) bits _ _ _ _ (commitment, witness) _ same_bits
          c.loop-i.invariant.played _ _ _ _ more played
          (ap (map coefficients) c.in-Ok.ensures.items
          ∙ map-append coefficients c.loop-i.betas.items (beta ∷ []));
    }

pub returns-clause-due : goal.returns-clause-due
returns-clause-due g c = λ rest e.
    c.loop-i.invariant.due rest e
    ∙ rounds_none g.EF.ExtensionField.DEGREE (numbers c.args.transcript.now).commit_pow_bits
    (length c.args.commitments.now) c.loop-i.i rest c.loop-i-test.false

pub returns-in_err-beta-clause-failure : goal.returns-in_err-beta-clause-failure
returns-in_err-beta-clause-failure g c =
    let old = c.args.transcript.now in
    let commitments = c.args.commitments.now in
    let witnesses = c.args.witnesses.now in
    let i = c.loop-i.i in
    let commitment = c.index-commitments-i.result in
    let witness = c.index-witnesses-i.result in
    let e = c.in_err-beta.field-0.0 in
    let within : i < length commitments = omega arith in
    let within_next : i + 1 ≤ length commitments = omega arith in
    let more = zip_more commitments witnesses i commitment witness within
    c.requires.paired c.index-commitments-i.is c.index-witnesses-i.is in
    let split = zip_split commitments witnesses (i + 1) within_next c.requires.paired
    ∙ ap (λ v. v ++ zip (drop (i + 1) commitments) (drop (i + 1) witnesses)) more in
    let same_bits = ap (λ v. v.commit_pow_bits) c.loop-i.invariant.same.shape in
    let miss = missed (numbers c.loop-i.transcript) _ e
    (ap (outcome c.commit_round.new.self g.EF.ExtensionField.coefficients) (sym c.in_err-beta.was)
    ∙ c.commit_round.ensures.played) in
    handed_on c.from_residual.result e
    (λ e. (e ≡ Memory) ⊎ MissesInRounds old commitments witnesses e) c.from_residual.ensures.1
    (inr
    (miss_moved (numbers c.loop-i.transcript) (numbers old) _
    (rounds_from old commitments witnesses) e c.loop-i.invariant.same.shape
    (λ p failed. rounds_missed (run_of old) (numbers old).commit_pow_bits _ _ _ _
    (commitment, witness) _ same_bits c.loop-i.invariant.played _ _ p split failed) miss))

pub commit_round-requires-clause-small : goal.commit_round-requires-clause-small
commit_round-requires-clause-small g c =
    subst (λ n. n.commit_pow_bits ≤ 63) (sym c.loop-i.invariant.same.shape) c.requires.small

pub returns-in_err-beta-clause-same : goal.returns-in_err-beta-clause-same
returns-in_err-beta-clause-same g c = record {
  challenger = c.commit_round.ensures.same.challenger ∙ c.loop-i.invariant.same.challenger;
  shape = c.commit_round.ensures.same.shape ∙ c.loop-i.invariant.same.shape;
}

pub returns-in-Err-clause-same : goal.returns-in-Err-clause-same
returns-in-Err-clause-same g c = record {
  challenger = c.commit_round.ensures.same.challenger ∙ c.loop-i.invariant.same.challenger;
  shape = c.commit_round.ensures.same.shape ∙ c.loop-i.invariant.same.shape;
}

pub returns-clause-same : goal.returns-clause-same
returns-clause-same g c = c.loop-i.invariant.same

-- at the loop's end the rounds so far are all of them
abbrev all_rounds : {A B : Type 0} (us : List A) (vs : List B) (i : ℕ) → length us ≤ i →
    length vs ≡ length us → zip (take i us) (take i vs) ≡ zip us vs
all_rounds us vs i ended same = ap (λ v. zip v (take i vs)) (take_all i us ended)
    ∙ ap (zip us) (take_all i vs (omega arith))

pub returns-clause-played : goal.returns-clause-played
returns-clause-played g c =
    let old = c.args.transcript.now in
    let betas = map g.EF.ExtensionField.coefficients c.loop-i.betas.items in
    subst (λ v. play_rounds (run_of old) (numbers old).commit_pow_bits (state_of old) v
    ≡ Ok (betas, state_of c.loop-i.transcript))
    (all_rounds c.args.commitments.now c.args.witnesses.now c.loop-i.i c.loop-i-test.false
    c.requires.paired) c.loop-i.invariant.played
