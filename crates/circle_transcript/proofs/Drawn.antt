-- What a run draws, from what its calls give.
use Rattle.std.specs.Prelude.{IsTrue, Result, Ok, Err, length}
use Rattle.std.proofs.Common.{◌≡◌, ℕ, List, [], refl, sym, ap, subst, ◌∙◌}
use Rattle.circle_commit.specs.declared.params.PowPhase.{PowPhase}
use Rattle.circle_commit.specs.declared.params.PowPhase.TheVariants.{Batch}
use Rattle.circle_challenger.specs.Moves.{RunMoves, is_passed, after_element}
use Rattle.circle_challenger.specs.Moves.{drawn_element}
use Rattle.circle_transcript.specs.declared.failure.CircleTranscriptFailure.{CircleTranscriptFailure}
use Rattle.circle_transcript.specs.declared.failure.CircleTranscriptFailure.TheVariants.{PowWitness}
use Rattle.circle_transcript.specs.declared.failure.CircleTranscriptFailure.TheVariants.{NoWitness}
use Rattle.circle_transcript.specs.declared.run.CircleMessages.{CircleMessages}
use Rattle.circle_transcript.specs.declared.transcript.Numbers.{Numbers}
use Rattle.circle_transcript.specs.Draw.{Claim, Taken, Drawn, after_final_poly, claimed, layered}
use Rattle.circle_transcript.specs.Draw.{batched}
use Rattle.circle_transcript.specs.Draw.{closed, and_then, batch_phase, query_phase, first_layer}
use Rattle.circle_transcript.specs.Draw.{play_rounds, draw_seeded}
use Rattle.circle_transcript.specs.Failure.{phase_of}
use Rattle.circle_transcript.specs.Numbers.{difficulty_of}
use Rattle.circle_transcript.proofs.Phases.{passes_in, given_in, AreTold, told, from_layer}
use Rattle.circle_transcript.proofs.Phases.{from_query, at_end}
use Rattle.circle_transcript.specs.Runs.{IsMiss, NonePasses, HasStuckRound, IsStuck, IsStuckIn}
use Rattle.circle_transcript.specs.Runs.{IsStuckInRounds, IsStuckInQuery, taken_with}

-- what is drawn, from its parts
abbrev pub drawn_parts : {S F : Type 0} → List F → List F → List (List F) → List ℕ → S → Drawn S F
drawn_parts alpha bivariate betas indices state =
    record { alpha = alpha; bivariate = bivariate; betas = betas; indices = indices; state = state }

-- what a part of a run misses the whole does
pub miss_moved : {A B : Type 0} (m n : Numbers) (a : Result A PowPhase) (b : Result B PowPhase)
    (e : CircleTranscriptFailure) → m ≡ n → ((p : PowPhase) → a ≡ Err p → b ≡ Err p) →
    IsMiss m a e → IsMiss n b e
miss_moved m n a b e same whole miss = record {
  named = miss.named ∙ ap (λ v. PowWitness (phase_of e) (difficulty_of v (phase_of e))) same;
  failed = whole (phase_of e) miss.failed;
}

module _ {C S F E Com : Type 0} (r : RunMoves C S F E Com) (n : Numbers) (taken : Taken F E Com)
    (s : S) where
  -- the batching challenge and that of the first layer are drawn, and the run comes to its rounds
  pub record AtRounds (alpha bivariate : List F) (m : Numbers) (now : S) : Type 0 where
    pub same : m ≡ n
    pub after : S
    pub batch : batch_phase r.base n s taken.claims taken.batch_witness ≡ Ok (alpha, after)
    pub layer : (bivariate, now) ≡ first_layer r after taken.first_layer

  pub at_rounds : {alpha bivariate : List F} {m : Numbers} {after now : S} → m ≡ n →
      batch_phase r.base n s taken.claims taken.batch_witness ≡ Ok (alpha, after) →
      (bivariate, now) ≡ first_layer r after taken.first_layer → AtRounds alpha bivariate m now
  at_rounds same batch layer = record { same = same; after = _; batch = batch; layer = layer }

  -- the rounds are played too, and the run comes to its indices
  pub record AtQuery (alpha bivariate : List F) (betas : List (List F)) (m : Numbers) (now : S)
      : Type 0 where
    pub same : m ≡ n
    pub begun : S
    pub before : AtRounds alpha bivariate n begun
    pub rounds : play_rounds r n.commit_pow_bits begun taken.rounds ≡ Ok (betas, now)

  pub at_query : (alpha bivariate : List F) (betas : List (List F)) (k m : Numbers) (s2 s3 : S) →
      AtRounds alpha bivariate m s2 → k ≡ m →
      play_rounds r m.commit_pow_bits s2 taken.rounds ≡ Ok (betas, s3) →
      AtQuery alpha bivariate betas k s3
  at_query alpha bivariate betas k m s2 s3 at same played = record {
    same = same ∙ at.same;
    begun = s2;
    before = at_rounds refl at.batch at.layer;
    rounds =
        subst (λ (v : Numbers). play_rounds r v.commit_pow_bits s2 taken.rounds ≡ Ok (betas, s3))
        at.same played;
  }

  -- the rest of the run
  rest_is : (alpha bivariate : List F) (now : S) → AtRounds alpha bivariate n now →
      draw_seeded r n taken s
      ≡ and_then (play_rounds r n.commit_pow_bits now taken.rounds)
      (from_query r n taken s alpha bivariate)
  unfolding draw_seeded
  rest_is alpha bivariate now at =
      ap (λ t. and_then t (from_layer r n taken s)) at.batch
      ∙ ap (λ (p : List F × S). and_then (play_rounds r n.commit_pow_bits p.1 taken.rounds)
      (from_query r n taken s alpha p.0)) (sym at.layer)

  end_is : (alpha bivariate : List F) (betas : List (List F)) (m : Numbers) (now : S) →
      AtQuery alpha bivariate betas m now → draw_seeded r n taken s
      ≡ and_then (query_phase r.base n now taken.final_poly taken.query_witness)
      (at_end r n taken s alpha bivariate betas)
  end_is alpha bivariate betas m now at =
      rest_is alpha bivariate at.begun at.before
      ∙ ap (λ t. and_then t (from_query r n taken s alpha bivariate)) at.rounds

  -- where a phase fails the run does
  pub fails_batch : (p : PowPhase) →
      batch_phase r.base n s taken.claims taken.batch_witness ≡ Err p →
      draw_seeded r n taken s ≡ Err p
  unfolding draw_seeded
  fails_batch p failed = ap (λ t. and_then t (from_layer r n taken s)) failed

  pub fails_rounds : (alpha bivariate : List F) (m : Numbers) (now : S) →
      AtRounds alpha bivariate m now → (p : PowPhase) →
      play_rounds r m.commit_pow_bits now taken.rounds ≡ Err p → draw_seeded r n taken s ≡ Err p
  fails_rounds alpha bivariate m now at p failed =
      rest_is alpha bivariate now (at_rounds refl at.batch at.layer)
      ∙ ap (λ t. and_then t (from_query r n taken s alpha bivariate))
      (subst (λ (v : Numbers). play_rounds r v.commit_pow_bits now taken.rounds ≡ Err p) at.same
      failed)

  module _ (alpha bivariate : List F) (betas : List (List F)) (m : Numbers) (now : S)
      (at : AtQuery alpha bivariate betas m now) where
    pub fails_query : (p : PowPhase) →
        query_phase r.base m now taken.final_poly taken.query_witness ≡ Err p →
        draw_seeded r n taken s ≡ Err p
    fails_query p failed =
        end_is alpha bivariate betas m now at
        ∙ ap (λ t. and_then t (at_end r n taken s alpha bivariate betas))
        (subst (λ v. query_phase r.base v now taken.final_poly taken.query_witness ≡ Err p) at.same
        failed)

    -- where none does, these are its draws
    pub all_drawn : (indices : List ℕ) (after : S) →
        query_phase r.base m now taken.final_poly taken.query_witness ≡ Ok (indices, after) →
        draw_seeded r n taken s ≡ Ok (drawn_parts alpha bivariate betas indices after)
    all_drawn indices after drawn =
        end_is alpha bivariate betas m now at
        ∙ ap (λ t. and_then t (at_end r n taken s alpha bivariate betas))
        (subst
        (λ v. query_phase r.base v now taken.final_poly taken.query_witness ≡ Ok (indices, after))
        at.same drawn)

  -- what is known of the tests and of the states on the way
  batch_passed : (alpha bivariate : List F) (m : Numbers) (now : S) →
      AtRounds alpha bivariate m now →
      IsTrue (is_passed r.base (claimed r n taken s) n.batch_pow_bits taken.batch_witness)
  batch_passed alpha bivariate m now at = passes_in Batch _ _ _ at.batch

  pub batch_drawn : (alpha bivariate : List F) (m : Numbers) (now : S) →
      AtRounds alpha bivariate m now → alpha ≡ drawn_element r.base (batched r n taken s)
  batch_drawn alpha bivariate m now at = ap (λ p. p.0) (given_in Batch _ _ _ at.batch)

  pub layer_drawn : (alpha bivariate : List F) (m : Numbers) (now : S) →
      AtRounds alpha bivariate m now → bivariate ≡ drawn_element r.base (layered r n taken s)
  layer_drawn alpha bivariate m now at =
      ap (λ p. p.0) at.layer
      ∙ ap (λ t. drawn_element r.base (r.after_commitment t taken.first_layer))
      (ap (λ p. p.1) (given_in Batch _ _ _ at.batch))

  pub rounds_begin : (alpha bivariate : List F) (m : Numbers) (now : S) →
      AtRounds alpha bivariate m now → now ≡ after_element r.base (layered r n taken s)
  rounds_begin alpha bivariate m now at =
      ap (λ p. p.1) at.layer
      ∙ ap (λ t. after_element r.base (r.after_commitment t taken.first_layer))
      (ap (λ p. p.1) (given_in Batch _ _ _ at.batch))

  pub rounds_told : (alpha bivariate : List F) (betas : List (List F)) (m : Numbers) (now : S) →
      AtQuery alpha bivariate betas m now →
      AreTold r n.commit_pow_bits (after_element r.base (layered r n taken s)) now taken.rounds
      betas
  rounds_told alpha bivariate betas m now at =
      told r n.commit_pow_bits (after_element r.base (layered r n taken s)) now taken.rounds betas
      (subst (λ t. play_rounds r n.commit_pow_bits t taken.rounds ≡ Ok (betas, now))
      (rounds_begin alpha bivariate n at.begun at.before) at.rounds)

module _ {C S F E Com : Type 0} (r : RunMoves C S F E Com) (n : Numbers) (claims : List (Claim E))
    (messages : CircleMessages E Com) (s : S) where
  -- a run that is stuck in a phase
  pub stuck_in : (phase : PowPhase) (e : CircleTranscriptFailure) (bits : ℕ) →
      e ≡ NoWitness phase bits → bits ≡ difficulty_of n phase →
      IsStuckIn r n claims messages s phase → IsStuck r n claims messages s e
  stuck_in phase e bits is same stuck =
      subst (IsStuck r n claims messages s) (sym (is ∙ ap (NoWitness phase) same))
      (record { named = refl; stuck = stuck })

  pub stuck_rounds : (batch : F) (alpha bivariate : List F) (m : Numbers) (s2 : S) →
      AtRounds r n (taken_with claims messages batch [] r.base.zero) s alpha bivariate m s2 →
      HasStuckRound r m.commit_pow_bits s2 messages.commitments.now →
      IsStuckInRounds r n claims messages s
  stuck_rounds batch alpha bivariate m s2 at stuck = record {
    batch = batch;
    passed = batch_passed r n (taken_with claims messages batch [] r.base.zero) s _ _ _ _ at;
    stuck =
        subst
        (λ (v : Numbers). HasStuckRound r v.commit_pow_bits
        (after_element r.base (layered r n (taken_with claims messages batch [] r.base.zero) s))
        messages.commitments.now) at.same
        (subst (λ t. HasStuckRound r m.commit_pow_bits t messages.commitments.now)
        (rounds_begin r n (taken_with claims messages batch [] r.base.zero) s _ _ _ _ at) stuck);
  }

  pub stuck_query : (batch : F) (rounds : List F) (alpha bivariate : List F)
      (betas : List (List F)) (m : Numbers) (s3 : S) →
      AtQuery r n (taken_with claims messages batch rounds r.base.zero) s alpha bivariate betas m s3
      → length rounds ≡ length messages.commitments.now
      → NonePasses r.base (after_final_poly r.base s3 messages.final_poly.now) m.query_pow_bits →
      IsStuckInQuery r n claims messages s
  stuck_query batch rounds alpha bivariate betas m s3 at count none =
      let all = taken_with claims messages batch rounds r.base.zero in
      let known = rounds_told r n all s _ _ _ _ _ at in record {
        batch = batch;
        rounds = rounds;
        passed = batch_passed r n all s _ _ _ _ at.before;
        count = count;
        rounds_passed = known.passes;
        none =
            subst
            (λ (v : Numbers). NonePasses r.base
            (closed r n (taken_with claims messages batch rounds r.base.zero) s) v.query_pow_bits)
            at.same
            (subst
            (λ t. NonePasses r.base (after_final_poly r.base t messages.final_poly.now)
            m.query_pow_bits) known.state none);
      }
