-- What phases give, from the tests of their witnesses.
use Rattle.std.specs.Prelude.{Bool, true, false, ◌&&◌, IsTrue, if◌then◌else◌, Result, Ok, Err}
use Rattle.std.specs.Prelude.{◌⊎◌}
use Rattle.std.proofs.Common.{◌≡◌, ℕ, List, [], ◌∷◌, refl, sym, ap, subst, ◌∙◌, inl, inr}
use Rattle.circle_challenger.specs.Moves.{RunMoves, is_passed, after_element}
use Rattle.circle_commit.specs.declared.params.PowPhase.{PowPhase}
use Rattle.circle_commit.specs.declared.params.PowPhase.TheVariants.{Batch, CommitPhase, Query}
use Rattle.circle_transcript.specs.declared.failure.CircleTranscriptFailure.{CircleTranscriptFailure}
use Rattle.circle_transcript.specs.declared.failure.CircleTranscriptFailure.TheVariants.{PowWitness}
use Rattle.circle_transcript.specs.declared.failure.CircleTranscriptFailure.TheVariants.{Memory}
use Rattle.circle_transcript.specs.declared.transcript.Numbers.{Numbers}
use Rattle.circle_transcript.specs.Draw.{Taken, Drawn, guarded, and_then, play_rounds, rounds_pass}
use Rattle.circle_transcript.specs.Draw.{fold_challenges, fold_challenge, after_rounds, after_round}
use Rattle.circle_transcript.specs.Draw.{batched, claimed, layered, folded, closed, queried, drawn}
use Rattle.circle_transcript.specs.Draw.{element, indices, first_layer, query_phase, draw_seeded}
use Rattle.circle_transcript.specs.Numbers.{difficulty_of}
use Rattle.circle_transcript.specs.Runs.{IsMiss}
use Rattle.circle_transcript.specs.Transcript.{or_bad_witness}

module _ {A : Type 0} (phase : PowPhase) where
  -- a witness that passes gives what it guards, and no other does
  pub passes_in : (b : Bool) (a x : A) → guarded phase b a ≡ Ok x → IsTrue b
  passes_in true a x is = refl
  passes_in false a x is = cc

  pub given_in : (b : Bool) (a x : A) → guarded phase b a ≡ Ok x → x ≡ a
  given_in true a x is = cc
  given_in false a x is = cc

  pub missed_in : (b : Bool) (a : A) (p : PowPhase) → guarded phase b a ≡ Err p → b ≡ false
  missed_in true a p is = cc
  missed_in false a p is = refl

  -- what is drawn after a witness that passes
  pub passed_on : {S : Type 0} (passes : S → Bool) (pow : S → S) (draw : S → A) (at s t : S)
      (x : A) → s ≡ at → IsTrue (passes s) → t ≡ pow s → x ≡ draw t →
      guarded phase (passes at) (draw (pow at)) ≡ Ok x
  passed_on passes pow draw at s t x here passed after drawn =
      ap (λ b. guarded phase b (draw (pow at))) (subst (λ u. passes u ≡ true) here passed)
      ∙ ap Ok (sym (drawn ∙ ap draw (after ∙ ap pow here)))

  -- what follows it
  guarded_then : {B : Type 0} (b : Bool) (a : A) (next : A → Result B PowPhase) →
      and_then (guarded phase b a) next ≡ (if b then next a else Err phase)
  guarded_then true a next = refl
  guarded_then false a next = refl

  guarded_twice : (b c : Bool) (a : A) →
      (if b then guarded phase c a else Err phase) ≡ guarded phase (b && c) a
  guarded_twice true c a = refl
  guarded_twice false c a = refl

-- what a phase's call returned: what the phase gives, or the failure where its witness misses
pub gave : {A : Type 0} (n : Numbers) (m : Result A PowPhase) (x : A) → Ok x ≡ or_bad_witness n m →
    m ≡ Ok x
gave n (Ok a) x is = cc
gave n (Err phase) x is = cc

pub missed : {A : Type 0} (n : Numbers) (m : Result A PowPhase) (e : CircleTranscriptFailure) →
    Err e ≡ or_bad_witness n m → IsMiss n m e
missed n (Ok a) e is = cc
missed n (Err phase) e is =
    let same : e ≡ PowWitness phase (difficulty_of n phase) = cc in
    subst (IsMiss n (Err phase)) (sym same) (record { named = refl; failed = refl })

-- a call that returned where memory isn't refused, and the failure of one that did
pub not_refused : {A : Type 0} (P : Type 0) (r : Result A CircleTranscriptFailure) (x : A) →
    r ≡ Ok x → (r ≡ Err Memory) ⊎ P → P
not_refused P r x is (inl refused) = absurd (cc)
not_refused P r x is (inr p) = p

pub same_failure : {A : Type 0} (r : Result A CircleTranscriptFailure)
    (a b : CircleTranscriptFailure) → r ≡ Err a → r ≡ Err b → a ≡ b
same_failure r a b first second = cc

module _ {C S F E Com : Type 0} (r : RunMoves C S F E Com) where
  -- rounds as the tests of all their witnesses, their challenges and the state after them
  pub rounds_are : (bits : ℕ) (s : S) (rounds : List (Com × F)) → play_rounds r bits s rounds
      ≡ guarded CommitPhase (rounds_pass r bits s rounds)
      (fold_challenges r bits s rounds, after_rounds r bits s rounds)
  unfolding play_rounds rounds_pass fold_challenges after_rounds
  rounds_are bits s [] = refl
  rounds_are bits s (a ∷ rounds) =
      let passed = is_passed r.base (r.after_commitment s a.0) bits a.1 in
      let next = after_round r bits s a in
      let join : List (List F) × S → Result (List (List F) × S) PowPhase =
      λ rest. Ok (fold_challenge r bits s a ∷ rest.0, rest.1) in
      guarded_then CommitPhase passed (fold_challenge r bits s a, next)
      (λ first. and_then (play_rounds r bits first.1 rounds)
      (λ rest. Ok (first.0 ∷ rest.0, rest.1)))
      ∙ ap (λ t. if passed then and_then t join else Err CommitPhase) (rounds_are bits next rounds)
      ∙ ap (λ t. if passed then t else Err CommitPhase)
      (guarded_then CommitPhase (rounds_pass r bits next rounds)
      (fold_challenges r bits next rounds, after_rounds r bits next rounds) join)
      ∙ guarded_twice CommitPhase passed (rounds_pass r bits next rounds) (
        fold_challenge r bits s a ∷ fold_challenges r bits next rounds,
        after_rounds r bits next rounds,
      )

  -- what rounds that were played say of the tests
  pub record AreTold (bits : ℕ) (begun now : S) (rounds : List (Com × F)) (betas : List (List F))
      : Type 0 where
    pub passes : rounds_pass r bits begun rounds ≡ true
    pub challenges : betas ≡ fold_challenges r bits begun rounds
    pub state : now ≡ after_rounds r bits begun rounds

  pub told : (bits : ℕ) (begun now : S) (rounds : List (Com × F)) (betas : List (List F)) →
      play_rounds r bits begun rounds ≡ Ok (betas, now) → AreTold bits begun now rounds betas
  told bits begun now rounds betas played =
      let is = sym (rounds_are bits begun rounds) ∙ played in
      let given = given_in CommitPhase (rounds_pass r bits begun rounds) _ _ is in record {
        passes = passes_in CommitPhase (rounds_pass r bits begun rounds) _ _ is;
        challenges = ap (λ p. p.0) given;
        state = ap (λ p. p.1) given;
      }

  module _ (n : Numbers) (taken : Taken F E Com) (s : S) where
    abbrev pub layer_after : List F × S → List F × S
    layer_after batch = first_layer r batch.1 taken.first_layer

    -- what follows the queries, the rounds and the batching challenge
    abbrev pub at_end : List F → List F → List (List F) → List ℕ × S → Result (Drawn S F) PowPhase
    at_end alpha bivariate betas queries =
        Ok (record {
          alpha = alpha;
          bivariate = bivariate;
          betas = betas;
          indices = queries.0;
          state = queries.1;
        })

    abbrev pub from_query : List F → List F → List (List F) × S → Result (Drawn S F) PowPhase
    from_query alpha bivariate rounds =
        and_then (query_phase r.base n rounds.1 taken.final_poly taken.query_witness)
        (at_end alpha bivariate rounds.0)

    abbrev pub from_layer : List F × S → Result (Drawn S F) PowPhase
    from_layer batch =
        and_then (play_rounds r n.commit_pow_bits (layer_after batch).1 taken.rounds)
        (from_query batch.0 (layer_after batch).0)

    -- a run as the tests of its witnesses, and what it draws where they pass
    pub draw_is : draw_seeded r n taken s
        ≡ (if is_passed r.base (claimed r n taken s) n.batch_pow_bits taken.batch_witness then
        (if rounds_pass r n.commit_pow_bits (after_element r.base (layered r n taken s))
        taken.rounds then
        (if is_passed r.base (closed r n taken s) n.query_pow_bits taken.query_witness then Ok
        (drawn r n taken s) else Err Query) else Err CommitPhase) else Err Batch)
    unfolding draw_seeded
    draw_is =
        let passed = is_passed r.base (claimed r n taken s) n.batch_pow_bits taken.batch_witness in
        let batch = element r.base (batched r n taken s) in
        let begun = after_element r.base (layered r n taken s) in
        let all_pass = rounds_pass r n.commit_pow_bits begun taken.rounds in
        let betas = fold_challenges r n.commit_pow_bits begun taken.rounds in
        let last = is_passed r.base (closed r n taken s) n.query_pow_bits taken.query_witness in
        guarded_then Batch passed batch from_layer
        ∙ ap (λ t. if passed then t else Err Batch)
        (ap (λ t. and_then t (from_query batch.0 (layer_after batch).0))
        (rounds_are n.commit_pow_bits begun taken.rounds)
        ∙ guarded_then CommitPhase all_pass (betas, folded r n taken s)
        (from_query batch.0 (layer_after batch).0)
        ∙ ap (λ t. if all_pass then t else Err CommitPhase)
        (guarded_then Query last (indices r.base n (queried r n taken s))
        (at_end batch.0 (layer_after batch).0 betas)))
