-- Whole runs, as contracts see them.
use Rattle.std.specs.Prelude.{◌≡◌, ℕ, ◌≤◌, List, [], map, length, zip, slice_get, Some, IsTrue}
use Rattle.std.specs.Prelude.{true, false, Result, Ok, Err}
use Rattle.std.specs.Borrow.{Bor}
use Rattle.circle_challenger.specs.Moves.{Moves, RunMoves, is_passed, after_element}
use Rattle.circle_commit.specs.declared.params.PowPhase.{PowPhase}
use Rattle.circle_commit.specs.declared.params.PowPhase.TheVariants.{Batch, CommitPhase, Query}
use Rattle.circle_point.specs.declared.point.Point.{Point}
use Rattle.circle_transcript.specs.declared.failure.CircleTranscriptFailure.{CircleTranscriptFailure}
use Rattle.circle_transcript.specs.declared.failure.CircleTranscriptFailure.TheVariants.{PowWitness}
use Rattle.circle_transcript.specs.declared.failure.CircleTranscriptFailure.TheVariants.{NoWitness}
use Rattle.circle_transcript.specs.declared.run.CircleDraws.{CircleDraws}
use Rattle.circle_transcript.specs.declared.run.CircleMessages.{CircleMessages}
use Rattle.circle_transcript.specs.declared.run.CircleWitnesses.{CircleWitnesses}
use Rattle.circle_transcript.specs.declared.shape.CirclePcsShape.{CirclePcsShape}
use Rattle.circle_transcript.specs.declared.transcript.CircleTranscript.{CircleTranscript}
use Rattle.circle_transcript.specs.declared.transcript.Numbers.{Numbers}
use Rattle.circle_transcript.specs.Claims.{claims_of}
use Rattle.circle_transcript.specs.Draw.{Claim, Taken, taken, Drawn, claimed, layered, closed}
use Rattle.circle_transcript.specs.Draw.{after_rounds, rounds_pass, play_rounds, draw_seeded, draw}
use Rattle.circle_transcript.specs.Failure.{phase_of}
use Rattle.circle_transcript.specs.Numbers.{numbers_of, difficulty_of}
use Rattle.circle_transcript.specs.ShapeOf.{shape_of}
use Rattle.circle_transcript.specs.Transcript.{current, state_of, run_of, numbers, no_witness}

-- the numbers that a run can be played with
pub record ArePlayable (n : Numbers) : Type 0 where
  pub batch : n.batch_pow_bits ≤ 63
  pub commit : n.commit_pow_bits ≤ 63
  pub query : n.query_pow_bits ≤ 63
  pub index : n.index_bits ≤ 63
  pub final_poly : n.log_final_poly_len ≤ 63

-- what a run absorbs, of claims, messages and witnesses
abbrev pub taken_with : {F E Com : Type 0} → List (Claim E) → CircleMessages E Com → F → List F → F
    → Taken F E Com
taken_with claims messages batch rounds query =
    taken claims batch messages.first_layer.now (zip messages.commitments.now rounds)
    messages.final_poly.now query

abbrev pub taken_of : {F E Com : Type 0} {g : _} → List (Point E g × Bor (List E))
    → CircleMessages E Com
    → CircleWitnesses F → Taken F E Com
taken_of claims messages witnesses =
    taken_with (claims_of claims) messages witnesses.batch witnesses.rounds.items witnesses.query

-- challenges as their coefficients, with the state after the run
abbrev pub drawn_of : {S F E : Type 0} → (E → List F) → CircleDraws E → S → Drawn S F
drawn_of coefficients d state = record {
  alpha = coefficients d.alpha;
  bivariate = coefficients d.bivariate;
  betas = map coefficients d.betas.items;
  indices = d.indices.items;
  state = state;
}

-- the draw fails in the phase that the failure names, with that phase's difficulty
pub record IsMiss {A : Type 0} (n : Numbers) (drawn : Result A PowPhase)
    (e : CircleTranscriptFailure) : Type 0 where
  pub named : e ≡ PowWitness (phase_of e) (difficulty_of n (phase_of e))
  pub failed : drawn ≡ Err (phase_of e)

-- no witness passes in this state
abbrev pub NonePasses : {C S F E : Type 0} → Moves C S F E → S → ℕ → Type 0
NonePasses {F = F} m s bits = (w : F) → is_passed m s bits w ≡ false

module _ {C S F E Com : Type 0} (r : RunMoves C S F E Com) where
  -- after rounds whose witnesses pass comes a commitment after which none passes
  pub record HasStuckRound (bits : ℕ) (s : S) (commitments : List Com) : Type 0 where
    pub witnesses : List F
    pub commitment : Com
    pub next : slice_get commitments (length witnesses) ≡ Some commitment
    pub passed : rounds_pass r bits s (zip commitments witnesses) ≡ true
    pub none :
        NonePasses r.base (r.after_commitment (after_rounds r bits s (zip commitments witnesses))
        commitment) bits

  module _ (n : Numbers) (claims : List (Claim E)) (messages : CircleMessages E Com) (s : S) where
    -- what is absorbed with these witnesses, before that of the indices
    abbrev pub with_found : F → List F → Taken F E Com
    with_found batch rounds = taken_with claims messages batch rounds r.base.zero

    -- whether a witness of the batching challenge passes
    abbrev pub Starts : F → Type 0
    Starts batch = IsTrue (is_passed r.base (claimed r n (with_found batch []) s)
        n.batch_pow_bits batch)

    -- the state before the rounds
    abbrev pub before_rounds : F → S
    before_rounds batch = after_element r.base (layered r n (with_found batch []) s)

    -- the witness of the batching challenge passes, and a round after it is stuck
    pub record IsStuckInRounds : Type 0 where
      pub batch : F
      pub passed : Starts batch
      pub stuck : HasStuckRound n.commit_pow_bits (before_rounds batch) messages.commitments.now

    -- the witnesses of the batching challenge and of the rounds pass, and none does before the
    -- indices
    pub record IsStuckInQuery : Type 0 where
      pub batch : F
      pub rounds : List F
      pub passed : Starts batch
      pub count : length rounds ≡ length messages.commitments.now
      pub rounds_passed :
          rounds_pass r n.commit_pow_bits (before_rounds batch)
          (zip messages.commitments.now rounds)
          ≡ true
      pub none : NonePasses r.base (closed r n (with_found batch rounds) s) n.query_pow_bits

    -- no witness passes in the state in which this phase looks for one
    abbrev pub IsStuckIn : PowPhase → Type 0
    IsStuckIn Batch = NonePasses r.base (claimed r n (with_found r.base.zero []) s) n.batch_pow_bits
    IsStuckIn CommitPhase = IsStuckInRounds
    IsStuckIn Query = IsStuckInQuery

    -- so it is in the phase that the failure names, with that phase's difficulty
    pub record IsStuck (e : CircleTranscriptFailure) : Type 0 where
      pub named : e ≡ NoWitness (phase_of e) (difficulty_of n (phase_of e))
      pub stuck : IsStuckIn (phase_of e)

  -- challenges as their coefficients, with the state of the challenger that drew them
  abbrev pub drawn_leaving : CircleDraws E → C → Drawn S F
  drawn_leaving d challenger = drawn_of r.base.coefficients d (r.base.state challenger)

  -- the run of this shape draws these from the first challenger, and leaves the other
  abbrev pub Draws : CirclePcsShape → Taken F E Com → C → CircleDraws E → C → Type 0
  Draws shape taken old d new =
      draw r (shape_of shape) taken (r.base.state old) ≡ Ok (drawn_leaving d new)

  -- the run of this shape fails where a witness doesn't pass
  abbrev pub Misses : CirclePcsShape → Taken F E Com → C → CircleTranscriptFailure → Type 0
  Misses shape taken old e =
      IsMiss (numbers_of (shape_of shape)) (draw r (shape_of shape) taken (r.base.state old)) e

-- likewise for the rest of a run, from a transcript whose seed was absorbed
module _ {C F E Com Side S : Type 0} {g d : _} (old : CircleTranscript C F E Com Side S g d) where
  -- it draws these, and leaves the other transcript
  abbrev pub DrawsFrom : Taken F E Com → CircleDraws E → CircleTranscript C F E Com Side S g d
      → Type 0
  DrawsFrom taken d new =
      draw_seeded (run_of old) (numbers old) taken (state_of old)
      ≡ Ok (drawn_leaving (run_of old) d (current new))

  -- it fails where a witness doesn't pass
  abbrev pub MissesFrom : Taken F E Com → CircleTranscriptFailure → Type 0
  MissesFrom taken e =
      IsMiss (numbers old) (draw_seeded (run_of old) (numbers old) taken (state_of old)) e

  -- it fails where no witness passes
  abbrev pub FindsNoneFrom : {h : _} → List (Point E h × Bor (List E)) → CircleMessages E Com
      → CircleTranscriptFailure → Type 0
  FindsNoneFrom claims messages e =
      IsStuck (run_of old) (numbers old) (claims_of claims) messages (state_of old) e

  -- the rounds of these commitments, with a witness for each
  abbrev pub rounds_from : List Com → List F → Result (List (List F) × S) PowPhase
  rounds_from commitments witnesses =
      play_rounds (run_of old) (numbers old).commit_pow_bits (state_of old)
      (zip commitments witnesses)

  -- they were played and drew these challenges
  abbrev pub HavePlayed : CircleTranscript C F E Com Side S g d → List Com → List F
      → List (List F) → Type 0
  HavePlayed new commitments witnesses betas =
      rounds_from commitments witnesses ≡ Ok (betas, state_of new)

  -- they fail where a witness doesn't pass
  abbrev pub MissesInRounds : List Com → List F → CircleTranscriptFailure → Type 0
  MissesInRounds commitments witnesses e =
      IsMiss (numbers old) (rounds_from commitments witnesses) e

  -- they fail where no witness passes
  abbrev pub FindsNoneInRounds : List Com → CircleTranscriptFailure → Type 0
  FindsNoneInRounds commitments e =
      (e ≡ no_witness old CommitPhase)
      × HasStuckRound (run_of old) (numbers old).commit_pow_bits (state_of old) commitments
