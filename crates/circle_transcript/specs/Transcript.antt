-- What contracts see of a transcript of the scheme. Its type carries what its challenger is to a
-- run.
use Rattle.std.specs.Prelude.{◌≡◌, ℕ, Bool, List, Option, Result, Ok, Err, length}
use Rattle.std.specs.Borrow.{MutBor}
use Rattle.circle_challenger.specs.Moves.{RunMoves, is_passed, after_pow, found_at}
use Rattle.circle_challenger.specs.Moves.{drawn_numbers, after_numbers}
use Rattle.circle_challenger.specs.Step.{Step}
use Rattle.circle_commit.specs.declared.params.PowPhase.{PowPhase}
use Rattle.circle_transcript.specs.Numbers.{difficulty_of}
use Rattle.circle_transcript.specs.Shape.{batch_steps, rounds_steps}
use Rattle.circle_transcript.specs.Draw.{Claim, widths_of, after_claims, after_final_poly, element}
use Rattle.circle_transcript.specs.Draw.{batch_phase, query_phase, first_layer}
use Rattle.circle_transcript.specs.Draw.{commit_round}
use Rattle.circle_transcript.specs.declared.failure.CircleTranscriptFailure.{CircleTranscriptFailure}
use Rattle.circle_transcript.specs.declared.failure.CircleTranscriptFailure.TheVariants.{PowWitness}
use Rattle.circle_transcript.specs.declared.failure.CircleTranscriptFailure.TheVariants.{NoWitness}
use Rattle.circle_transcript.specs.declared.transcript.CircleTranscript.{CircleTranscript}
use Rattle.circle_transcript.specs.declared.transcript.Numbers.{Numbers}

-- a phase, where its failure says how hard its proof of work is
abbrev pub or_bad_witness : {A : Type 0} → Numbers → Result A PowPhase
    → Result A CircleTranscriptFailure
or_bad_witness n (Ok a) = Ok a
or_bad_witness n (Err phase) = Err (PowWitness phase (difficulty_of n phase))

module _ {C F EF Com Side S : Type 0} {g d : _} (t : CircleTranscript C F EF Com Side S g d) where
  -- the challenger as it is now, and its state
  abbrev pub current : C
  current = t.challenger.now

  abbrev pub state_of : S
  state_of = g.run.base.state current

  -- the steps that are still due
  abbrev pub due : List Step
  due = t.due.steps

  -- what is played is the borrowed challenger
  abbrev pub Borrows : MutBor C → Type 0
  Borrows challenger = t.challenger.ghost_name ≡ challenger.ghost_name

  -- what its calls read of the shape
  abbrev pub numbers : Numbers
  numbers = t.shape

  -- what its challenger is to a run
  abbrev pub run_of : RunMoves C S F EF Com
  run_of = g.run

  -- in the other the borrowed challenger and the numbers of the shape are the same
  pub record IsSame (new : CircleTranscript C F EF Com Side S g d) : Type 0 where
    pub challenger : new.challenger.ghost_name ≡ t.challenger.ghost_name
    pub shape : new.shape ≡ t.shape

  -- the failure where no witness passes in this phase
  abbrev pub no_witness : PowPhase → CircleTranscriptFailure
  no_witness phase = NoWitness phase (difficulty_of t.shape phase)

  -- what a call returned, with the state after it
  abbrev pub outcome : {A B : Type 0} → (A → B) → Result A CircleTranscriptFailure
      → Result (B × S) CircleTranscriptFailure
  outcome value (Ok a) = Ok (value a, state_of)
  outcome value (Err e) = Err e

  -- the steps of claims, and of a round for each of these commitments
  abbrev pub steps_of_batch : List (Claim EF) → List Step
  steps_of_batch claims = batch_steps g.run.base.degree (widths_of claims) t.shape.batch_pow_bits

  abbrev pub steps_of_rounds : List Com → List Step
  steps_of_rounds commitments =
      rounds_steps g.run.base.degree t.shape.commit_pow_bits (length commitments)

  -- from its state on: whether a witness passes at a difficulty, the one that a search finds, and
  -- the state after one was absorbed
  abbrev pub witness_passes : ℕ → F → Bool
  witness_passes bits w = is_passed g.run.base state_of bits w

  abbrev pub witness_found : ℕ → Option F
  witness_found bits = found_at g.run.base state_of bits

  abbrev pub after_witness : ℕ → F → S
  after_witness bits w = after_pow g.run.base state_of bits w

  -- a challenge, and `count` numbers of `width` bits
  abbrev pub element_from : List F × S
  element_from = element g.run.base state_of

  abbrev pub numbers_from : ℕ → ℕ → List ℕ × S
  numbers_from width count =
      (drawn_numbers g.run.base width count state_of, after_numbers g.run.base width count state_of)

  -- the states in which the witness of a phase is looked for
  abbrev pub at_batch_pow : List (Claim EF) → S
  at_batch_pow claims = after_claims g.run.base state_of claims

  abbrev pub at_commitment : Com → S
  at_commitment commitment = g.run.after_commitment state_of commitment

  abbrev pub at_query_pow : List EF → S
  at_query_pow final_poly = after_final_poly g.run.base state_of final_poly

  -- the phases, with a witness
  abbrev pub batch_from : List (Claim EF) → F → Result (List F × S) PowPhase
  batch_from claims w = batch_phase g.run.base t.shape state_of claims w

  abbrev pub first_layer_from : Com → List F × S
  first_layer_from commitment = first_layer g.run state_of commitment

  abbrev pub commit_from : Com → F → Result (List F × S) PowPhase
  commit_from commitment w = commit_round g.run t.shape.commit_pow_bits state_of commitment w

  abbrev pub query_from : List EF → F → Result (List ℕ × S) PowPhase
  query_from final_poly w = query_phase g.run.base t.shape state_of final_poly w

  -- the witnesses that searches in them find
  abbrev pub batch_found : List (Claim EF) → Option F
  batch_found claims = found_at g.run.base (at_batch_pow claims) t.shape.batch_pow_bits

  abbrev pub commit_found : Com → Option F
  commit_found commitment = found_at g.run.base (at_commitment commitment) t.shape.commit_pow_bits

  abbrev pub query_found : List EF → Option F
  query_found final_poly = found_at g.run.base (at_query_pow final_poly) t.shape.query_pow_bits
