-- What the transcript of claims and a proof draws from a challenger.
use Rattle.std.specs.Prelude.{◌≡◌, List, Ok, Err, Result, ◌⊎◌}
use Rattle.circle_field.specs.Field.{FieldOps}
use Rattle.circle_challenger.specs.Moves.{RunMoves}
use Rattle.circle_commit.specs.declared.error.FriError.{FriError}
use Rattle.circle_commit.specs.declared.error.FriError.TheVariants.{InvalidPowWitness, Memory}
use Rattle.circle_commit.specs.declared.params.FriParameters.{FriParameters}
use Rattle.circle_commit.specs.declared.params.PowPhase.{PowPhase}
use Rattle.circle_relation.specs.RunOf.{proof_of}
use Rattle.circle_relation.specs.StatementOf.{batch_claims}
use Rattle.circle_relation.specs.Statement.{BatchClaim, OpeningProof}
use Rattle.circle_relation.specs.Taken.{shape_by, taken_by}
use Rattle.circle_transcript.specs.declared.failure.CircleTranscriptFailure.{CircleTranscriptFailure}
use Rattle.circle_transcript.specs.declared.failure.CircleTranscriptFailure.TheVariants.{PowWitness}
use Rattle.circle_transcript.specs.declared.failure.CircleTranscriptFailure.TheVariants.{NoWitness}
use Rattle.circle_transcript.specs.declared.failure.CircleTranscriptFailure.TheVariants.{Memory as OutOfMemory}
use Rattle.circle_transcript.specs.Draw.{Drawn, draw}
use Rattle.circle_transcript.specs.Runs.{drawn_leaving}
use Rattle.circle_transcript.specs.declared.run.CircleDraws.{CircleDraws}
use Rattle.circle_verifier.specs.declared.tested.TestedRun.{TestedRun}

-- what is drawn from a state of a challenger, of claims and a proof
abbrev pub drawing : {C S F E M Com InputCom InputProof WordProof : Type 0} → RunMoves C S F E Com
    → FriParameters M → FieldOps E → List (BatchClaim InputCom E)
    → OpeningProof F E Com InputProof WordProof → S → Result (Drawn S F) PowPhase
drawing r p l batches proof s = draw r (shape_by p batches) (taken_by l batches proof) s

-- the refusal that a transcript's failure is returned as
abbrev pub refusal_of : {WE I : Type 0} → CircleTranscriptFailure → FriError WE I
refusal_of (PowWitness phase bits) = InvalidPowWitness phase
refusal_of (NoWitness phase bits) = InvalidPowWitness phase
refusal_of OutOfMemory = Memory

-- a witness of this phase is the first that doesn't pass
pub record IsMissedIn {S F WE I : Type 0} (drawn : Result (Drawn S F) PowPhase)
    (e : FriError WE I) : Type 0 where
  pub phase : PowPhase
  pub named : e ≡ InvalidPowWitness phase
  pub missed : drawn ≡ Err phase

-- I and W are the schemes of the batches and of the codewords, each with its commitments, data,
-- proofs and errors; r is what the challenger is to the transcript
module _ {C S F E I W IC ID IP IE WC WD WP WE : Type 0} {g over inputs ic ip ie words wc wp we : _}
    (r : RunMoves C S F E WC)
    (t : TestedRun F E I W IC ID IP IE WC WD WP WE g over inputs ic ip ie words wc wp we) where
  -- what the challenger draws
  abbrev pub drawn_from : C → Result (Drawn S F) PowPhase
  drawn_from challenger =
      drawing r t.params.now over.fields.extension (batch_claims t.claims.now)
      (proof_of t.proof.now) (r.base.state challenger)

  -- the first challenger draws these, and the other is left
  abbrev pub AreDrawn : C → CircleDraws E → C → Type 0
  AreDrawn old d new = drawn_from old ≡ Ok (drawn_leaving r d new)

  -- memory is refused, or a witness doesn't pass
  abbrev pub AreNotDrawn : {Cause : Type 0} → C → FriError WE Cause → Type 0
  AreNotDrawn old e = (e ≡ Memory) ⊎ IsMissedIn (drawn_from old) e
