-- What a verifier decides: which claims and proofs it accepts from a state of the challenger, and
-- why it refuses others once the challenger is seeded.
use Rattle.std.specs.Prelude.{◌≡◌, Bool, List, Result, Ok, ◌⊎◌}
use Rattle.circle_challenger.specs.Moves.{RunMoves}
use Rattle.circle_commit.specs.declared.error.FriError.{FriError}
use Rattle.circle_commit.specs.declared.error.FriError.TheVariants.{Memory}
use Rattle.circle_commit.specs.declared.params.FriParameters.{FriParameters}
use Rattle.circle_commit.specs.declared.params.PowPhase.{PowPhase}
use Rattle.circle_commit.specs.declared.pcs.CommitmentOpening.{CommitmentOpening}
use Rattle.circle_domain.specs.declared.domain.CircleDomain.{CircleDomain}
use Rattle.circle_relation.specs.declared.error.InputError.{InputError}
use Rattle.circle_relation.specs.declared.proof.CirclePcsProof.{CirclePcsProof}
use Rattle.circle_relation.specs.Statement.{Challenges}
use Rattle.circle_relation.specs.StatementOf.{batch_claims}
use Rattle.circle_relation.specs.Accepts.{AcceptsFrom, Authenticates, Fields}
use Rattle.circle_relation.specs.Reasons.{IsReason}
use Rattle.circle_relation.specs.RunOf.{proof_of, run_with}
use Rattle.circle_transcript.specs.Draw.{Drawn}
use Rattle.circle_relation.specs.Taken.{drawn_by}
use Rattle.circle_verifier.specs.Replay.{drawing, IsMissedIn}

-- I and W are the schemes of the batches and of the codewords, each with its commitments, data,
-- proofs and errors; r is what the challenger is to the transcript
module _ {C S F E I W IC ID IP IE WC WD WP WE : Type 0} {g : _} (k : Fields F E)
    (r : RunMoves C S F E WC) (p : FriParameters W)
    (claims : List (CommitmentOpening E IC (CircleDomain F g)))
    (proof : CirclePcsProof F E I W F IC ID IP IE WC WD WP WE) where
  -- what is drawn from a state
  abbrev pub draw_from : S → Result (Drawn S F) PowPhase
  draw_from s = drawing r p k.extension (batch_claims claims) (proof_of proof) s

  -- these challenges are drawn from the one state, which leaves the other
  abbrev pub IsDrawnFrom : S → Challenges E → S → Type 0
  IsDrawnFrom old drawn new = draw_from old ≡ Ok (drawn_by r.base.coefficients drawn new)

module _ {C S F E I W IC ID IP IE WC WD WP WE : Type 0} {g : _} (k : Fields F E)
    (r : RunMoves C S F E WC)
    (inputs : I → Authenticates IC F IP) (words : W → Authenticates WC E WP)
    (mmcs : I) (p : FriParameters W) (claims : List (CommitmentOpening E IC (CircleDomain F g)))
    (proof : CirclePcsProof F E I W F IC ID IP IE WC WD WP WE) where
  -- from the one state of the challenger the verifier accepts, and leaves the other
  abbrev pub IsAccepted : S → S → Type 0
  IsAccepted old new =
      AcceptsFrom k p r (inputs mmcs) (words p.mmcs) (batch_claims claims) (proof_of proof) old new

  -- everything is drawn, and there is reason for the refusal then
  pub record IsRefusedAfter (input_memory : IE → Bool) (word_memory : WE → Bool) (old new : S)
      (e : FriError WE (InputError IE WE)) : Type 0 where
    pub drawn : Challenges E
    pub draws : IsDrawnFrom k r p claims proof old drawn new
    pub reason :
        IsReason k p (run_with claims proof drawn) (inputs mmcs) (words p.mmcs)
        input_memory word_memory e

  -- why a run that was seeded is refused; that memory was refused no contract sees
  abbrev pub IsRefused : (IE → Bool) → (WE → Bool) → S → S → FriError WE (InputError IE WE)
      → Type 0
  IsRefused input_memory word_memory old new e =
      (e ≡ Memory) ⊎ (IsMissedIn (draw_from k r p claims proof old) e
      ⊎ IsRefusedAfter input_memory word_memory old new e)
