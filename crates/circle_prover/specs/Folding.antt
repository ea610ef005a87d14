-- The first layer of an opening once it is folded, and the rounds that follow.
use Rattle.std.specs.Prelude.{◌≡◌, ◌⊎◌, ◌+◌, ◌-◌, ◌^◌, ◌++◌, [], ◌∷◌, ℕ, List, map, length, Ok}
use Rattle.std.specs.Prelude.{Some}
use Rattle.circle_challenger.specs.Moves.{RunMoves}
use Rattle.circle_challenger.specs.Step.{Step}
use Rattle.circle_codewords.specs.Words.{HaveHeights}
use Rattle.circle_commit.specs.declared.matrix.RowMajorMatrix.{RowMajorMatrix}
use Rattle.circle_commit.specs.declared.params.PowPhase.TheVariants.{CommitPhase}
use Rattle.circle_domain.specs.Spans.{HasXValues}
use Rattle.circle_relation.specs.declared.error.ProverError.{ProverError}
use Rattle.circle_relation.specs.declared.error.ProverError.TheVariants.{Memory}
use Rattle.circle_relation.specs.declared.error.ProverError.TheVariants.{NoGrindingWitness}
use Rattle.circle_transcript.specs.Draw.{Claim, first_layer}
use Rattle.circle_transcript.specs.Numbers.{indices_steps}
use Rattle.circle_transcript.specs.Shape.{rounds_steps}
use Rattle.circle_transcript.specs.Transcript.{batch_found, batch_from, current, numbers, run_of}
use Rattle.circle_transcript.specs.Transcript.{state_of}
use Rattle.circle_transcript.specs.declared.transcript.CircleTranscript.{CircleTranscript}
use Rattle.circle_transcript.specs.declared.transcript.Numbers.{Numbers}
use Rattle.circle_prover.specs.Failure.{IsStuckAfter, IsTooHigh}
use Rattle.circle_prover.specs.OfFoldable.{lambdas_of, layers_of, seen}
use Rattle.circle_prover.specs.Words.{AreCommitted, AreRounds, first_fold, heights_of, round_word}
use Rattle.circle_prover.specs.Words.{top_of}
use Rattle.circle_prover.specs.declared.first_layer.FoldedLayer.{FoldedLayer}
use Rattle.circle_prover.specs.declared.foldable.FoldableMatrices.{FoldableMatrices}
use Rattle.circle_prover.specs.declared.rounds.Rounds.{Rounds}

-- the steps of this many rounds, and those after them
abbrev pub folding_steps : ℕ → ℕ → Numbers → List Step
folding_steps degree rounds n =
    rounds_steps degree n.commit_pow_bits rounds ++ indices_steps degree n

-- from the one transcript, which leaves the other, claims were absorbed, the challenges of the
-- first layer drawn, and the layer committed to between
pub record IsBegun {C F E Com Side S D : Type 0} {h d : _}
    (old new : CircleTranscript C F E Com Side S h d) (claims : List (Claim E))
    (l : FoldedLayer F E Com D) : Type 0 where
  pub found : batch_found old claims ≡ Some l.witness
  pub after : S
  pub batch :
      batch_from old claims l.witness ≡ Ok ((run_of old).base.coefficients l.alpha, after)
  pub layer :
      ((run_of old).base.coefficients l.bivariate, state_of new)
      ≡ first_layer (run_of old) after l.layer.commitment

-- how many rounds there are
abbrev pub rounds_due : {F E M : Type 0} {over g : _} → FoldableMatrices F E M over g → ℕ
rounds_due o =
    top_of (seen o) - 1 - o.params.now.log_blowup - o.params.now.log_final_poly_len

module _ {F E M Com D : Type 0} {over g : _} (o : FoldableMatrices F E M over g) where
  -- under the challenges of a layer: what a codeword folds into by y, and the codeword of a round
  abbrev pub fold_of : FoldedLayer F E Com D → ℕ → List E
  fold_of l = first_fold over.fields o.params.now.log_blowup (seen o) l.alpha l.bivariate

  abbrev pub word_of : FoldedLayer F E Com D → List E → ℕ → List E
  word_of l = round_word over.fields o.params.now.log_blowup (seen o) l.alpha l.bivariate

  module _ (Commits : M → List (RowMajorMatrix E) → Com → Type 0)
      (kept_of : D → List (RowMajorMatrix E)) where
    -- a layer of the codewords of all heights, committed to, and what they fold into, that of the
    -- greatest height apart
    pub record IsFoldedLayer (l : FoldedLayer F E Com D) (tallest : List E) : Type 0 where
      pub heights : l.layer.heights.items ≡ heights_of (seen o)
      pub lambdas : l.layer.lambdas.items ≡ lambdas_of o l.alpha
      pub committed :
          AreCommitted (Commits o.params.now.mmcs) (layers_of o l.alpha) (kept_of l.layer.kept)
          l.layer.commitment
      pub shapes : HaveHeights l.layer.heights.items (kept_of l.layer.kept)
      pub folds :
          map (λ w. w.items) l.joining.items ++ tallest ∷ [] ≡ map (fold_of l) (heights_of (seen o))
      pub lengths :
          map (λ w. length w.items) l.joining.items ++ length tallest ∷ []
          ≡ map (λ h. 2 ^ (h - 1)) (heights_of (seen o))

    -- the rounds over it, and the coefficients of the last codeword
    pub record AreRoundsOver (l : FoldedLayer F E Com D) (rounds : Rounds F E Com D)
        (coefficients : List E) : Type 0 where
      pub count : length rounds.commitments.items ≡ rounds_due o
      pub witnesses : length rounds.witnesses.items ≡ rounds_due o
      pub committed :
          AreRounds (Commits o.params.now.mmcs) kept_of (word_of l rounds.betas.items)
          rounds.kept.items rounds.commitments.items
      pub final_poly :
          HasXValues over.fields.field over.fields.gen over.fields.extension over.fields.embed
          o.params.now.log_final_poly_len
          (o.params.now.log_blowup + o.params.now.log_final_poly_len)
          (word_of l rounds.betas.items (rounds_due o)) coefficients

  -- why they are not played to their end
  abbrev pub IsFoldFailure : {C S Side : Type 0} {h d : _} → RunMoves C S F E Com
      → (M → List (RowMajorMatrix E) → Com → Type 0) → FoldedLayer F E Com D
      → CircleTranscript C F E Com Side S h d → ProverError → Type 0
  IsFoldFailure r Commits l t e =
      (e ≡ Memory) ⊎ IsTooHigh over.fields o.params.now.log_blowup o.params.now.log_final_poly_len
      (seen o) e
      ⊎ ((e ≡ NoGrindingWitness CommitPhase) × IsStuckAfter r (Commits o.params.now.mmcs)
      (numbers t).commit_pow_bits (r.base.state (current t)) (word_of l) (rounds_due o))
