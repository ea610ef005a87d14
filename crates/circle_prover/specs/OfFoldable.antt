-- Matrices that are opened and leave something to fold, as clauses see them. The dictionary of
-- their fields is an argument of their type.
use Rattle.std.specs.Prelude.{◌⊎◌, ◌≡◌, ℕ, ◌-◌, List, map, MatchResult, Result}
use Rattle.std.specs.Borrow.{Bor}
use Rattle.circle_challenger.specs.Moves.{RunMoves}
use Rattle.circle_commit.specs.Mmcs.{greatest}
use Rattle.circle_commit.specs.declared.matrix.RowMajorMatrix.{RowMajorMatrix}
use Rattle.circle_codewords.specs.Words.{Committed, committed_of, lambda}
use Rattle.circle_point.specs.declared.point.Point.{Point}
use Rattle.circle_relation.specs.Accepts.{Fields}
use Rattle.circle_relation.specs.declared.error.ProverError.{ProverError}
use Rattle.circle_relation.specs.declared.error.ProverError.TheVariants.{Memory}
use Rattle.circle_transcript.specs.Claims.{claims_of}
use Rattle.circle_transcript.specs.Draw.{seeded}
use Rattle.circle_transcript.specs.Numbers.{numbers_of}
use Rattle.circle_transcript.specs.Runs.{Draws}
use Rattle.circle_transcript.specs.ShapeOf.{shape_of}
use Rattle.circle_transcript.specs.Transcript.{current, numbers}
use Rattle.circle_transcript.specs.declared.shape.CirclePcsShape.{CirclePcsShape}
use Rattle.circle_transcript.specs.declared.transcript.CircleTranscript.{CircleTranscript}
use Rattle.circle_prover.specs.Failure.{IsStuck, IsTooHigh}
use Rattle.circle_prover.specs.Words.{AreMade, heights_of, layer_of, taken_in}
use Rattle.circle_prover.specs.declared.foldable.FoldableMatrices.{FoldableMatrices}
use Rattle.circle_prover.specs.declared.run.CommittedWords.{CommittedWords}

module _ {F E M : Type 0} {over g : _} (o : FoldableMatrices F E M over g) where
  abbrev pub fields_of : Fields F E
  fields_of = over.fields

  -- the matrices as codewords read them
  abbrev pub seen : List (Committed F E)
  seen = map (committed_of over.fields o.params.now.log_blowup) o.matrices.now

  -- this many rounds leave the coefficients at which folding stops
  abbrev pub round_count : ℕ
  round_count =
      greatest (map (λ m. m.log_height) o.matrices.now) - 1 - o.params.now.log_blowup -
      o.params.now.log_final_poly_len

  -- of each height the multiple of the vanishing polynomial in its codeword, and the codeword
  -- without it, in rows of two
  abbrev pub lambdas_of : E → List E
  lambdas_of alpha =
      map (lambda over.fields alpha seen o.params.now.log_blowup) (heights_of seen)

  abbrev pub layers_of : E → List (List (List E))
  layers_of alpha =
      map (layer_of over.fields o.params.now.log_blowup seen alpha) (heights_of seen)

  -- what was made are their codewords
  abbrev pub AreMadeOf : {Com D : Type 0} → (M → List (RowMajorMatrix E) → Com → Type 0)
      → (D → List (RowMajorMatrix E)) → CommittedWords F E Com D → Type 0
  AreMadeOf Commits kept_of = AreMade over.fields Commits kept_of o.params.now seen

  -- why a run over claims is not played to its end: from a transcript that has begun, or from a
  -- challenger that is seeded with its shape
  module _ {C S Com : Type 0} (r : RunMoves C S F E Com)
      (Commits : M → List (RowMajorMatrix E) → Com → Type 0)
      (claims : List (Point E g × Bor (List E))) where
    abbrev pub IsRunFailure :
        {Side : Type 0} {h d : _} → CircleTranscript C F E Com Side S h d → ProverError → Type 0
    IsRunFailure t e =
        (e ≡ Memory) ⊎ IsTooHigh over.fields o.params.now.log_blowup
        o.params.now.log_final_poly_len seen e
        ⊎ IsStuck r (Commits o.params.now.mmcs) over.fields o.params.now seen (numbers t)
        (claims_of claims) (r.base.state (current t)) e

    abbrev pub IsShapeFailure : CirclePcsShape → C → ProverError → Type 0
    IsShapeFailure shape challenger e =
        (e ≡ Memory) ⊎ IsTooHigh over.fields o.params.now.log_blowup
        o.params.now.log_final_poly_len seen e
        ⊎ IsStuck r (Commits o.params.now.mmcs) over.fields o.params.now seen
        (numbers_of (shape_of shape)) (claims_of claims)
        (seeded r (shape_of shape) (r.base.state challenger)) e

    -- the run is played, from the one challenger, and leaves the other; or this is why not
    abbrev pub IsOutcome : {D : Type 0} → CirclePcsShape → C
        → Result (CommittedWords F E Com D) ProverError → C → Type 0
    IsOutcome shape old result new =
        MatchResult result
        (λ w. Draws r shape (taken_in (claims_of claims) w) old w.draws new)
        (IsShapeFailure shape old)
