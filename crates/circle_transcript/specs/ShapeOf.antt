-- A `CirclePcsShape` as contracts see it.
use Rattle.std.specs.Prelude.{◌≡◌, ℕ, ◌+◌, ◌-◌, List, ◌++◌, map, Vec}
use Rattle.std.specs.declared.alloc.Global.{Global}
use Rattle.circle_challenger.specs.Interaction.{step_of}
use Rattle.circle_challenger.specs.Step.{Step}
use Rattle.circle_challenger.specs.declared.interaction.Interaction.{Interaction}
use Rattle.circle_commit.specs.declared.params.FriParameters.{FriParameters}
use Rattle.circle_transcript.specs.declared.shape.CirclePcsShape.{CirclePcsShape}
use Rattle.circle_transcript.specs.Shape.{Shape}

-- vectors as lists
abbrev pub matrices_of : {R : Type 0} → List (Vec ℕ R) → List (List ℕ)
matrices_of matrices = map (λ m. m.items) matrices

abbrev pub batches_of : {R : Type 0} → List (Vec (Vec ℕ R) R) → List (List (List ℕ))
batches_of batches = map (λ b. matrices_of b.items) batches

-- its shape
abbrev pub shape_of : CirclePcsShape → Shape
shape_of s = record {
  opened_widths = batches_of s.opened_widths.items;
  num_commit_rounds = s.num_commit_rounds;
  batch_pow_bits = s.batch_pow_bits;
  commit_pow_bits = s.commit_pow_bits;
  query_pow_bits = s.query_pow_bits;
  num_queries = s.num_queries;
  index_bits = s.index_bits;
  log_blowup = s.log_blowup;
  log_final_poly_len = s.log_final_poly_len;
}

-- the shape of a run with these parameters over claims of these numbers of columns, from the
-- logarithm of the greatest height and the number of further bits of an index
abbrev pub shape_for : {M : Type 0} → FriParameters M → Vec (Vec (Vec ℕ Global) Global) Global → ℕ
    → ℕ → CirclePcsShape
shape_for params opened_widths log_max_height extra_query_index_bits = record {
  opened_widths = opened_widths;
  num_commit_rounds = log_max_height - 1 - params.log_blowup - params.log_final_poly_len;
  batch_pow_bits = params.batch_proof_of_work_bits;
  commit_pow_bits = params.commit_proof_of_work_bits;
  query_pow_bits = params.query_proof_of_work_bits;
  num_queries = params.num_queries;
  index_bits = log_max_height - 1 + extra_query_index_bits;
  log_blowup = params.log_blowup;
  log_final_poly_len = params.log_final_poly_len;
}

-- these steps stand after those that were there
abbrev pub Appends : List Interaction → List Interaction → List Step → Type 0
Appends old new more = map step_of new ≡ map step_of old ++ more
