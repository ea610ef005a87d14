-- The definitions at worked examples. Expected values were computed apart from these definitions.
use Rattle.std.specs.Prelude.{◌≡◌, ℕ, List, [], ◌∷◌, ◌++◌, length, take, drop, codes, refl}
use Rattle.std.specs.Prelude.{slice_index_or, Some, Ok, Err}
use Rattle.circle_challenger.specs.Moves.{RunMoves, run_moves}
use Rattle.circle_challenger.specs.Sampling.{samples, after_samples}
use Rattle.circle_commit.specs.declared.params.PowPhase.TheVariants.{CommitPhase}
use Rattle.circle_transcript.specs.Draw.{Taken, claim, taken, after_claims_by, play_rounds}
use Rattle.circle_transcript.specs.Draw.{draw_seeded}
use Rattle.circle_transcript.specs.Numbers.{numbers_of}
use Rattle.circle_challenger.specs.Step.{be64, step_text}
use Rattle.circle_challenger.specs.Separator.{steps_text, labels_text}
use Rattle.circle_challenger.specs.Played.{element_message, elements_message, opaque_message}
use Rattle.circle_challenger.specs.Played.{pow_step, element_challenge, numbers_challenge}
use Rattle.circle_transcript.specs.Shape.{Shape, claim_steps, batch_steps, first_layer_steps}
use Rattle.circle_transcript.specs.Shape.{round_steps, rounds_steps, query_steps, steps_of, layout}
use Rattle.circle_transcript.specs.Shape.{batch_layout, text_of}

-- one claim of one column, one round, no proofs of work, and two indices of three bits
example : Shape
example = record {
  opened_widths = ((1 ∷ []) ∷ []) ∷ [];
  num_commit_rounds = 1;
  batch_pow_bits = 0;
  commit_pow_bits = 0;
  query_pow_bits = 0;
  num_queries = 2;
  index_bits = 3;
  log_blowup = 1;
  log_final_poly_len = 0;
}

-- in the extension of degree 3 it has these nine steps
example_steps : steps_of 3 example
    ≡ elements_message 3 (codes "opening_point") 2
    ∷ elements_message 3 (codes "opened_values") 1
    ∷ element_challenge 3 (codes "batch_challenge")
    ∷ opaque_message (codes "first_layer_commitment")
    ∷ element_challenge 3 (codes "bivariate_challenge")
    ∷ opaque_message (codes "commit_phase_commitment")
    ∷ element_challenge 3 (codes "fold_challenge")
    ∷ element_message 3 (codes "final_poly")
    ∷ numbers_challenge (codes "query_indices") 3 2
    ∷ []
unfolding example claim_steps batch_steps first_layer_steps round_steps rounds_steps query_steps
example_steps = refl

-- its seed's text is of 480 bytes, which begin with the version, the name and the number of steps
text_length : length (text_of 3 example) ≡ 480
unfolding example claim_steps batch_steps first_layer_steps round_steps rounds_steps query_steps
    layout batch_layout steps_text labels_text step_text be64
text_length = refl

text_header : take 30 (text_of 3 example)
    ≡ 1 ∷ 0 ∷ 0 ∷ 0 ∷ 0 ∷ 0 ∷ 0 ∷ 0 ∷ 13 ∷ 112 ∷ 51 ∷ 45 ∷ 99 ∷ 105 ∷ 114 ∷ 99 ∷ 108 ∷ 101 ∷ 45
    ∷ 112 ∷ 99 ∷ 115
    ∷ 0 ∷ 0 ∷ 0 ∷ 0 ∷ 0 ∷ 0 ∷ 0 ∷ 9 ∷ []
unfolding example claim_steps batch_steps first_layer_steps round_steps rounds_steps query_steps
    layout batch_layout steps_text labels_text step_text be64
text_header = refl

-- one claim of one column at a tallest logarithm of 4, with a final polynomial of two coefficients:
-- one round too, no proofs of work, and two indices of four bits
two_coefficients : Shape
two_coefficients = record example { index_bits = 4; log_final_poly_len = 1 }

-- it has nine steps too, the last but one for both coefficients
two_coefficients_steps : steps_of 3 two_coefficients
    ≡ elements_message 3 (codes "opening_point") 2
    ∷ elements_message 3 (codes "opened_values") 1
    ∷ element_challenge 3 (codes "batch_challenge")
    ∷ opaque_message (codes "first_layer_commitment")
    ∷ element_challenge 3 (codes "bivariate_challenge")
    ∷ opaque_message (codes "commit_phase_commitment")
    ∷ element_challenge 3 (codes "fold_challenge")
    ∷ elements_message 3 (codes "final_poly") 2
    ∷ numbers_challenge (codes "query_indices") 4 2
    ∷ []
unfolding two_coefficients example claim_steps batch_steps first_layer_steps round_steps
    rounds_steps query_steps
two_coefficients_steps = refl

-- its seed's text is of 496 bytes, which begin with another version
two_coefficients_length : length (text_of 3 two_coefficients) ≡ 496
unfolding two_coefficients example claim_steps batch_steps first_layer_steps round_steps
    rounds_steps query_steps layout batch_layout steps_text labels_text step_text be64
two_coefficients_length = refl

two_coefficients_header : take 30 (text_of 3 two_coefficients)
    ≡ 2 ∷ 0 ∷ 0 ∷ 0 ∷ 0 ∷ 0 ∷ 0 ∷ 0 ∷ 13 ∷ 112 ∷ 51 ∷ 45 ∷ 99 ∷ 105 ∷ 114 ∷ 99 ∷ 108 ∷ 101 ∷ 45
    ∷ 112 ∷ 99 ∷ 115
    ∷ 0 ∷ 0 ∷ 0 ∷ 0 ∷ 0 ∷ 0 ∷ 0 ∷ 9 ∷ []
unfolding two_coefficients example claim_steps batch_steps first_layer_steps round_steps
    rounds_steps query_steps layout batch_layout steps_text labels_text step_text be64
two_coefficients_header = refl

-- and end with the third label: its length, and the logarithm of the number of coefficients
two_coefficients_end : drop 480 (text_of 3 two_coefficients) ≡ be64 8 ++ be64 1
unfolding two_coefficients example claim_steps batch_steps first_layer_steps round_steps
    rounds_steps query_steps layout batch_layout steps_text labels_text step_text be64
two_coefficients_end = refl

-- proofs of work are steps where they have a difficulty
guarded_round : round_steps 3 8
    ≡ opaque_message (codes "commit_phase_commitment") ∷ pow_step (codes "commit_pow") 8
    ∷ element_challenge 3 (codes "fold_challenge") ∷ []
unfolding round_steps
guarded_round = refl

-- two matrices at one point each, and one matrix at two points
two_matrices : layout (((4 ∷ []) ∷ (4 ∷ []) ∷ []) ∷ []) ≡ be64 1 ++ (be64 2 ++ (be64 1 ++ be64 1))
unfolding layout batch_layout be64
two_matrices = refl

two_points : layout (((4 ∷ 4 ∷ []) ∷ []) ∷ []) ≡ 0 ∷ 0 ∷ 0 ∷ 0 ∷ 0 ∷ 0 ∷ 0 ∷ 1 ∷ 0 ∷ 0 ∷ 0 ∷ 0 ∷ 0
    ∷ 0 ∷ 0 ∷ 1 ∷ 0 ∷ 0 ∷ 0 ∷ 0 ∷ 0 ∷ 0 ∷ 0 ∷ 2 ∷ []
unfolding layout batch_layout be64
two_points = refl

-- a challenger whose state is what it absorbed and drew, the last first: it draws how many values
-- that are, and as bits the last of them
counting : RunMoves (List ℕ) (List ℕ) ℕ ℕ ℕ
counting = run_moves (λ s. s) (λ s x. x ∷ s) (λ s x. x ∷ s) length (λ s. 0 ∷ s)
    (λ s bits. slice_index_or s 0 0) (λ s bits. bits ∷ s) (λ s bits. Some 0) 1 (λ x. x ∷ [])
    (λ n. n)
    0

-- the example's run with it: the point (5, 6) with the value 7, the commitments 9 and 8, and the
-- coefficient 4
counted : Taken ℕ ℕ ℕ
counted =
    taken (claim (record { x = 5; y = 6 }) (7 ∷ []) ∷ []) 1 9 ((8, 1) ∷ []) (4 ∷ []) 1

example_draw : draw_seeded counting (numbers_of example) counted []
    ≡ Ok (record {
      alpha = 3 ∷ [];
      bivariate = 5 ∷ [];
      betas = (7 ∷ []) ∷ [];
      indices = 4 ∷ 3 ∷ [];
      state = 3 ∷ 3 ∷ 4 ∷ 0 ∷ 8 ∷ 0 ∷ 9 ∷ 0 ∷ 7 ∷ 6 ∷ 5 ∷ [];
    })
unfolding example counting counted draw_seeded play_rounds after_claims_by samples after_samples
example_draw = refl

-- where the rounds have a difficulty, the witness 1 doesn't pass
missed_draw : draw_seeded counting (numbers_of (record example { commit_pow_bits = 8 })) counted []
    ≡ Err CommitPhase
unfolding example counting counted draw_seeded play_rounds after_claims_by samples after_samples
missed_draw = refl
