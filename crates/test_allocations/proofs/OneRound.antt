-- The steps of a run of one round over one claim of one column.
use Rattle.std.specs.Prelude.{◌≡◌, List, ◌++◌, ◌∷◌, []}
use Rattle.std.proofs.Common.{ap, ◌∙◌, append-nil, subst, sym}
use Rattle.circle_challenger.specs.Step.{Step}
use Rattle.circle_transcript.specs.Shape.{Shape, steps_of, claimed_widths, batch_steps}
use Rattle.circle_transcript.specs.Shape.{first_layer_steps, round_steps, rounds_steps}
use Rattle.circle_transcript.specs.Numbers.{indices_steps, numbers_of}
use Rattle.circle_transcript.specs.declared.transcript.Numbers.{Numbers}
use Rattle.test_allocations.specs.Run.{IsRun}

-- those of such a shape are the steps that the transcripts play
pub one_round : (s : Shape) (n : Numbers) (due : List Step) → claimed_widths s ≡ 1 ∷ [] →
    s.num_commit_rounds ≡ 1 → n ≡ numbers_of s → due ≡ steps_of 3 s → IsRun n due
unfolding rounds_steps
one_round s n due one rounds numbers steps =
    let first = first_layer_steps 3 in
    let others = indices_steps 3 (numbers_of s) in
    let round = round_steps 3 s.commit_pow_bits in
    subst (λ m. IsRun m due) (sym numbers)
    (steps
    ∙ ap (λ widths. batch_steps 3 widths s.batch_pow_bits
    ++ (first ++ (rounds_steps 3 s.commit_pow_bits s.num_commit_rounds ++ others))) one
    ∙ ap (λ k. batch_steps 3 (1 ∷ []) s.batch_pow_bits
    ++ (first ++ (rounds_steps 3 s.commit_pow_bits k ++ others))) rounds
    ∙ ap (λ begun. batch_steps 3 (1 ∷ []) s.batch_pow_bits ++ (first ++ (begun ++ others)))
    (append-nil round))
