use Rattle.std.proofs.Common.{◌<◌, ◌^◌, All, refl, rules, sym, ap, ◌∙◌, subst, inl, inr}
use Rattle.circle_field.specs.Field.{of_nat}
use Rattle.circle_challenger.specs.Moves.{RunMoves, run_moves}
use Rattle.circle_transcript.specs.Claims.{claims_of}
use Rattle.circle_transcript.specs.Draw.{widths_of}
use Rattle.circle_transcript.specs.Numbers.{numbers_of, run_steps}
use Rattle.circle_transcript.specs.ShapeOf.{shape_of}
use Rattle.circle_transcript.specs.Runs.{ArePlayable}
use Rattle.circle_transcript.proofs.Playing.{or_moved}
use Rattle.circle_prover.specs.Failure.{IsStuck}
use Rattle.circle_prover.specs.OfFoldable.{fields_of, round_count, seen}
use Rattle.circle_prover.specs.Words.{taken_in}
use Rattle.circle_relation.specs.declared.error.ProverError.TheVariants.{Memory}
use Rattle.circle_prover.proofs.Answered.{matched-err}
use Rattle.circle_prover.proofs.Stuck.{drawn-moved}
use Rattle.circle_prover.proofs.foldable.FoldableMatrices.open.Given.{Over}
use Rattle.circle_prover.proofs.foldable.FoldableMatrices.open.Goals as goal

-- what the challenger is to the run
abbrev challenger : (g : Over) →
    RunMoves g.row.C.Denot g.row.C-State.Denot g.row.F.Denot g.row.EF.Denot g.row.M-Commitment.Denot
challenger g = run_moves g.C.ChallengerState.state g.C.CanObserve-1.after_observe
    g.C.CanObserve-2.after_observe g.C.CanSample.sampled g.C.CanSample.after_sample
    g.C.CanSampleBits.sampled_bits g.C.CanSampleBits.after_bits g.C.GrindingChallenger.found_witness
    g.EF.ExtensionField.DEGREE g.EF.ExtensionField.coefficients (of_nat g.F.Operations.ops)
    g.F.Operations.ops.zero

pub returns-in-Ok-clause-outcome : goal.returns-in-Ok-clause-outcome
returns-in-Ok-clause-outcome g c =
    drawn-moved (challenger g) _ _ (taken_in (claims_of c.args.claims.now) c.in-Ok.words) _ _
    g.EF.ExtensionField.coefficients c.in-Ok.words.draws g.C.ChallengerState.state _ _
    (c.of_seeded-transcript.ensures.shape ∙ c.in_ok-seeded.ensures.shape)
    (ap g.C.ChallengerState.state c.of_seeded-transcript.ensures.same
    ∙ c.in_ok-seeded.ensures.state) (search rules) c.in-Ok.ensures.draws

pub returns-in-Err-clause-outcome : goal.returns-in-Err-clause-outcome
returns-in-Err-clause-outcome g c =
    elim c.in-Err.ensures.failure [
      | inl refused ↦ inl refused
      | inr rest ↦ inr
          (or_moved
          (λ n s. IsStuck (challenger g) (g.M.Mmcs.commits c.args.self.now.params.now.mmcs)
          (fields_of c.args.self.now) c.args.self.now.params.now (seen c.args.self.now) n
          (claims_of c.args.claims.now) s c.in-Err.failure) _ _ _ _
          (c.of_seeded-transcript.ensures.shape ∙ c.in_ok-seeded.ensures.shape)
          (ap g.C.ChallengerState.state c.of_seeded-transcript.ensures.same
          ∙ c.in_ok-seeded.ensures.state) rest)
    ]

pub returns-in_err-seeded-clause-outcome : goal.returns-in_err-seeded-clause-outcome
returns-in_err-seeded-clause-outcome g c =
    matched-err c.from_residual.result Memory _ _ c.from_residual.ensures.1 (inl refl)

pub play-requires-clause-next : goal.play-requires-clause-next
play-requires-clause-next g c =
    let degree = g.EF.ExtensionField.DEGREE in
    let widths = widths_of (claims_of c.args.claims.now) in
    let n = numbers_of (shape_of c.args.shape) in
    c.of_seeded-transcript.ensures.due ∙ c.in_ok-seeded.ensures.due
    ∙ ap (λ v. run_steps degree v c.args.shape.num_commit_rounds n) (sym c.requires.claims)
    ∙ ap (λ k. run_steps degree widths k n) c.requires.rounds
    ∙ ap (run_steps degree widths (round_count c.args.self.now))
    (sym (c.of_seeded-transcript.ensures.shape ∙ c.in_ok-seeded.ensures.shape))

pub play-requires-clause-small : goal.play-requires-clause-small
play-requires-clause-small g c =
    subst ArePlayable (sym (c.of_seeded-transcript.ensures.shape ∙ c.in_ok-seeded.ensures.shape))
    c.requires.small

pub play-requires-clause-coefficients : goal.play-requires-clause-coefficients
play-requires-clause-coefficients g c =
    ap (λ n. n.log_final_poly_len) (c.of_seeded-transcript.ensures.shape
    ∙ c.in_ok-seeded.ensures.shape) ∙ c.requires.coefficients

pub returns-in-Ok-clause-below : goal.returns-in-Ok-clause-below
returns-in-Ok-clause-below g c =
    subst (λ n. All (λ i. i < 2 ^ n.index_bits) c.in-Ok.words.draws.indices.items)
    (c.of_seeded-transcript.ensures.shape ∙ c.in_ok-seeded.ensures.shape) c.in-Ok.ensures.below

pub returns-in-Ok-clause-easy_batch : goal.returns-in-Ok-clause-easy_batch
returns-in-Ok-clause-easy_batch g c = λ none.
    c.in-Ok.ensures.easy_batch
    (ap (λ n. n.batch_pow_bits) (c.of_seeded-transcript.ensures.shape
    ∙ c.in_ok-seeded.ensures.shape) ∙ none)

pub returns-in-Ok-clause-easy_rounds : goal.returns-in-Ok-clause-easy_rounds
returns-in-Ok-clause-easy_rounds g c = λ none.
    c.in-Ok.ensures.easy_rounds
    (ap (λ n. n.commit_pow_bits) (c.of_seeded-transcript.ensures.shape
    ∙ c.in_ok-seeded.ensures.shape) ∙ none)

pub returns-in-Ok-clause-easy_query : goal.returns-in-Ok-clause-easy_query
returns-in-Ok-clause-easy_query g c = λ none.
    c.in-Ok.ensures.easy_query
    (ap (λ n. n.query_pow_bits) (c.of_seeded-transcript.ensures.shape
    ∙ c.in_ok-seeded.ensures.shape) ∙ none)

pub returns-in-Ok-clause-words : goal.returns-in-Ok-clause-words
returns-in-Ok-clause-words g c = c.in-Ok.ensures.words
