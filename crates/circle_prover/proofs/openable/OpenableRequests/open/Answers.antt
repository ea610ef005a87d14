use Rattle.std.proofs.Common.{All, refl, sym, subst, arith, inl, inr}
use Rattle.std.proofs.lemmas.List.{length-map}
use Rattle.std.specs.List.{AllZip}
use Rattle.std.specs.Prelude.{Ok}
use Rattle.circle_challenger.specs.Moves.{RunMoves, run_moves}
use Rattle.circle_commit.specs.Pcs.{openings}
use Rattle.circle_commit.specs.declared.pcs.OpeningRequest.{OpeningRequest}
use Rattle.circle_field.specs.Field.{of_nat}
use Rattle.circle_relation.specs.RunOf.{proof_of}
use Rattle.circle_relation.specs.declared.error.ProverError.TheVariants.{Memory}
use Rattle.circle_relation.specs.Taken.{challenges_of, claims_taken, shape_by, taken_by}
use Rattle.circle_transcript.specs.Runs.{drawn_of}
use Rattle.circle_transcript.proofs.Playing.{handed_on}
use Rattle.circle_codewords.specs.Requests.{AreHeights, HasBatchRows}
use Rattle.circle_prover.specs.OfRequests.{AreAnsweredBy, AreHigh, AreMatricesAt, ArePointsOf}
use Rattle.circle_prover.specs.OfRequests.{IsFailureFrom, claims_with, seen_with}
use Rattle.circle_prover.specs.Words.{taken_in}
use Rattle.circle_prover.proofs.KnownRequests.{are-tall, heights-with, top-low}
use Rattle.circle_prover.proofs.Stuck.{draw-moved}
use Rattle.circle_prover.proofs.openable.OpenableRequests.open.Given.{Over}
use Rattle.circle_prover.proofs.openable.OpenableRequests.open.Goals as goal

-- what the challenger is to the run
abbrev challenger : (g : Over) →
    RunMoves g.row.C.Denot g.row.C-State.Denot g.row.Val.Denot g.row.EF.Denot
    g.row.FriMmcs-Commitment.Denot
challenger g = run_moves g.C.ChallengerState.state g.C.CanObserve-1.after_observe
    g.C.CanObserve-2.after_observe g.C.CanSample.sampled g.C.CanSample.after_sample
    g.C.CanSampleBits.sampled_bits g.C.CanSampleBits.after_bits g.C.GrindingChallenger.found_witness
    g.EF.ExtensionField.DEGREE g.EF.ExtensionField.coefficients (of_nat g.Val.Operations.ops)
    g.Val.Operations.ops.zero

pub matrices_at_points-requires-clause-points : goal.matrices_at_points-requires-clause-points
matrices_at_points-requires-clause-points g c =
    subst (ArePointsOf c.args.self.now) (sym c.deref.ensures.value) c.in_ok-points.ensures

pub matrices_at_points-requires-clause-count : goal.matrices_at_points-requires-clause-count
matrices_at_points-requires-clause-count g c =
    sym (length-map c.deref.result.now (λ p. p.coordinate))

pub requested_values-requires-clause-matrices : goal.requested_values-requires-clause-matrices
requested_values-requires-clause-matrices g c =
    subst (AreMatricesAt c.args.self.now) (sym c.deref-2.ensures.value) c.in_ok-matrices.ensures

pub requested_values-requires-clause-high : goal.requested_values-requires-clause-high
requested_values-requires-clause-high g c =
    subst (AreHigh c.args.self.now) (sym c.deref-2.ensures.value) c.in_ok-matrices.ensures.1

pub play-requires-clause-matrices : goal.play-requires-clause-matrices
play-requires-clause-matrices g c =
    subst (AreMatricesAt c.args.self.now) (sym c.deref-3.ensures.value) c.in_ok-matrices.ensures

pub play-requires-clause-values : goal.play-requires-clause-values
play-requires-clause-values g c =
    subst (λ vs. AreAnsweredBy c.args.self.now (openings vs)) (sym c.deref-4.ensures.value)
    c.in_ok-values.ensures

pub prove_words-requires-clause-top : goal.prove_words-requires-clause-top
prove_words-requires-clause-top g c =
    let values = openings c.in_ok-values.values.items in
    let known = rw c.deref-4.ensures.value at c.in_ok-words.ensures.words in
    let low = top-low c.args.self.now values c.in_ok-values.ensures in
    omega (arith, low, known.top, g.met.Val.ComplexExtendable.at_most_62)

pub prove_words-requires-clause-heights : goal.prove_words-requires-clause-heights
prove_words-requires-clause-heights g c =
    let o = c.args.self.now in
    let values = openings c.in_ok-values.values.items in
    let known = rw c.deref-4.ensures.value at c.in_ok-words.ensures.words in
    subst
    (λ t. All
    (λ (r : OpeningRequest g.row.InputMmcs-ProverData.Denot g.row.EF.Denot). AreHeights t
    (g.InputMmcs.Mmcs.matrices r.prover_data.now)) o.requests.now) (sym known.top)
    (heights-with o values c.in_ok-values.ensures)

pub prove_words-requires-clause-words : goal.prove_words-requires-clause-words
prove_words-requires-clause-words g c =
    let o = c.args.self.now in
    let values = openings c.in_ok-values.values.items in (
      seen_with o values,
      are-tall o values c.in_ok-values.ensures,
      rw c.deref-4.ensures.value at c.in_ok-words.ensures.words,
    )

pub returns-clause-proof : goal.returns-clause-proof
returns-clause-proof g c =
    let o = c.args.self.now in
    let r = challenger g in
    let values = openings c.in_ok-values.values.items in
    let known = rw c.deref-4.ensures.value at c.in_ok-words.ensures.words in
    let w = c.in_ok-words.words in
    let proof = proof_of c.in_ok-proof.proof in
    let claims = claims_with o values in
    let l = g.EF.Operations.ops in
    let end = g.C.ChallengerState.state c.play.new.challenger in
    record {
      drawn = challenges_of w.draws;
      drawing =
          draw-moved r (shape_by o.params.now claims) (shape_by o.params.now claims)
          (taken_in (claims_taken l claims) w) (taken_by l claims proof)
          (g.C.ChallengerState.state c.args.challenger.now)
          (Ok (drawn_of g.EF.ExtensionField.coefficients w.draws end)) refl
          (sym (c.in_ok-proof.ensures.taken claims))
          (rw c.deref-4.ensures.value at c.in_ok-words.ensures.outcome);
      words = c.in_ok-proof.ensures.words (seen_with o values) known c.in_ok-words.ensures.easy;
      inputs =
          subst
          (λ t. AllZip
          (HasBatchRows g.InputMmcs.Mmcs.matrices (g.InputMmcs.Mmcs.commits o.mmcs.now)
          (g.InputMmcs.Mmcs.authenticates o.mmcs.now) t w.draws.indices.items) o.requests.now
          proof.inputs) known.top c.in_ok-proof.ensures.inputs;
    }

pub returns-in_err-words-clause-failure : goal.returns-in_err-words-clause-failure
returns-in_err-words-clause-failure g c =
    let o = c.args.self.now in
    let values = openings c.in_ok-values.values.items in
    handed_on c.from_residual-in_err-words.result c.in_err-words.field-0.0
    (IsFailureFrom o (challenger g) c.args.challenger.now)
    c.from_residual-in_err-words.ensures.1
    (elim (rw c.deref-4.ensures.value at c.in_err-words.ensures.outcome) [
      | inl refused ↦ inl refused
      | inr rest ↦ inr (values, c.in_ok-values.ensures, rest)
    ])

pub returns-in_err-points-clause-failure : goal.returns-in_err-points-clause-failure
returns-in_err-points-clause-failure g c =
    handed_on c.from_residual.result Memory _ c.from_residual.ensures.1 (inl refl)

pub returns-in_err-matrices-clause-failure : goal.returns-in_err-matrices-clause-failure
returns-in_err-matrices-clause-failure g c =
    handed_on c.from_residual-in_err-matrices.result Memory _
    c.from_residual-in_err-matrices.ensures.1 (inl refl)
