use Rattle.std.proofs.Common.{◌∙◌, ◌^◌, ℕ, ap, inl, inr, refl, subst, sym}
use Rattle.std.proofs.lemmas.Result.{IfErr-weaker}
use Rattle.std.specs.Prelude.{IfOk, List}
use Rattle.circle_commit.specs.declared.pcs.OpeningRequest.{OpeningRequest}
use Rattle.circle_prover.specs.Opening.{IsFailure}
use Rattle.circle_prover.specs.Requesting.{opening_tests}
use Rattle.p3_circle.specs.Scheme.{IsFirstFrom}
use Rattle.circle_commit.specs.RowMajorMatrix.{rows}
use Rattle.circle_air.specs.Air.{air_of}
use Rattle.circle_challenger.specs.Moves.{RunMoves, run_moves}
use Rattle.circle_field.specs.Field.{of_nat}
use Rattle.circle_relation.specs.Accepts.{Fields}
use Rattle.circle_stark.specs.Accepts.{StarkAccepts}
use Rattle.circle_stark.specs.OpensRows.{OpensRows}
use Rattle.circle_stark.specs.Provable.{IsProvable}
use Rattle.circle_stark.specs.Statement.{Statement, described_by, proved_of}
use Rattle.circle_stark.specs.Unproved.{IsTraceUnprovedFor}
use Rattle.circle_stark.proofs.Unopened.{after-tests, at-first, found-violation, named-violation}
use Rattle.circle_stark.proofs.Unopened.{no-violation, none-first, none-found, of-satisfied}
use Rattle.circle_stark.proofs.Unopened.{on-ok, unopened-violation}
use Rattle.circle_stark.proofs.Verdicts.{refuses-with}
use Rattle.circle_stark.proofs.prover.prove.Given
use Rattle.circle_stark.proofs.prover.prove.Goals as goal

-- what is known of the fields
abbrev fields : (g : Given.Over) → Fields g.row.Val.Denot g.row.EF.Denot
fields g = record {
  field = g.Val.Operations.ops;
  gen = g.Val.ComplexExtendable.generators;
  two_adicity = g.Val.ComplexExtendable.CIRCLE_TWO_ADICITY;
  is_zero = λ w. g.Val.PartialEq.eq w g.Val.Field.ZERO;
  extension = g.EF.Operations.ops;
  embed = g.EF.ExtensionField.embed;
  same = g.EF.PartialEq.eq;
}

-- what the challenger is to the transcript of the batches' commitments, and to the scheme's
abbrev own : (g : Given.Over) →
    RunMoves g.row.C.Denot g.row.C-State.Denot g.row.Val.Denot g.row.EF.Denot
    g.row.InputMmcs-Commitment.Denot
own g = run_moves g.C.ChallengerState.state g.C.CanObserve-1.after_observe
    g.C.CanObserve-2.after_observe g.C.CanSample.sampled g.C.CanSample.after_sample
    g.C.CanSampleBits.sampled_bits g.C.CanSampleBits.after_bits g.C.GrindingChallenger.found_witness
    g.EF.ExtensionField.DEGREE g.EF.ExtensionField.coefficients (of_nat g.Val.Operations.ops)
    g.Val.Operations.ops.zero

abbrev words : (g : Given.Over) →
    RunMoves g.row.C.Denot g.row.C-State.Denot g.row.Val.Denot g.row.EF.Denot
    g.row.FriMmcs-Commitment.Denot
words g = run_moves g.C.ChallengerState.state g.C.CanObserve-1.after_observe
    g.C.CanObserve-3.after_observe g.C.CanSample.sampled g.C.CanSample.after_sample
    g.C.CanSampleBits.sampled_bits g.C.CanSampleBits.after_bits g.C.GrindingChallenger.found_witness
    g.EF.ExtensionField.DEGREE g.EF.ExtensionField.coefficients (of_nat g.Val.Operations.ops)
    g.Val.Operations.ops.zero

pub invariant_of-provable : goal.invariant_of-provable
invariant_of-provable g c =
    let t = c.args.trace in
    let sizes = c.in_ok-sizes.sizes in
    let at : ℕ → Statement g.row.Val.Denot = λ i.
    record { parts = air_of t.air.now; log_n = i; public_values = t.public_values.now } in
    record {
      provable = subst
          (λ i. IsProvable g.Val.ComplexExtendable.CIRCLE_TWO_ADICITY c.args.pcs.now.fri_params
          (at i) sizes.log_chunks) (sym c.in_ok-sizes.ensures.log_n) c.in_ok-sizes.ensures.provable;
    }

pub returns-clause-accepted : goal.returns-clause-accepted
returns-clause-accepted g c =
    let t = c.args.trace in
    let at : ℕ → Statement g.row.Val.Denot = λ i.
    record { parts = air_of t.air.now; log_n = i; public_values = t.public_values.now } in
    subst
    (λ i. IfOk c.prove_satisfied.result (λ proof. StarkAccepts (fields g) c.args.pcs.now.fri_params
    (own g) (words g) (g.InputMmcs.Mmcs.authenticates c.args.pcs.now.mmcs)
    (g.FriMmcs.Mmcs.authenticates c.args.pcs.now.fri_params.mmcs)
    (described_by g.Val.ElementBytes.bytes g.Val.ElementBytes.BYTES (at i)) (at i)
    (proved_of proof) (g.C.ChallengerState.state c.args.challenger.now)
    (g.C.ChallengerState.state c.prove_satisfied.new.challenger)))
    c.in_ok-sizes.ensures.log_n c.prove_satisfied.ensures.accepted

pub returns-in_err-sizes-clause-unsatisfied : goal.returns-in_err-sizes-clause-unsatisfied
returns-in_err-sizes-clause-unsatisfied g c =
    let e = c.in_err-sizes.field-0.0 in
    refuses-with _ c.from_residual.result e c.from_residual.ensures.1
    (λ v is. absurd (no-violation e v.row v.constraint c.in_err-sizes.ensures.early is))

pub returns-in_err-sizes-clause-reason : goal.returns-in_err-sizes-clause-reason
returns-in_err-sizes-clause-reason g c =
    let e = c.in_err-sizes.field-0.0 in
    refuses-with _ c.from_residual.result e c.from_residual.ensures.1
    (λ kk log. at-first _ _ _ e (c.in_err-sizes.ensures.tested kk log) (refl, refl))

pub returns-in-Some-clause-first : goal.returns-in-Some-clause-first
returns-in-Some-clause-first g c = λ k log.
    none-first _ _ _ (c.in_ok-sizes.ensures.tested k log)

pub returns-in-Some-clause-unsatisfied : goal.returns-in-Some-clause-unsatisfied
returns-in-Some-clause-unsatisfied g c = λ v is.
    let t = c.args.trace in
    let found = found-violation g.Val.Operations.ops (air_of t.air.now) (rows t.rows)
    t.public_values.now _ c.in-Some.violation c.in-Some.is c.in_ok-violation.ensures in (
      named-violation g.Val.Operations.ops (air_of t.air.now) (rows t.rows) t.public_values.now
          c.in-Some.violation v found is,
      refl,
    )

pub returns-in-Some-clause-reason : goal.returns-in-Some-clause-reason
returns-in-Some-clause-reason g c = λ kk log.
    let t = c.args.trace in
    after-tests _ _ _ (c.in_ok-sizes.ensures.tested kk log) (inr (inl record {
      violation = c.in-Some.violation;
      named = refl;
      first =
          found-violation g.Val.Operations.ops (air_of t.air.now) (rows t.rows)
          t.public_values.now _ c.in-Some.violation c.in-Some.is c.in_ok-violation.ensures;
      same = refl;
    }))

pub returns-clause-height : goal.returns-clause-height
returns-clause-height g c =
    on-ok c.prove_satisfied.result
    (c.in_ok-sizes.ensures.height ∙ ap (λ i. 2 ^ i) c.in_ok-sizes.ensures.log_n)

pub returns-clause-unsatisfied : goal.returns-clause-unsatisfied
returns-clause-unsatisfied g c =
    IfErr-weaker c.prove_satisfied.result _ _
    (λ e h v is. absurd
    (unopened-violation _ (fields g) (own g) _ _ _ _ _ _ _ _ _ _ e v.row v.constraint
    (h c.in_ok-sizes.sizes.log_chunks c.in_ok-sizes.ensures.provable.domains.chunks) is))
    c.prove_satisfied.ensures.reason

pub returns-clause-reason : goal.returns-clause-reason
returns-clause-reason g c =
    let t = c.args.trace in
    let at : ℕ → Statement g.row.Val.Denot = λ i.
    record { parts = air_of t.air.now; log_n = i; public_values = t.public_values.now } in
    let params = c.args.pcs.now.fri_params in
    let kept = g.InputMmcs.Mmcs.matrices in
    let Refuses = λ (requests : List (OpeningRequest g.row.InputMmcs-ProverData.Denot
    g.row.EF.Denot)) (old : g.row.C-State.Denot).
    IsFirstFrom (opening_tests kept requests g.Val.ComplexExtendable.CIRCLE_TWO_ADICITY params
    (fields g) g.EF.PartialEq.eq) (IsFailure (fields g) (words g) params
    (g.FriMmcs.Mmcs.commits params.mmcs) kept requests old) old in
    IfErr-weaker c.prove_satisfied.result _ _
    (λ e h kk log.
    let satisfied = none-found g.Val.Operations.ops (air_of t.air.now) (rows t.rows)
    t.public_values.now _ c.in-None.is c.in_ok-violation.ensures in
    let Why = λ (i : ℕ). IsTraceUnprovedFor g.Val.Operations (fields g) (own g) params.log_blowup
    (g.InputMmcs.Mmcs.commits c.args.pcs.now.mmcs) kept Refuses
    (described_by g.Val.ElementBytes.bytes g.Val.ElementBytes.BYTES (at i)) (at i) kk t.rows
    g.C.ChallengerState.state c.args.challenger.now c.prove_satisfied.new.challenger in
    after-tests _ _ _ (c.in_ok-sizes.ensures.tested kk log)
    (subst (λ i. Why i e) c.in_ok-sizes.ensures.log_n
    (of-satisfied g.Val.Operations (fields g) (own g) _ _ kept Refuses _
    (at c.in_ok-sizes.sizes.log_n) kk t.rows
    g.C.ChallengerState.state c.args.challenger.now c.prove_satisfied.new.challenger e
    satisfied (h kk log))))
    c.prove_satisfied.ensures.reason

pub returns-clause-values : goal.returns-clause-values
returns-clause-values g c =
    let t = c.args.trace in
    let at : ℕ → Statement g.row.Val.Denot = λ i.
    record { parts = air_of t.air.now; log_n = i; public_values = t.public_values.now } in
    subst
    (λ i. IfOk c.prove_satisfied.result (λ proof. OpensRows g.Val.Operations (fields g) (own g)
    (described_by g.Val.ElementBytes.bytes g.Val.ElementBytes.BYTES (at i)) i t.rows
    (g.C.ChallengerState.state c.args.challenger.now) (proved_of proof)))
    c.in_ok-sizes.ensures.log_n c.prove_satisfied.ensures.values
