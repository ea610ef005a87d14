use Rattle.std.specs.Prelude.{Err}
use Rattle.std.proofs.Common.{◌≡◌, ◌∙◌, ℕ, ap, refl, subst, sym}
use Rattle.circle_air.specs.Air.{air_of}
use Rattle.circle_challenger.specs.Moves.{RunMoves, run_moves}
use Rattle.circle_field.specs.Field.{of_nat}
use Rattle.circle_relation.specs.Accepts.{Fields}
use Rattle.circle_stark.specs.Accepts.{StarkAccepts}
use Rattle.circle_stark.specs.Statement.{Statement, described_by, proved_of}
use Rattle.circle_stark.specs.Trace.{stated}
use Rattle.circle_stark.specs.RoundTrip.{IsOfProver, unproved, unverified}
use Rattle.circle_stark.specs.declared.round_trip.StarkRoundTripError.TheVariants.{Memory}
use Rattle.circle_stark.proofs.RoundTrips.{IsNotVerify, kept, memory-not-verify, of-unproved}
use Rattle.circle_stark.proofs.RoundTrips.{prove-not-verify}
use Rattle.circle_stark.proofs.TracePassing.{of-refused, one-refusal}
use Rattle.circle_stark.proofs.Verdicts.{accepted-state, ok-err, refused-ok, refuses-with}
use Rattle.circle_stark.proofs.round_trip.prove_and_verify.Given
use Rattle.circle_stark.proofs.round_trip.prove_and_verify.Goals as goal

-- what is known of the fields
abbrev fields : (g : Given.Over) → Fields g.row.Val.Denot g.row.EF.Denot
fields g = record {
  field = g.Val.Operations.ops;
  gen = g.Val.ComplexExtendable.generators;
  two_adicity = g.Val.ComplexExtendable.CIRCLE_TWO_ADICITY;
  is_zero = λ w. g.Val.PartialEq.eq w g.Val.Field.ZERO;
  extension = g.EF.Operations.ops;
  embed = g.EF.ExtensionField.embed;
  same = g.EF.PartialEq.eq;
}

-- what the challenger is to the transcript of the batches' commitments, and to the scheme's
abbrev own : (g : Given.Over) →
    RunMoves g.row.C.Denot g.row.C-State.Denot g.row.Val.Denot g.row.EF.Denot
    g.row.InputMmcs-Commitment.Denot
own g = run_moves g.C.ChallengerState.state g.C.CanObserve-1.after_observe
    g.C.CanObserve-2.after_observe g.C.CanSample.sampled g.C.CanSample.after_sample
    g.C.CanSampleBits.sampled_bits g.C.CanSampleBits.after_bits g.C.GrindingChallenger.found_witness
    g.EF.ExtensionField.DEGREE g.EF.ExtensionField.coefficients (of_nat g.Val.Operations.ops)
    g.Val.Operations.ops.zero

abbrev words : (g : Given.Over) →
    RunMoves g.row.C.Denot g.row.C-State.Denot g.row.Val.Denot g.row.EF.Denot
    g.row.FriMmcs-Commitment.Denot
words g = run_moves g.C.ChallengerState.state g.C.CanObserve-1.after_observe
    g.C.CanObserve-3.after_observe g.C.CanSample.sampled g.C.CanSample.after_sample
    g.C.CanSampleBits.sampled_bits g.C.CanSampleBits.after_bits g.C.GrindingChallenger.found_witness
    g.EF.ExtensionField.DEGREE g.EF.ExtensionField.coefficients (of_nat g.Val.Operations.ops)
    g.Val.Operations.ops.zero

pub log2_strict-requires : goal.log2_strict-requires
log2_strict-requires g c = (_, c.height-height.ensures ∙ c.in-Ok.ensures.height)

pub returns-in-Err-clause-first : goal.returns-in-Err-clause-first
returns-in-Err-clause-first g c =
    of-refused g.Val.ComplexExtendable.CIRCLE_TWO_ADICITY c.args.pcs.now.fri_params c.args.trace _ _
    (λ e none first.
    let same = one-refusal c.prove.result c.in-Err.error e c.in-Err.is first.0 in
    (ap Err (c.from.ensures ∙ ap unproved same ∙ kept e none), first.1, refl))
    c.prove.ensures.first

pub returns-in-Err-clause-complete : goal.returns-in-Err-clause-complete
returns-in-Err-clause-complete g c =
    subst IsNotVerify (sym c.from.ensures)
    (of-unproved IsNotVerify c.in-Err.error memory-not-verify (prove-not-verify c.in-Err.error))

pub returns-in-Err-clause-reason : goal.returns-in-Err-clause-reason
returns-in-Err-clause-reason g c =
    subst (IsOfProver _) (sym c.from.ensures)
    (of-unproved (IsOfProver _) c.in-Err.error tt c.in-Err.ensures.reason)

pub returns-clause-first : goal.returns-clause-first
returns-clause-first g c =
    of-refused g.Val.ComplexExtendable.CIRCLE_TWO_ADICITY c.args.pcs.now.fri_params c.args.trace _ _
    (λ e none first. absurd (ok-err c.prove.result c.in-Ok.proof e c.in-Ok.is first.0))
    c.prove.ensures.first

pub returns-clause-states : goal.returns-clause-states
returns-clause-states g c =
    let t = c.args.trace in
    let s = g.C.ChallengerState.state in
    let log = c.log2_strict.ensures.only (stated t).log_n
    (c.height-height.ensures ∙ c.in-Ok.ensures.height) in
    let at : ℕ → Statement g.row.Val.Denot = λ i.
    record { parts = air_of t.air.now; log_n = i; public_values = t.public_values.now } in
    let Accepted = λ (i : ℕ) (old new : g.row.C-State.Denot). StarkAccepts (fields g)
    c.args.pcs.now.fri_params (own g) (words g) (g.InputMmcs.Mmcs.authenticates c.args.pcs.now.mmcs)
    (g.FriMmcs.Mmcs.authenticates c.args.pcs.now.fri_params.mmcs)
    (described_by g.Val.ElementBytes.bytes g.Val.ElementBytes.BYTES (at i)) (at i)
    (proved_of c.in-Ok.proof) old new in
    let proved : Accepted c.log2_strict.result (s c.args.prover.now) (s c.prove.new.challenger) =
    subst (λ i. Accepted i (s c.args.prover.now) (s c.prove.new.challenger)) (sym log)
    c.in-Ok.ensures.accepted in
    let checked : Accepted c.log2_strict.result (s c.args.prover.now) (s c.verify.new.challenger) =
    subst (λ old. Accepted c.log2_strict.result old (s c.verify.new.challenger))
    (sym c.requires.same) c.in_ok-verify.ensures.accepted in
    accepted-state (fields g) c.args.pcs.now.fri_params (own g) (words g)
    (g.InputMmcs.Mmcs.authenticates c.args.pcs.now.mmcs)
    (g.FriMmcs.Mmcs.authenticates c.args.pcs.now.fri_params.mmcs)
    g.met.EF.ExtensionField.are_coefficients.determined
    (described_by g.Val.ElementBytes.bytes g.Val.ElementBytes.BYTES (at c.log2_strict.result))
    (at c.log2_strict.result) (proved_of c.in-Ok.proof) (s c.args.prover.now) checked.alpha
    checked.zeta checked.between checked.drawn (s c.verify.new.challenger) checked
    (s c.prove.new.challenger) proved

pub returns-in_err-verify : goal.returns-in_err-verify
returns-in_err-verify g c =
    let t = c.args.trace in
    let s = g.C.ChallengerState.state in
    let log = c.log2_strict.ensures.only (stated t).log_n
    (c.height-height.ensures ∙ c.in-Ok.ensures.height) in
    let at : ℕ → Statement g.row.Val.Denot = λ i.
    record { parts = air_of t.air.now; log_n = i; public_values = t.public_values.now } in
    let Accepted = λ (i : ℕ) (old new : g.row.C-State.Denot). StarkAccepts (fields g)
    c.args.pcs.now.fri_params (own g) (words g)
    (g.InputMmcs.Mmcs.authenticates c.args.pcs.now.mmcs)
    (g.FriMmcs.Mmcs.authenticates c.args.pcs.now.fri_params.mmcs)
    (described_by g.Val.ElementBytes.bytes g.Val.ElementBytes.BYTES (at i)) (at i)
    (proved_of c.in-Ok.proof) old new in
    let memory = c.in_err-verify.ensures.complete (
      s c.prove.new.challenger,
      subst (λ old. Accepted c.log2_strict.result old (s c.prove.new.challenger)) c.requires.same
          (subst (λ i. Accepted i (s c.args.prover.now) (s c.prove.new.challenger)) (sym log)
          c.in-Ok.ensures.accepted),
    ) in
    let is = c.from_residual.ensures.1 in
    let r = c.from_residual.result in
    let e = c.in_err-verify.field-0.0 in
    let as_memory : unverified e ≡ Memory = ap unverified memory in record {
      first =
          of-refused g.Val.ComplexExtendable.CIRCLE_TWO_ADICITY c.args.pcs.now.fri_params
          c.args.trace _ _
          (λ d none first.
          absurd (ok-err c.prove.result c.in-Ok.proof d c.in-Ok.is first.0))
          c.prove.ensures.first;
      satisfied = refused-ok _ r (unverified e) is;
      accepted = refused-ok _ r (unverified e) is;
      values = refused-ok _ r (unverified e) is;
      states = refused-ok _ r (unverified e) is;
      complete =
          refuses-with _ r (unverified e) is
          (subst IsNotVerify (sym as_memory) memory-not-verify);
      reason = refuses-with _ r (unverified e) is (subst (IsOfProver _) (sym as_memory) tt);
    }
