use Rattle.std.proofs.Common.{inr, subst}
use Rattle.circle_air.specs.Air.{air_of}
use Rattle.circle_air.specs.Degrees.{degree_of_parts}
use Rattle.circle_air.specs.Valid.{valid}
use Rattle.circle_stark.specs.OfProvable.{schemes_of, stated_by}
use Rattle.circle_stark.specs.Schemes.{described}
use Rattle.circle_stark.specs.Statement.{values_of}
use Rattle.circle_stark.specs.Unproved.{IsUnproved}
use Rattle.circle_stark.proofs.HonestRun.{proved}
use Rattle.circle_stark.proofs.Passing.{same-log}
use Rattle.circle_stark.proofs.Verdicts.{refuses-with}
use Rattle.circle_stark.proofs.prover.prove_satisfied.Goals as goal

pub open_run-requires-clause-trace : goal.open_run-requires-clause-trace
open_run-requires-clause-trace g c = (c.args.rows, c.in_ok-run.ensures.trace)

pub returns-in_err-opened_values-clause-reason : goal.returns-in_err-opened_values-clause-reason
returns-in_err-opened_values-clause-reason g c =
    let t = c.args.provable.now in
    let run = c.in_ok-run.run' in
    let e = c.in_err-opened_values.field-0.0 in
    refuses-with _ c.from_residual-in_err-opened_values.result e
    c.from_residual-in_err-opened_values.ensures.1
    (λ kk log.
    subst (λ i. IsUnproved (schemes_of t) t.pcs.now (stated_by t) i c.args.rows
    (g.C.ChallengerState.state c.args.challenger.now)
    (g.C.ChallengerState.state c.open_run.new.challenger) e)
    (same-log (degree_of_parts (stated_by t).parts) t.log_chunks kk t.provable.domains.chunks log)
    (inr record {
      trace = run.trace_commitment;
      trace_data = run.trace_data;
      quotient = run.quotient_commitment;
      quotient_data = run.quotient_data;
      alpha = run.drawn.alpha;
      zeta = run.drawn.zeta;
      between = _;
      trace_committed = c.in_ok-run.ensures.trace;
      quotient_committed = c.in_ok-run.ensures.quotient;
      drawn = c.in_ok-run.ensures.drawn;
      unopened = c.in_err-opened_values.ensures.unopened;
    }))

pub returns : goal.returns
returns g c =
    let t = c.args.provable.now in
    let o = schemes_of t in
    let run = c.in_ok-run.run' in
    let air = t.statement.air.now in
    let basis = c.basis_exists.ensures in
    let both = proved o.fields g.Val.Operations.laws g.EF.Operations.laws
    g.met.EF.ExtensionField.embedding g.met.Val.ComplexExtendable.generators_law
    g.met.Val.ComplexExtendable.at_most_62 o.own o.words g.met.C.CanSampleBits.bits_below
    g.met.EF.ExtensionField.are_coefficients (o.params t.pcs.now) o.kept (o.Commits t.pcs.now)
    (o.authenticates t.pcs.now) (g.FriMmcs.Mmcs.commits t.pcs.now.fri_params.mmcs)
    (o.word_authenticates t.pcs.now) (stated_by t) t.log_chunks t.provable
    (valid (air_of air) air.valid) c.args.rows c.requires.width c.requires.satisfied run.trace_data
    run.quotient_data run.trace_commitment run.quotient_commitment run.drawn.alpha run.drawn.zeta
    c.in_ok-run.ensures.trace c.in_ok-run.ensures.quotient c.in_ok-opened_values.ensures.fit
    (values_of c.in_ok-opened_values.opened_values) c.in_ok-opened_values.opening_proof _ _
    c.in_ok-opened_values.ensures.opened c.in_ok-opened_values.ensures.next basis.0 basis.1
    (described o (stated_by t)) _ c.in_ok-run.ensures.drawn in
    record { reason = tt {0}; accepted = both.0; values = both.1 }
