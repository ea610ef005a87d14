use Rattle.std.proofs.Common.{◌∙◌, ap, refl}
use Rattle.circle_air.specs.Air.{air_of}
use Rattle.circle_air.specs.Parts.{parts_of}
use Rattle.circle_air.specs.Refusal.{refusal}
use Rattle.circle_challenger.specs.Sha256Challenger.{state_of}
use Rattle.circle_field.specs.declared.mersenne31.Mersenne31.{Mersenne31}
use Rattle.circle_stark.specs.Statement.{Statement}
use Rattle.stark_commands.proofs.Refused.{air_refused, none_refused, refused_by}
use Rattle.stark_commands.proofs.Verified.{accepted, never_of_verified, proof_refused, stated}
use Rattle.stark_commands.proofs.Verified.{verified}
use Rattle.stark_commands.specs.Reasons.{IsUnverifiedBy}
use Rattle.stark_commands.specs.Verified.{described}
use Rattle.stark_commands.specs.declared.verify.Refusal.TheVariants.{Air, Memory}
use Rattle.stark_commands.proofs.verify.verify_from.Goals as goal

pub returns-in_err-air-clause-complete : goal.returns-in_err-air-clause-complete
returns-in_err-air-clause-complete c =
    refused_by _ _ c.from_residual.result c.from_residual.ensures.1
    (λ reason is v. none_refused Air Memory (refusal (parts_of c.args.input.air))
    c.in_err-air.field-0.0 reason c.in_err-air.ensures.refuses is v.1.air)

pub returns-in_err-air-clause-reason : goal.returns-in_err-air-clause-reason
returns-in_err-air-clause-reason c =
    refused_by _ _ c.from_residual.result c.from_residual.ensures.1
    (λ reason is. air_refused Air Memory (refusal (parts_of c.args.input.air))
    c.in_err-air.field-0.0 reason c.in_err-air.ensures.refuses is
    (IsUnverifiedBy _ _ c.args.input) (λ some. some))

pub returns-in_err-verify-clause-complete : goal.returns-in_err-verify-clause-complete
returns-in_err-verify-clause-complete c =
    refused_by _ _ c.from_residual-in_err-verify.result c.from_residual-in_err-verify.ensures.1
    (λ reason is. never_of_verified _ c.in_err-verify.field-0.0 reason is
    (λ v. c.in_err-verify.ensures.complete (
      v.0,
      accepted c.args.input _ c.scheme.result.mmcs c.scheme.result.fri_params.mmcs
          c.scheme.result.fri_params (state_of c.args.challenger.now) v.0
          (stated c.args.input (air_of c.in_ok-air.air) c.deref.result.now c.in_ok-air.ensures.same
          c.deref.ensures.value) c.scheme.ensures v.1,
    )))

pub returns-in_err-verify-clause-reason : goal.returns-in_err-verify-clause-reason
returns-in_err-verify-clause-reason c =
    refused_by _ _ c.from_residual-in_err-verify.result c.from_residual-in_err-verify.ensures.1
    (λ reason is. proof_refused c.args.input _ _ c.in_err-verify.field-0.0 reason is
    c.in_ok-air.ensures.accepts
    (λ v. c.in_err-verify.ensures.complete (
      v.0,
      accepted c.args.input _ c.scheme.result.mmcs c.scheme.result.fri_params.mmcs
          c.scheme.result.fri_params (state_of c.args.challenger.now) v.0
          (stated c.args.input (air_of c.in_ok-air.air) c.deref.result.now c.in_ok-air.ensures.same
          c.deref.ensures.value) c.scheme.ensures v.1,
    ))
    record {
      scheme = c.scheme.result;
      statement =
          record {
            air = record { ref_ptr = (0, 0); now = c.in_ok-air.air };
            log_n = c.args.input.log_n;
            public_values = c.deref.result;
          };
      start = c.args.challenger.now;
      left = c.verify.new.challenger;
      params = c.scheme.ensures;
      stated =
          stated c.args.input (air_of c.in_ok-air.air) c.deref.result.now c.in_ok-air.ensures.same
          c.deref.ensures.value;
      begun = refl;
      ended = refl;
      refuses = c.in_err-verify.ensures.reason;
    })

pub returns-in_err-verify-clause-kept : goal.returns-in_err-verify-clause-kept
returns-in_err-verify-clause-kept c =
    refused_by _ _ c.from_residual-in_err-verify.result c.from_residual-in_err-verify.ensures.1
    (λ reason is none. absurd (none c.in_ok-air.ensures.accepts))

pub returns-clause-accepted : goal.returns-clause-accepted
returns-clause-accepted c =
    verified c.args.input _ c.scheme.result.mmcs c.scheme.result.fri_params.mmcs
    c.scheme.result.fri_params (state_of c.args.challenger.now)
    (state_of c.verify.new.challenger)
    (stated c.args.input (air_of c.in_ok-air.air) c.deref.result.now c.in_ok-air.ensures.same
    c.deref.ensures.value) c.scheme.ensures c.in_ok-air.ensures.accepts
    c.in_ok-verify.ensures.accepted

pub returns-clause-digest : goal.returns-clause-digest
returns-clause-digest c =
    c.digest.ensures
    ∙ ap (λ (t : Statement Mersenne31). (described t).digest)
    (stated c.args.input (air_of c.in_ok-air.air) c.deref.result.now c.in_ok-air.ensures.same
    c.deref.ensures.value)
