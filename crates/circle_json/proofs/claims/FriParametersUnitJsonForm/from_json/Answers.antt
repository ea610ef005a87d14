use Rattle.std.proofs.Common.{inl, inr, refl}
use Rattle.circle_json.proofs.Parameters.{length_refuses, number_refuses, numbers_read}
use Rattle.circle_json.specs.Claims.{length_member, parameters_form}
use Rattle.circle_json.proofs.Items.{if_err_from}
use Rattle.serde_json.specs.View.{view}
use Rattle.circle_json.proofs.claims.FriParametersUnitJsonForm.from_json.Goals as goal

pub returns-in_err-member-clause-refuses : goal.returns-in_err-member-clause-refuses
returns-in_err-member-clause-refuses c =
    if_err_from (parameters_form.refuses (view c.args.value.now)) _ c.in_err-member.field-0.0
    c.from_residual-in_err-member.ensures.1
    (number_refuses (length_member (view c.args.value.now)) (view c.args.value.now)
    c.in_err-member.field-0.0 c.in_ok-has_parameter_keys.ensures.keys
    (inr (inr (inl c.in_err-member.ensures.refuses))))

pub returns-in_err-member-2-clause-refuses : goal.returns-in_err-member-2-clause-refuses
returns-in_err-member-2-clause-refuses c =
    if_err_from (parameters_form.refuses (view c.args.value.now)) _ c.in_err-member-2.field-0.0
    c.from_residual-in_err-member-2.ensures.1
    (number_refuses (length_member (view c.args.value.now)) (view c.args.value.now)
    c.in_err-member-2.field-0.0 c.in_ok-has_parameter_keys.ensures.keys
    (inr (inr (inr (inl c.in_err-member-2.ensures.refuses)))))

pub returns-in_err-member-3-clause-refuses : goal.returns-in_err-member-3-clause-refuses
returns-in_err-member-3-clause-refuses c =
    if_err_from (parameters_form.refuses (view c.args.value.now)) _ c.in_err-member-3.field-0.0
    c.from_residual-in_err-member-3.ensures.1
    (number_refuses (length_member (view c.args.value.now)) (view c.args.value.now)
    c.in_err-member-3.field-0.0 c.in_ok-has_parameter_keys.ensures.keys
    (inr (inr (inr (inr (inl c.in_err-member-3.ensures.refuses))))))

pub returns-in_err-member-4-clause-refuses : goal.returns-in_err-member-4-clause-refuses
returns-in_err-member-4-clause-refuses c =
    if_err_from (parameters_form.refuses (view c.args.value.now)) _ c.in_err-member-4.field-0.0
    c.from_residual-in_err-member-4.ensures.1
    (number_refuses (length_member (view c.args.value.now)) (view c.args.value.now)
    c.in_err-member-4.field-0.0 c.in_ok-has_parameter_keys.ensures.keys
    (inl c.in_err-member-4.ensures.refuses))

pub returns-in_err-member-5-clause-refuses : goal.returns-in_err-member-5-clause-refuses
returns-in_err-member-5-clause-refuses c =
    if_err_from (parameters_form.refuses (view c.args.value.now)) _ c.in_err-member-5.field-0.0
    c.from_residual-in_err-member-5.ensures.1
    (number_refuses (length_member (view c.args.value.now)) (view c.args.value.now)
    c.in_err-member-5.field-0.0 c.in_ok-has_parameter_keys.ensures.keys
    (inr (inl c.in_err-member-5.ensures.refuses)))

pub returns-in_err-member-6-clause-refuses : goal.returns-in_err-member-6-clause-refuses
returns-in_err-member-6-clause-refuses c =
    if_err_from (parameters_form.refuses (view c.args.value.now)) _ c.in_err-member-6.field-0.0
    c.from_residual-in_err-member-6.ensures.1
    (number_refuses (length_member (view c.args.value.now)) (view c.args.value.now)
    c.in_err-member-6.field-0.0 c.in_ok-has_parameter_keys.ensures.keys
    (inr (inr (inr (inr (inr (inl c.in_err-member-6.ensures.refuses)))))))

pub returns-in_err-final_length-clause-refuses : goal.returns-in_err-final_length-clause-refuses
returns-in_err-final_length-clause-refuses c =
    if_err_from (parameters_form.refuses (view c.args.value.now)) _
    c.in_err-final_length.field-0.0 c.from_residual-in_err-final_length.ensures.1
    (length_refuses (length_member (view c.args.value.now)) (view c.args.value.now)
    c.in_err-final_length.field-0.0 refl c.in_ok-has_parameter_keys.ensures.keys
    c.in_err-final_length.ensures.refuses)

pub returns-clause-reads : goal.returns-clause-reads
returns-clause-reads c =
    numbers_read (length_member (view c.args.value.now)) (view c.args.value.now) _ refl
    c.in_ok-has_parameter_keys.ensures.keys (
      c.in_ok-member-4.ensures.reads,
      (
        c.in_ok-member-5.ensures.reads,
        (
          c.in_ok-member.ensures.reads,
          (
            c.in_ok-member-2.ensures.reads,
            (c.in_ok-member-3.ensures.reads, (c.in_ok-member-6.ensures.reads, tt)),
          ),
        ),
      ),
    )
    c.in_ok-final_length.ensures.reads
