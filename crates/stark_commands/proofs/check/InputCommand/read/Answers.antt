use Rattle.std.proofs.Common.{inl, inr, refl}
use Rattle.circle_json.proofs.Items.{if_err_from}
use Rattle.serde_json.specs.View.{view}
use Rattle.stark_commands.specs.Check.{params_member}
use Rattle.stark_commands.proofs.Given.{member_refuses, params_refuse, parts_read}
use Rattle.stark_commands.proofs.check.InputCommand.read.Goals as goal

pub returns-in_err-member-clause-refuses : goal.returns-in_err-member-clause-refuses
returns-in_err-member-clause-refuses c =
    if_err_from _ _ c.in_err-member.field-0.0 c.from_residual-in_err-member.ensures.1
    (member_refuses (params_member (view c.args.value.now)) (view c.args.value.now)
    c.in_err-member.field-0.0 c.in_ok-has_input_keys.ensures.keys
    (inl c.in_err-member.ensures.refuses))

pub returns-in_err-member-2-clause-refuses : goal.returns-in_err-member-2-clause-refuses
returns-in_err-member-2-clause-refuses c =
    if_err_from _ _ c.in_err-member-2.field-0.0 c.from_residual-in_err-member-2.ensures.1
    (member_refuses (params_member (view c.args.value.now)) (view c.args.value.now)
    c.in_err-member-2.field-0.0 c.in_ok-has_input_keys.ensures.keys
    (inr (inl c.in_err-member-2.ensures.refuses)))

pub returns-in_err-member-3-clause-refuses : goal.returns-in_err-member-3-clause-refuses
returns-in_err-member-3-clause-refuses c =
    if_err_from _ _ c.in_err-member-3.field-0.0 c.from_residual-in_err-member-3.ensures.1
    (member_refuses (params_member (view c.args.value.now)) (view c.args.value.now)
    c.in_err-member-3.field-0.0 c.in_ok-has_input_keys.ensures.keys
    (inr (inr (inl c.in_err-member-3.ensures.refuses))))

pub returns-in_err-given_params-clause-refuses : goal.returns-in_err-given_params-clause-refuses
returns-in_err-given_params-clause-refuses c =
    if_err_from _ _ c.in_err-given_params.field-0.0
    c.from_residual-in_err-given_params.ensures.1
    (params_refuse (params_member (view c.args.value.now)) (view c.args.value.now)
    c.in_err-given_params.field-0.0 refl c.in_ok-has_input_keys.ensures.keys
    c.in_err-given_params.ensures.refuses)

pub returns-clause-reads : goal.returns-clause-reads
returns-clause-reads c =
    parts_read (params_member (view c.args.value.now)) (view c.args.value.now) _ refl
    c.in_ok-has_input_keys.ensures.keys (
      c.in_ok-member.ensures.reads,
      (c.in_ok-member-2.ensures.reads, (c.in_ok-member-3.ensures.reads, tt)),
    )
    c.in_ok-given_params.ensures.reads
