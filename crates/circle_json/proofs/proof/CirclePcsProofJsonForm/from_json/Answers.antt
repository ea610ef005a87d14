use Rattle.std.proofs.Common.{inl, inr}
use Rattle.circle_json.proofs.Items.{if_err_from}
use Rattle.circle_json.proofs.proof.CirclePcsProofJsonForm.from_json.Goals as goal

pub returns-in_err-member-3-clause-refuses : goal.returns-in_err-member-3-clause-refuses
returns-in_err-member-3-clause-refuses g c =
    if_err_from _ _ c.in_err-member-3.field-0.0 c.from_residual-in_err-member-3.ensures.1
    (inr (inr (
      c.in_ok-has_keys.ensures.keys,
      inr (inr (inr (inl c.in_err-member-3.ensures.refuses))),
    )))

pub returns-in_err-member-4-clause-refuses : goal.returns-in_err-member-4-clause-refuses
returns-in_err-member-4-clause-refuses g c =
    if_err_from _ _ c.in_err-member-4.field-0.0 c.from_residual-in_err-member-4.ensures.1
    (inr (inr (c.in_ok-has_keys.ensures.keys, inr (inr (inl c.in_err-member-4.ensures.refuses)))))
