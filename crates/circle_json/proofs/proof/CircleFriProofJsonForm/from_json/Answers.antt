use Rattle.std.proofs.Common.{inl, inr}
use Rattle.circle_json.proofs.Items.{if_err_from}
use Rattle.circle_json.proofs.proof.CircleFriProofJsonForm.from_json.Goals as goal

pub returns-in_err-member-2-clause-refuses : goal.returns-in_err-member-2-clause-refuses
returns-in_err-member-2-clause-refuses g c =
    if_err_from _ _ c.in_err-member-2.field-0.0 c.from_residual-in_err-member-2.ensures.1
    (inr (inr (c.in_ok-has_keys.ensures.keys, inr (inr (inl c.in_err-member-2.ensures.refuses)))))

pub returns-in_err-member-3-clause-refuses : goal.returns-in_err-member-3-clause-refuses
returns-in_err-member-3-clause-refuses g c =
    if_err_from _ _ c.in_err-member-3.field-0.0 c.from_residual-in_err-member-3.ensures.1
    (inr (inr (
      c.in_ok-has_keys.ensures.keys,
      inr (inr (inr (inr (inl c.in_err-member-3.ensures.refuses)))),
    )))

pub returns-in_err-member-4-clause-refuses : goal.returns-in_err-member-4-clause-refuses
returns-in_err-member-4-clause-refuses g c =
    if_err_from _ _ c.in_err-member-4.field-0.0 c.from_residual-in_err-member-4.ensures.1
    (inr (inr (c.in_ok-has_keys.ensures.keys, inr (inl c.in_err-member-4.ensures.refuses))))

pub returns-in_err-final_poly-clause-refuses : goal.returns-in_err-final_poly-clause-refuses
returns-in_err-final_poly-clause-refuses g c =
    if_err_from _ _ c.in_err-final_poly.field-0.0 c.from_residual-in_err-final_poly.ensures.1
    (inr (inr (
      c.in_ok-has_keys.ensures.keys,
      inr (inr (inr (inl c.in_err-final_poly.ensures.refuses))),
    )))

pub returns-in_err-member-5-clause-refuses : goal.returns-in_err-member-5-clause-refuses
returns-in_err-member-5-clause-refuses g c =
    if_err_from _ _ c.in_err-member-5.field-0.0 c.from_residual-in_err-member-5.ensures.1
    (inr (inr (
      c.in_ok-has_keys.ensures.keys,
      inr (inr (inr (inr (inr (inl c.in_err-member-5.ensures.refuses))))),
    )))
