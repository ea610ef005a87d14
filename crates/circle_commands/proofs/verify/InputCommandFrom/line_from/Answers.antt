use Rattle.std.proofs.Common.{⊎_elim}
use Rattle.circle_commands.proofs.Verified.{refused-proof}
use Rattle.circle_commands.proofs.verify.InputCommandFrom.line_from.Goals as goal

pub returns-in_err-verify_from-clause-refused : goal.returns-in_err-verify_from-clause-refused
returns-in_err-verify_from-clause-refused c =
    let refused = c.in_err-verify_from in
    refused-proof _ c.from_residual.result refused.field-0.0 c.from_residual.ensures.1
    (λ other. (
      λ verified. other (refused.ensures.complete verified.0 verified.1),
      ⊎_elim (λ memory. absurd (other memory)) (λ unverified. unverified) refused.ensures.reason,
    ))
