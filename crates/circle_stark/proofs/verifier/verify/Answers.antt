use Rattle.std.proofs.lemmas.Result.{IfErr-weaker}
use Rattle.circle_stark.proofs.Verdicts.{accepted-passes, ok-err, refused-each, refuses-with}
use Rattle.circle_stark.proofs.verifier.verify.Goals as goal

pub returns-in_err-log_chunks-clause-complete : goal.returns-in_err-log_chunks-clause-complete
returns-in_err-log_chunks-clause-complete g c =
    refuses-with _ _ c.in_err-log_chunks.field-0.0 c.from_residual.ensures.1
    (λ h. let a = h.1 in absurd
    (ok-err _ _ _ (accepted-passes _ _ _ _ _ _ _ _ _ _ h.0 a)
    (c.in_err-log_chunks.ensures.tested a.log_chunks a.provable.domains.chunks)))

pub returns-clause-reason : goal.returns-clause-reason
returns-clause-reason g c =
    IfErr-weaker c.verify_seeded.result _ _
    (λ e h. refused-each _ _ _ _ _ _ _ _ _ _ _ _ _ _ _ _ _ _ _ _ _ _
    g.Val.ComplexExtendable.CIRCLE_TWO_ADICITY g.EF.ExtensionField.DEGREE
    c.in_ok-log_chunks.log_chunks e c.in_ok-log_chunks.ensures.provable.domains.chunks
    c.in_ok-log_chunks.ensures.tested h)
    c.verify_seeded.ensures.reason
