use Rattle.std.proofs.Common.{◌∙◌, ap, inr, List, subst, sym, Vec, Global}
use Rattle.circle_air.specs.Satisfies.{IsFirstViolation}
use Rattle.circle_commands.specs.Rows.{lists}
use Rattle.circle_field.specs.Mersenne31.{operations}
use Rattle.circle_field.specs.declared.mersenne31.Mersenne31.{Mersenne31}
use Rattle.stark_commands.proofs.Checked.{Finds, of_given}
use Rattle.stark_commands.proofs.Refused.{refused_by}
use Rattle.stark_commands.specs.Check.{IsFitting, IsRefused, IsUnsatisfied}
use Rattle.stark_commands.proofs.check.check.Goals as goal

pub returns-in_err-validate_trace-clause-refused : goal.returns-in_err-validate_trace-clause-refused
returns-in_err-validate_trace-clause-refused c =
    refused_by _ _ c.from_residual-in_err-validate_trace.result
    c.from_residual-in_err-validate_trace.ensures.1
    (λ reason is. inr (subst (IsUnsatisfied c.args.input) (sym is)
    (of_given (λ p rows public. IsRefused p rows public c.in_err-validate_trace.field-0.0)
    c.args.input _ _ _ c.in_ok-air.ensures.same
    (ap (λ (rows : List (Vec Mersenne31 Global)). lists rows) c.deref.ensures.value)
    c.deref-2.ensures.value c.in_err-validate_trace.ensures)))

pub returns-clause-refused : goal.returns-clause-refused
returns-clause-refused c =
    inr (
      of_given IsFitting c.args.input _ _ _ c.in_ok-air.ensures.same
          (ap (λ (rows : List (Vec Mersenne31 Global)). lists rows) c.deref.ensures.value)
          c.deref-2.ensures.value c.in_ok-validate_trace.ensures,
      of_given (λ p rows public. IsFirstViolation operations p rows public c.in-Some.violation)
          c.args.input _ _ _ c.in_ok-air.ensures.same
          (c.in_ok-matrix.ensures.content
          ∙ ap (λ (rows : List (Vec Mersenne31 Global)). lists rows) c.deref-3.ensures.value)
          c.deref-4.ensures.value
          (subst (Finds _ _ _) c.in-Some.is c.in_ok-check_constraints.ensures),
    )
