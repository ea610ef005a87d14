use Rattle.std.proofs.Common.{sym, ◌∙◌, refl}
use Rattle.test_schemes.specs.QuadraticOperations.{norm_zero_exactly}
use Rattle.test_schemes.proofs.quadratic.QuadraticField.try_inverse.Goals as goal

pub returns-in-Some-clause-none : goal.returns-in-Some-clause-none
returns-in-Some-clause-none c = (
  λ h. cc,
  λ e. c.in-Some.ensures.none.1 (c.norm.ensures ∙ (norm_zero_exactly c.args.self.now).1 e),
)

pub returns-in-None-clause-none : goal.returns-in-None-clause-none
returns-in-None-clause-none c = (
  λ h. (norm_zero_exactly c.args.self.now).0
      (sym c.norm.ensures ∙ c.in-None.ensures.none.0 refl),
  λ e. refl,
)
