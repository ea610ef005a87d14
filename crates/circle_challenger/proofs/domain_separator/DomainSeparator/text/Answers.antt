use Rattle.std.proofs.Common.{◌∙◌}
use Rattle.circle_challenger.proofs.Readings.{same_separator}
use Rattle.circle_challenger.proofs.domain_separator.DomainSeparator.text.Goals as goal

pub returns-clause-only : goal.returns-clause-only
returns-clause-only c = λ other writable same.
    same_separator other _ writable c.self.invariant.writable
    (same ∙ c.deref.ensures.value ∙ c.self.invariant.text) ∙ c.self.view_is
