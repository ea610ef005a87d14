-- What the records of the calls are to contracts.
use Rattle.circle_commit.specs.declared.space.LagrangeSelectors.{LagrangeSelectors}
use Rattle.circle_air.specs.Values.{Window}
use Rattle.circle_quotient.specs.Composition.{Selectors}
use Rattle.circle_quotient.specs.declared.window.PointWindow.{PointWindow}

-- what constraints read, as lists
abbrev pub window_of : {E : Type 0} → PointWindow E → Window E
window_of w = record {
  local = w.local.now;
  next = w.next.now;
  periodic = w.periodic.now;
  public = w.public_values.now;
}

-- the selectors of rows that constraints are laid on
abbrev pub selectors_of : {E : Type 0} → LagrangeSelectors E → Selectors E
selectors_of s = record {
  first = s.is_first_row;
  last = s.is_last_row;
  transition = s.is_transition;
}
