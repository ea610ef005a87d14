-- The selectors of rows at many points.
use Rattle.std.specs.Prelude.{List, Vec}
use Rattle.std.specs.declared.alloc.Global.{Global}
use Rattle.circle_commit.specs.declared.space.LagrangeSelectors.{LagrangeSelectors}

-- the selectors as lists, in the order of the points
abbrev pub selector_lists : {F : Type 0} → LagrangeSelectors (Vec F Global) →
    LagrangeSelectors (List F)
selector_lists s = record {
  is_first_row = s.is_first_row.items;
  is_last_row = s.is_last_row.items;
  is_transition = s.is_transition.items;
  inv_vanishing = s.inv_vanishing.items;
}
