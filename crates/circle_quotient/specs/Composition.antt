-- The constraints of an AIR put together by the powers of a challenge.
use Rattle.std.specs.Prelude.{List, fold}
use Rattle.circle_field.specs.Field.{FieldOps}
use Rattle.circle_air.specs.declared.node.Constraint.{Constraint}
use Rattle.circle_air.specs.declared.node.Place.{Place}
use Rattle.circle_air.specs.declared.node.Place.TheVariants.{Every, First, Last, Transition}
use Rattle.circle_air.specs.Parts.{Parts}
use Rattle.circle_air.specs.Values.{Window, entry, values}

-- the selectors of a trace's rows at a point
pub record Selectors (E : Type 0) : Type 0 where
  pub first : E
  pub last : E
  pub transition : E

module _ {E : Type 0} (l : FieldOps E) where
  -- the selector of a place
  abbrev pub selector : Selectors E → Place → E
  selector s Every = l.one
  selector s First = s.first
  selector s Last = s.last
  selector s Transition = s.transition

  -- a constraint's node times the selector of its place
  abbrev pub term : Selectors E → List E → Constraint → E
  term s nodes c = l.mul (selector s c.place) (entry l nodes c.node)

  -- the terms, each times alpha to the number of those that follow, added up
  abbrev pub together : List Constraint → List E → Selectors E → E → E
  together constraints nodes s alpha =
      fold (λ sum c. l.add (l.mul alpha sum) (term s nodes c)) l.zero constraints

-- the constraints over a window and selectors, put together
abbrev pub composition : {F E : Type 0} → FieldOps E → (F → E) → Parts F → Window E →
    Selectors E → E → E
composition l embed p w s alpha =
    together l p.constraints (values l embed p.nodes w) s alpha
