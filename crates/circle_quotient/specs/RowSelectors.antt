-- The selectors of a trace's rows at the points of the quotient's domain, and what they are made
-- of.
use Rattle.std.specs.Prelude.{◌≡◌, ℕ, ◌+◌, ◌^◌, List, Some, Vec, map, slice_get, take}
use Rattle.std.specs.declared.alloc.Global.{Global}
use Rattle.circle_field.specs.Field.{FieldOps, sub}
use Rattle.circle_field.specs.Circle.{Coordinates}
use Rattle.circle_point.specs.Basis.{vanishing}
use Rattle.circle_commit.specs.declared.space.LagrangeSelectors.{LagrangeSelectors}
use Rattle.circle_domain.specs.Order.{natural_order}
use Rattle.circle_domain.specs.Selectors.{first_row, last_row, transition, vanishing_on}
use Rattle.circle_air.specs.Values.{entry}

module _ {F : Type 0} (k : FieldOps F) (gen : ℕ → Coordinates F) (n log_chunks : ℕ) where
  -- the points of the quotient's domain
  abbrev pub quotient_points : List (Coordinates F)
  quotient_points = natural_order k gen (n + log_chunks) (gen (n + log_chunks + 1))

  -- the values of the vanishing polynomial there, before they repeat
  abbrev pub vanishing_period : List F
  vanishing_period = map (vanishing k n) (take (2 ^ (log_chunks + 1)) quotient_points)

  -- for each point the vanishing polynomial over the difference in x from the first row's point,
  -- and the point's y coordinate
  pub record AreRowParts (ws hs : List F) : Type 0 where
    pub weights : (i : ℕ) (q : Coordinates F) → slice_get quotient_points i ≡ Some q →
        entry k ws i ≡ k.mul (k.inv (sub k (gen (n + 1)).x q.x)) (vanishing k n q)
    pub heights : (i : ℕ) (q : Coordinates F) → slice_get quotient_points i ≡ Some q →
        entry k hs i ≡ q.y

  -- the selectors at each point
  pub record AreQuotientSelectors (s : LagrangeSelectors (Vec F Global)) : Type 0 where
    pub first : s.is_first_row.items ≡ map (first_row k n (gen (n + 1))) quotient_points
    pub last : s.is_last_row.items ≡ map (last_row k n (gen (n + 1))) quotient_points
    pub transition : s.is_transition.items ≡ map (transition k n (gen (n + 1))) quotient_points
    pub inverses : s.inv_vanishing.items
        ≡ map (λ q. k.inv (vanishing_on k n (gen (n + 1)) q)) quotient_points
