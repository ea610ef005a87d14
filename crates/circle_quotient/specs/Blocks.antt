-- What the quotient is made of besides the rows, and what it is at each place of its domain.
use Rattle.std.specs.Prelude.{◌≡◌, ℕ, ◌+◌, ◌^◌, ◌<◌, ◌≤◌, List, length, map, All}
use Rattle.circle_field.specs.Field.{FieldOps}
use Rattle.circle_field.specs.Circle.{Coordinates}
use Rattle.circle_commit.specs.PeriodicLdeTable.{columns_of}
use Rattle.circle_domain.specs.Order.{natural_order}
use Rattle.circle_domain.specs.Selectors.{first_row, last_row, transition, vanishing_on}
use Rattle.circle_air.specs.Parts.{Parts}
use Rattle.circle_air.specs.Values.{entry, values}
use Rattle.circle_quotient.specs.Composition.{Selectors}
use Rattle.circle_quotient.specs.Terms.{ArePeriodicColumns, falling_powers, selectors_of_place}
use Rattle.circle_quotient.specs.Terms.{terms, weighted, window_of_place}
use Rattle.circle_quotient.specs.declared.blocks.QuotientTerms.{QuotientTerms}

module _ {F E : Type 0} where
  -- the selectors at place i
  abbrev pub selectors_at_place : FieldOps F → QuotientTerms F E → ℕ → Selectors F
  selectors_at_place k t i =
      selectors_of_place k t.selectors.is_first_row.items t.selectors.is_last_row.items
      t.selectors.is_transition.items i

  -- there are selectors for `count` places
  pub record HavePlaces (count : ℕ) (t : QuotientTerms F E) : Type 0 where
    pub first : count ≤ length t.selectors.is_first_row.items
    pub last : count ≤ length t.selectors.is_last_row.items
    pub transition : count ≤ length t.selectors.is_transition.items

  -- terms for an AIR at `size` places
  pub record AreTermsOf (p : Parts F) (size : ℕ) (t : QuotientTerms F E) : Type 0 where
    pub first : length t.selectors.is_first_row.items ≡ size
    pub last : length t.selectors.is_last_row.items ≡ size
    pub transition : length t.selectors.is_transition.items ≡ size
    pub inverses : length t.selectors.inv_vanishing.items ≡ size
    pub periodic : length t.periodic.items ≡ length p.periodic_columns
    pub periods : All (λ column. 0 < length column) (columns_of t.periodic.items)
    pub weights : length t.weights.items ≡ length p.constraints
    pub constraints : t.constraints.now ≡ p.constraints

  module _ (k : FieldOps F) (l : FieldOps E) (embed : F → E) (p : Parts F)
      (rows : List (List F)) (log_chunks : ℕ) (public : List F) (t : QuotientTerms F E) where
    -- the constraints at place i, each with its weight, over the vanishing polynomial
    abbrev pub quotient_of_place : ℕ → E
    quotient_of_place i =
        let w = window_of_place k rows (2 ^ log_chunks) (columns_of t.periodic.items) public i in
        let nodes = values k (λ x. x) p.nodes w in
        l.mul (embed (entry k t.selectors.inv_vanishing.items i))
        (weighted k l embed t.weights.items (terms k p.constraints nodes
        (selectors_at_place k t i)))

  -- the terms under a challenge, on the domain of 2^(n + log_chunks) points
  pub record AreQuotientTerms (k : FieldOps F) (gen : ℕ → Coordinates F) (l : FieldOps E)
      (n log_chunks : ℕ) (p : Parts F) (alpha : E) (t : QuotientTerms F E) : Type 0 where
    pub first : t.selectors.is_first_row.items ≡ map (first_row k n (gen (n + 1)))
        (natural_order k gen (n + log_chunks) (gen (n + log_chunks + 1)))
    pub last : t.selectors.is_last_row.items ≡ map (last_row k n (gen (n + 1)))
        (natural_order k gen (n + log_chunks) (gen (n + log_chunks + 1)))
    pub transition : t.selectors.is_transition.items ≡ map (transition k n (gen (n + 1)))
        (natural_order k gen (n + log_chunks) (gen (n + log_chunks + 1)))
    pub inverses : t.selectors.inv_vanishing.items
        ≡ map (λ q. k.inv (vanishing_on k n (gen (n + 1)) q))
        (natural_order k gen (n + log_chunks) (gen (n + log_chunks + 1)))
    pub periodic : ArePeriodicColumns k gen n log_chunks p.periodic_columns
        (columns_of t.periodic.items)
    pub weights : t.weights.items ≡ falling_powers l alpha (length p.constraints)
    pub constraints : t.constraints.now ≡ p.constraints
