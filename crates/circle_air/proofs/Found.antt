-- Violations found in a part of the rows, and in more of them.
use Rattle.std.proofs.Common.{ℕ, ◌<◌, ◌≤◌, List, arith, ◌⊎◌, inl, inr}
use Rattle.std.specs.Prelude.{All, Option, Some, None}
use Rattle.circle_air.specs.declared.node.Constraint.{Constraint}
use Rattle.circle_air.specs.declared.check.Violation.{Violation}
use Rattle.std.proofs.lemmas.Bool.{cases_lt}
use Rattle.circle_air.specs.Satisfies.{IsFoundIn, IsFirstViolationIn}

module _ (Holds Same : ℕ → Constraint → Type 0) (constraints : List Constraint) (start end : ℕ)
  where
    -- what is found of a fact is found of one that is the same in these rows
    pub found_alike : ((i : ℕ) → start ≤ i → i < end → (c : Constraint) → Holds i c → Same i c)
        → ((i : ℕ) → start ≤ i → i < end → (c : Constraint) → Same i c → Holds i c)
        → (found : Option Violation) → IsFoundIn Holds constraints start end found
        → IsFoundIn Same constraints start end found
    found_alike to from None h = λ i low high k d below. to i low high _ (h i low high k d below)
    found_alike to from (Some v) h = record {
      row_from = h.row_from;
      row_below = h.row_below;
      constraint = h.constraint;
      fails = λ d s. h.fails d (from v.row h.row_from h.row_below _ s);
      first_row = λ i low before k d below.
          let high : i < end = omega (arith, before, h.row_below) in
          to i low high _ (h.first_row i low before k d below);
      first_constraint =
          λ j d before. to v.row h.row_from h.row_below _ (h.first_constraint j d before);
    }

-- a row stands before another or from it on
pub before_or_from : (i start : ℕ) → (i < start) ⊎ (start ≤ i)
before_or_from i start = cases_lt i start

module _ (Holds : ℕ → Constraint → Type 0) (constraints : List Constraint) where
  -- no violation in the rows so far, and what is found in those after them
  pub found_more : (start end : ℕ)
      → ((i : ℕ) → 0 ≤ i → i < start → All (Holds i) constraints)
      → (found : Option Violation) → IsFoundIn Holds constraints start end found
      → IsFoundIn Holds constraints 0 end found
  found_more start end before None h = λ i low high.
      elim (before_or_from i start) [ inl b ↦ before i low b | inr f ↦ h i f high ]
  found_more start end before (Some v) h = record {
    row_from = omega arith;
    row_below = h.row_below;
    constraint = h.constraint;
    fails = h.fails;
    first_row =
        λ i low under. elim (before_or_from i start)
        [ inl b ↦ before i low b | inr f ↦ h.first_row i f under ];
    first_constraint = h.first_constraint;
  }

  -- the rows behind which there are none don't count
  pub found_below : (start end height : ℕ) → end ≤ height → (found : Violation)
      → IsFirstViolationIn Holds constraints start end found
      → IsFirstViolationIn Holds constraints start height found
  found_below start end height room v h = record {
    row_from = h.row_from;
    row_below = omega (arith, h.row_below, room);
    constraint = h.constraint;
    fails = h.fails;
    first_row = h.first_row;
    first_constraint = h.first_constraint;
  }
