-- The values of periodic columns.
use Rattle.std.specs.Prelude.{◌≡◌, ℕ, ◌+◌, ◌-◌, ◌^◌, ◌≤◌, List, [], ◌∷◌, length}
use Rattle.circle_field.specs.Field.{FieldOps}
use Rattle.circle_field.specs.Circle.{Coordinates, times}
use Rattle.circle_domain.specs.Clear.{IsClearOf}
use Rattle.circle_domain.specs.Order.{natural_order}
use Rattle.circle_domain.specs.Values.{IsValueOfOne, IsValueOfEach}

module _ {F E : Type 0} (k : FieldOps F) (gen : ℕ → Coordinates F) (l : FieldOps E) (embed : F → E)
    (n : ℕ) (column : List F) (p : Coordinates E) where
  -- 2^(n - j) p is clear of the standard domain of the column's 2^j entries
  abbrev pub IsClearOfPeriod : Type 0
  IsClearOfPeriod =
      (j : ℕ) → 1 ≤ j → length column ≡ 2 ^ j →
      IsClearOf l embed (natural_order k gen j (gen (j + 1))) (times l (2 ^ (n - j)) p)

  -- v is at p the value of a column that repeats over 2^n points: of none entries 0, of one the
  -- entry, and of 2^j the value at 2^(n - j) p of the only polynomial with these values on the
  -- standard domain of 2^j points
  pub record IsPeriodicValue (v : E) : Type 0 where
    pub empty : column ≡ [] → v ≡ l.zero
    pub constant : (x : F) → column ≡ x ∷ [] → v ≡ embed x
    pub of_period : (j : ℕ) → 1 ≤ j → length column ≡ 2 ^ j →
        IsValueOfOne k gen l embed j (gen (j + 1)) column (times l (2 ^ (n - j)) p) v
    pub only : (j : ℕ) → 1 ≤ j → length column ≡ 2 ^ j →
        IsValueOfEach k gen l embed j (gen (j + 1)) column (times l (2 ^ (n - j)) p) v
