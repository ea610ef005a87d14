-- The rows that the codewords of an opening read of a committed matrix, and their combinations:
-- Circle STARKs (ePrint 2024/278), section 4.3.
use Rattle.std.specs.Prelude.{ℕ, ◌+◌, ◌-◌, ◌^◌, List, map, take, nat_le, if◌then◌else◌}
use Rattle.circle_field.specs.Circle.{Coordinates}
use Rattle.circle_commit.specs.DotProduct.{dot, column_sums}
use Rattle.circle_domain.specs.Lagrange.{lagrange_at}
use Rattle.circle_domain.specs.Order.{cfft_order}
use Rattle.circle_relation.specs.Accepts.{Fields}
use Rattle.circle_codewords.specs.Ratios.{points_of_height}

-- as many columns at least has a matrix whose combination is extended from its first rows
abbrev pub lift_width : ℕ
lift_width = 1024

-- of each row the sum of its entries, each times its power
abbrev pub combined : {F E : Type 0} → Fields F E → List E → List (List F) → List E
combined k powers rows = map (λ row. dot k.extension powers (map k.embed row)) rows

module _ {F E : Type 0} (k : Fields F E) (blowup h : ℕ) where
  -- the Lagrange polynomials at p of the first points, as many as are left without the blowup
  abbrev pub first_weights : Coordinates F → List F
  first_weights p =
      map (lagrange_at k.field (h - blowup) p)
      (cfft_order k.field k.gen (h - blowup) (k.gen (h + 1)))

  -- at each point of the domain of 2^h points the sum of a codeword's first entries, each times the
  -- Lagrange polynomial of its point
  abbrev pub extended_word : List E → List E
  extended_word first =
      map (λ p. dot k.extension first (map k.embed (first_weights p)))
      (points_of_height k.field k.gen h)

  module _ (width : ℕ) where
    -- the values at p of the polynomials that these first rows fix, each row times the Lagrange
    -- polynomial of its point
    abbrev pub extended_row : List (List F) → Coordinates F → List F
    extended_row first p =
        column_sums k.field k.field.zero (λ a. a) first width (first_weights p)

    -- their values on the whole domain of 2^h points
    abbrev pub extended_rows : List (List F) → List (List F)
    extended_rows rows =
        map (extended_row (take (2 ^ (h - blowup)) rows)) (points_of_height k.field k.gen h)

    -- the rows that codewords read: those of a matrix of few columns, and of a wide one the values
    -- of the polynomials that its first rows fix
    abbrev pub read_rows : List (List F) → List (List F)
    read_rows rows = if nat_le lift_width width then extended_rows rows else rows
