-- Tables of the values of columns that repeat.
use Rattle.std.specs.Prelude.{◌≡◌, ℕ, ◌+◌, ◌-◌, ◌*◌, ◌%◌, ◌^◌, ◌<◌, ◌≤◌, List, [], All, Some}
use Rattle.std.specs.Prelude.{length, map, slice_get, slice_index_or}
use Rattle.std.specs.List.{range_with_len}
use Rattle.std.proofs.Common.{sym, ap, ◌∙◌, subst, refl, arith}
use Rattle.std.proofs.Math.Nat.{mod-lt, zero-mul}
use Rattle.std.proofs.lemmas.Nat.{pow-add, pow_pos}
use Rattle.std.proofs.lemmas.List.{length-map, get_or-map}
use Rattle.std.proofs.lemmas.List.Elements.{All-nil}
use Rattle.std.proofs.lemmas.List.FromFn.{get_or-map-range_with_len, length-map-range_with_len}
use Rattle.std.proofs.lemmas.Option.{get_or_from_slice_get, slice_get_within, slice_get-get_or}
use Rattle.circle_field.specs.Field.{FieldOps, FieldLaws}
use Rattle.circle_field.specs.Circle.{Coordinates, AreGenerators, IsOnCircle, origin, times}
use Rattle.circle_commit.specs.Matrix.{IsPowerOfTwo, column}
use Rattle.circle_commit.specs.Mmcs.{greatest}
use Rattle.circle_commit.specs.PeriodicLdeTable.{width_of as table_width}
use Rattle.circle_commit.specs.PeriodicLdeTable.{height_of as table_height_of, rows as table_rows}
use Rattle.circle_commit.specs.RowMajorMatrix.{rows as rows_of, width_of, height_of, length-rows}
use Rattle.circle_commit.specs.RowMajorMatrix.{rows-width}
use Rattle.circle_commit.specs.declared.matrix.RowMajorMatrix.{RowMajorMatrix}
use Rattle.circle_commit.specs.declared.periodic.PeriodicLdeTable.{PeriodicLdeTable}
use Rattle.circle_point.specs.Basis.{value}
use Rattle.circle_domain.specs.Values.{values_at}
use Rattle.circle_domain.specs.Order.{natural_order}
use Rattle.circle_domain.specs.Periodic.{IsPeriodicValue}
use Rattle.circle_domain.proofs.PartLists.{length-natural_order}
use Rattle.circle_domain.proofs.Powers.{pow_order, pow_within}
use Rattle.circle_domain.proofs.StandardDomain.{standard-genuine}
use Rattle.circle_plane.specs.PeriodicColumns.{IsPeriod, IsPeriodicTable, table_height}
use Rattle.circle_plane.specs.PeriodicRows.{AreExtended, table_row}
use Rattle.circle_plane.proofs.DoubledPoints.{doubled-point, natural-on_circle}
use Rattle.circle_plane.proofs.NaturalRows.{one-only}
use Rattle.circle_plane.proofs.PeriodicValues.{map-same, IsRepeated, repeated}
use Rattle.circle_plane.proofs.Periods.{below-greatest, greatest-period}

pub length-table_row : {F : Type 0} (d : F) (columns : List (List F)) (r : ℕ) →
    length (table_row d columns r) ≡ length columns
length-table_row d columns r =
    length-map columns (λ column. slice_index_or column (r % length column) d)

-- columns of which each is a period
pub columns-powers : {F : Type 0} (size : ℕ) (columns : List (List F)) →
    All (IsPeriod size) (map length columns) → All (λ column. IsPowerOfTwo (length column)) columns
columns-powers size columns fit c d lt =
    subst IsPowerOfTwo (get_or-map length columns c d (length d) lt)
    (fit c (length d) (omega (arith, lt, length-map columns length))).0

-- columns of one entry are their own extensions
pub constant-extended : {F : Type 0} (k : FieldOps F) (gen : ℕ → Coordinates F) (bits n m : ℕ)
    (s : Coordinates F) (columns rows : List (List F)) (size height : ℕ) →
    All (IsPeriod size) (map length columns) → greatest (map length columns) ≡ 1 → 1 ≤ height →
    rows ≡ map (table_row k.zero columns) (range_with_len 0 height) →
    AreExtended k gen bits n m s columns rows
constant-extended k gen bits n m s columns rows size height fit longest positive is =
    record {
      values = λ fits i c p here lt.
          let list = slice_index_or columns c [] in
          let within : c < length (map length columns) =
          omega (arith, lt, length-map columns length) in
          let at : slice_index_or (map length columns) c 0 ≡ length list =
          get_or-map length columns c [] 0 lt in
          let power = (fit c 0 within).0 in
          let one : length list ≡ 1 =
          omega (
            arith,
            below-greatest (map length columns) c 0 within,
            longest,
            at,
            power.1,
            pow_pos power.0,
          ) in
          let tall : length rows ≡ height =
          ap length is ∙ length-map-range_with_len (table_row k.zero columns) 0 height in
          let r = i % length rows in
          let below : r < height =
          (let low : r < length rows = mod-lt i (omega (arith, tall, positive)) in
          omega (arith, low, tall)) in
          let entry : slice_index_or (slice_index_or rows r []) c k.zero ≡ slice_index_or list 0
          k.zero =
          ap (λ rs. slice_index_or (slice_index_or rs r []) c k.zero) is
          ∙ ap (λ row. slice_index_or row c k.zero)
          (get_or-map-range_with_len (table_row k.zero columns) 0 height r r [] below
          (omega arith))
          ∙ get_or-map (λ xs. slice_index_or xs (r % length xs) k.zero) columns c [] k.zero lt
          ∙ ap (λ j. slice_index_or list (r % j) k.zero) one
          ∙ ap (λ j. slice_index_or list j k.zero) (let first : r % 1 ≡ 0 = omega arith in
          first) in
          record {
            empty = λ none. absurd (omega (arith, one, ap length none));
            constant = λ x same. entry ∙ ap (λ xs. slice_index_or xs 0 k.zero) same;
            of_period =
                λ j some long. absurd (let low : 2 ^ 1 ≤ 2 ^ j = pow_within 1 j some in
                omega (arith, one, long, low));
            only =
                λ j some long. absurd (let low : 2 ^ 1 ≤ 2 ^ j = pow_within 1 j some in
                omega (arith, one, long, low));
          };
    }

-- the table of a matrix whose rows are the columns' extensions
pub extended-table : {F : Type 0} (k : FieldOps F) (gen : ℕ → Coordinates F) (bits n m : ℕ)
    (s : Coordinates F) (columns : List (List F)) (table : PeriodicLdeTable F)
    (matrix : RowMajorMatrix F) →
    table_width table ≡ width_of matrix → table_height_of table ≡ height_of matrix →
    table_rows table ≡ rows_of matrix →
    1 ≤ length columns → All (IsPeriod (2 ^ n)) (map length columns) →
    table_height (map length columns) (m - n) * length columns < 2 ^ 64 →
    width_of matrix ≡ length columns → height_of matrix
    ≡ table_height (map length columns) (m - n) →
    AreExtended k gen bits n m s columns (rows_of matrix) →
    IsPeriodicTable k gen bits n m s columns table
extended-table k gen bits n m s columns table matrix e_w e_h e_r some fit counted wide tall
    extended =
    let longest =
    (greatest-period (2 ^ n) (map length columns)
    (omega (arith, some, length-map columns length)) fit).0 in
    let positive : 1 ≤ height_of matrix =
    (let e : table_height (map length columns) (m - n) ≡ 2 ^ (longest.0 + (m - n)) =
    ap (λ l. l * 2 ^ (m - n)) longest.1 ∙ sym (pow-add 2 longest.0 (m - n)) in
    omega (arith, tall, e, pow_pos (longest.0 + (m - n)))) in
    let all = rows_of matrix in
    let size : length all ≡ height_of matrix = length-rows matrix in
    record {
      width = e_w ∙ wide;
      height = e_h ∙ tall;
      columns_fit = fit;
      counted = counted;
      values = λ fits i c p here lt.
          let r = i % length all in
          let below : r < length all = mod-lt i (omega (arith, size, positive)) in
          let row = slice_index_or all r [] in
          let within : c < length row = omega (arith, lt, wide, rows-width matrix r [] below) in (
            slice_index_or row c k.zero,
            ap (λ h. slice_get (slice_index_or (table_rows table) (i % h) []) c) (e_h ∙ sym size)
                ∙ ap (λ rs. slice_get (slice_index_or rs r []) c) e_r
                ∙ slice_get-get_or row c k.zero within,
            extended.values fits i c p here lt,
          );
    }

module _ {F : Type 0} {k : FieldOps F} (laws : FieldLaws k) {gen : ℕ → Coordinates F} {bits : ℕ}
    (gens : AreGenerators k bits gen) (l : ℕ) (positive : 1 ≤ l) (small : l < bits)
    (columns : List (List F)) (size : ℕ) (fit : All (IsPeriod size) (map length columns))
    (longest : greatest (map length columns) ≡ 2 ^ l)
    (coeffs : List (List F)) (count : length coeffs ≡ 2 ^ l) where
  abbrev points : List (Coordinates F)
  points = natural_order k gen l (gen (l + 1))

  long : length points ≡ 2 ^ l
  long = length-natural_order k gen l (gen (l + 1)) positive

  -- a column's period
  period : (c : ℕ) → c < length columns → (j : ℕ) × (j ≤ l)
      × (length (slice_index_or columns c []) ≡ 2 ^ j)
  period c lt =
      let within : c < length (map length columns) = omega (arith, lt, length-map columns length) in
      let at : slice_index_or (map length columns) c 0 ≡ length (slice_index_or columns c []) =
      get_or-map length columns c [] 0 lt in
      let power = (fit c 0 within).0 in
      let low = below-greatest (map length columns) c 0 within in
      (power.0, pow_order power.0 l (omega (arith, low, longest, power.1)), sym at ∙ power.1)

  -- coefficients whose values are the columns, written over and over, are those of each column
  column-coefficients : map (values_at k coeffs (length columns)) points
      ≡ map (table_row k.zero columns) (range_with_len 0 (2 ^ l)) → (c : ℕ) → c < length columns →
      IsRepeated laws gens l positive small (slice_index_or columns c []) (column k.zero coeffs c)
  column-coefficients values c lt =
      let list = slice_index_or columns c [] in
      let p = period c lt in
      let told = repeated laws gens l positive small list p.0 p.1 p.2 in
      let cs = column k.zero coeffs c in
      let row = values_at k coeffs (length columns) in
      let same : map (value k told.0) points ≡ map (value k cs) points =
      map-same (value k told.0) (value k cs) points (λ i p here.
      let lt_i : i < length points = slice_get_within points i p here in
      told.1.entries i p here
      ∙ sym (get_or-map (λ xs. slice_index_or xs (i % length xs) k.zero) columns c [] k.zero lt)
      ∙ ap (λ r. slice_index_or r c k.zero)
      (sym
      (get_or-map-range_with_len (table_row k.zero columns) 0 (2 ^ l) i i []
      (omega (arith, lt_i, long)) (omega arith)))
      ∙ ap (λ rs. slice_index_or (slice_index_or rs i []) c k.zero) (sym values)
      ∙ ap (λ r. slice_index_or r c k.zero) (get_or-map row points i (origin k) [] lt_i
      ∙ ap row (get_or_from_slice_get points i p (origin k) here))
      ∙ get_or-map-range_with_len (λ j. value k (column k.zero coeffs j) p) 0 (length columns) c c
      k.zero lt (omega arith)) in
      let counted : length cs ≡ 2 ^ l = length-map coeffs (λ r. slice_index_or r c k.zero)
      ∙ count in
      subst (IsRepeated laws gens l positive small list)
      (one-only laws gens l (gen (l + 1)) positive (omega (arith, small))
      (gens.on_circle (l + 1) (omega (arith, small)))
      (standard-genuine laws gens l positive small).1
      told.0 cs (map (value k cs) points) (record { count = told.1.count; values = same })
      (record { count = counted; values = refl })) told.1

  -- the values on a larger domain are those of the columns on an extension
  pub extended-values : map (values_at k coeffs (length columns)) points
      ≡ map (table_row k.zero columns) (range_with_len 0 (2 ^ l)) →
      (n m : ℕ) (s : Coordinates F) (rows : List (List F)) → l ≤ n → n ≤ m → IsOnCircle k s →
      rows
      ≡ map (values_at k coeffs (length columns))
      (natural_order k gen (l + (m - n)) (times k (2 ^ (n - l)) s)) →
      AreExtended k gen bits n m s columns rows
  extended-values values n m s rows within larger on is =
      record {
        values = λ fits i c p here lt.
            let e = l + (m - n) in
            let q = times k (2 ^ (n - l)) p in
            let there = natural_order k gen e (times k (2 ^ (n - l)) s) in
            let row = values_at k coeffs (length columns) in
            let r = i % 2 ^ e in
            let place : slice_get there r ≡ Some q =
            doubled-point laws.ring gens e (n - l) m s (omega (arith, positive))
            (omega (arith, within, larger)) (omega (arith, fits)) i p here in
            let size : length rows ≡ 2 ^ e = ap length is ∙ length-map there row
            ∙ length-natural_order k gen e (times k (2 ^ (n - l)) s)
            (omega (arith, positive)) in
            let entry : slice_index_or (slice_index_or rows (i % length rows) []) c k.zero ≡ value k
            (column k.zero coeffs c) q =
            ap (λ h. slice_index_or (slice_index_or rows (i % h) []) c k.zero) size
            ∙ ap (λ rs. slice_index_or (slice_index_or rs r []) c k.zero) is
            ∙ ap (λ xs. slice_index_or xs c k.zero)
            (get_or-map row there r (origin k) [] (slice_get_within there r q place)
            ∙ ap row (get_or_from_slice_get there r q (origin k) place))
            ∙ get_or-map-range_with_len (λ j. value k (column k.zero coeffs j) q) 0 (length columns)
            c c k.zero lt (omega arith) in
            subst (IsPeriodicValue k gen k (λ x. x) n (slice_index_or columns c []) p) (sym entry)
            ((column-coefficients values c lt).values n p within
            (natural-on_circle laws.ring gens m s (omega (arith, positive, within, larger))
            (omega (arith, fits)) on i p here));
      }

-- the table of no columns
pub empty-table : {F : Type 0} (k : FieldOps F) (gen : ℕ → Coordinates F) (bits n m : ℕ)
    (s : Coordinates F) (columns : List (List F)) (table : PeriodicLdeTable F) →
    columns ≡ [] → table_width table ≡ 0 → table_height_of table ≡ 0 →
    IsPeriodicTable k gen bits n m s columns table
empty-table k gen bits n m s columns table none wide tall =
    let nothing = zero-mul (2 ^ (m - n)) in
    let made : IsPeriodicTable k gen bits n m s [] table = record {
      width = wide;
      height = tall ∙ sym nothing;
      columns_fit = All-nil (IsPeriod (2 ^ n));
      counted = omega (arith, nothing);
      values = λ fits i c p at lt. absurd (omega (arith, lt));
    } in
    subst (λ all. IsPeriodicTable k gen bits n m s all table) (sym none) made
