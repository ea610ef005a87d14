-- The columns of a trace, where the coefficients of their polynomials are the columns of a matrix.
use Rattle.std.specs.Prelude.{◌≡◌, ℕ, ◌+◌, ◌^◌, ◌<◌, ◌≤◌, List, [], length, map, slice_index_or}
use Rattle.std.specs.List.{range_with_len}
use Rattle.std.proofs.Common.{sym, ◌∙◌, ap, subst, arith}
use Rattle.std.proofs.lemmas.List.{length-map, get_or-map}
use Rattle.std.proofs.lemmas.List.FromFn.{length-map-range_with_len, get_or-map-range_with_len}
use Rattle.std.proofs.lemmas.Option.{get_or_from_slice_get, slice_get_within}
use Rattle.circle_field.specs.Field.{FieldOps}
use Rattle.circle_field.specs.Circle.{Coordinates}
use Rattle.circle_point.specs.Basis.{value}
use Rattle.circle_commit.specs.Matrix.{column}
use Rattle.circle_domain.specs.Order.{natural_order}
use Rattle.circle_domain.specs.Values.{Interpolates, values_at, lifted_values_at}
use Rattle.circle_domain.proofs.Columns.{column-made}
use Rattle.circle_domain.proofs.PartLists.{length-natural_order}
use Rattle.circle_domain.proofs.Twiddles.{map-map}
use Rattle.circle_air.specs.Parts.{Parts}
use Rattle.circle_air.specs.Values.{Window}
use Rattle.circle_quotient.specs.Quotient.{AreValuesOf}
use Rattle.circle_quotient.specs.Window.{AreColumnsOf, IsWindowOf, IsWindowAt, next_point}

module _ {F : Type 0} (k : FieldOps F) (coeffs : List (List F)) (width : ℕ) where
  -- the coefficients of each column
  abbrev pub columns_of : List (List F)
  columns_of = map (column k.zero coeffs) (range_with_len 0 width)

  -- there are `width` of them
  pub length-columns_of : length columns_of ≡ width
  length-columns_of = length-map-range_with_len (column k.zero coeffs) 0 width

  -- the columns' values at a point
  columns-values : (s : Coordinates F) →
      values_at k coeffs width s ≡ map (λ c. value k c s) columns_of
  columns-values s =
      sym (map-map (λ c. value k c s) (column k.zero coeffs) (range_with_len 0 width))

  module _ (gen : ℕ → Coordinates F) (n : ℕ) (positive : 1 ≤ n) (rows : List (List F)) where
    -- where the rows are the values on the trace's domain, these are their columns
    pub are-columns : length coeffs ≡ 2 ^ n →
        map (values_at k coeffs width) (natural_order k gen n (gen (n + 1))) ≡ rows →
        AreColumnsOf k gen n rows columns_of
    are-columns long same =
        let points = natural_order k gen n (gen (n + 1)) in record {
          height = ap length (sym same) ∙ length-map points (values_at k coeffs width)
              ∙ length-natural_order k gen n (gen (n + 1)) positive;
          each = λ j lt.
              let below : j < width = omega (arith, lt, length-columns_of) in
              subst (λ c. Interpolates k gen n (gen (n + 1)) c (column k.zero rows j))
              (sym (get_or-map-range_with_len (column k.zero coeffs) 0 width j j [] below
              (omega arith)))
              (record {
                count = length-map coeffs (λ row. slice_index_or row j k.zero) ∙ long;
                values =
                    sym (column-made k.zero width j (λ i s. value k (column k.zero coeffs i) s)
                    points below)
                    ∙ ap (λ all. column k.zero all j) same;
              });
        }

    -- where they are the values on the quotient's domain, they are those of the columns there
    pub are-values : {E : Type 0} (l : FieldOps E) (embed : F → E) (kk : ℕ) →
        rows ≡ map (values_at k coeffs width) (natural_order k gen (n + kk) (gen (n + kk + 1))) →
        AreValuesOf k gen l embed n kk columns_of rows
    are-values l embed kk same =
        let points = natural_order k gen (n + kk) (gen (n + kk + 1)) in record {
          height = ap length same ∙ length-map points (values_at k coeffs width)
              ∙ length-natural_order k gen (n + kk) (gen (n + kk + 1)) (omega (arith, positive));
          each = λ i s here.
              ap (λ all. slice_index_or all i []) same
              ∙ get_or-map (values_at k coeffs width) points i s []
              (slice_get_within points i s here)
              ∙ ap (values_at k coeffs width) (get_or_from_slice_get points i s s here)
              ∙ columns-values s;
        }

-- a window of what is opened of the coefficients is one of the columns
pub opened-window : {F E : Type 0} (k : FieldOps F) (gen : ℕ → Coordinates F) (l : FieldOps E)
    (embed : F → E) (n : ℕ) (p : Parts F) (public : List F) (coeffs : List (List F))
    (q : Coordinates E) (w : Window E) →
    IsWindowOf k gen l embed n p public q (lifted_values_at k.zero l embed coeffs p.width q)
    (lifted_values_at k.zero l embed coeffs p.width (next_point k gen l embed n q)) w →
    IsWindowAt k gen l embed n p (columns_of k coeffs p.width) public q w
opened-window k gen l embed n p public coeffs q w is =
    let opened : (r : Coordinates _) → lifted_values_at k.zero l embed coeffs p.width r
    ≡ map (λ c. value l (map embed c) r) (columns_of k coeffs p.width) = λ r.
    sym (map-map (λ c. value l (map embed c) r) (column k.zero coeffs) (range_with_len 0 p.width))
    in record {
      local = is.local ∙ opened q;
      next = is.next ∙ opened (next_point k gen l embed n q);
      periodic_count = is.periodic_count;
      periodic = is.periodic;
      public = is.public;
    }
