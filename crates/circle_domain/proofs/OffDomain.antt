-- The values of columns at a point off the domain.
use Rattle.std.specs.Prelude.{◌≡◌, ℕ, ◌^◌, ◌≤◌, List, length, map}
use Rattle.std.specs.List.{range_with_len}
use Rattle.std.proofs.Common.{sym, ◌∙◌, ap, arith}
use Rattle.std.proofs.lemmas.List.{length-map}
use Rattle.std.proofs.lemmas.List.FromFn.{fill_by_all, length-map-range_with_len}
use Rattle.std.proofs.lemmas.List.FromFn.{get_or-map-range_with_len}
use Rattle.circle_field.specs.Field.{FieldOps}
use Rattle.circle_field.specs.Circle.{Coordinates}
use Rattle.circle_commit.specs.Matrix.{column}
use Rattle.circle_point.specs.Basis.{value}
use Rattle.circle_commit.specs.DotProduct.{dot}
use Rattle.circle_domain.specs.Order.{cfft_order}
use Rattle.circle_domain.specs.Values.{HasValues, lifted_values_at}
use Rattle.circle_domain.proofs.Stored.{column-values}
use Rattle.circle_domain.proofs.Twiddles.{map-map}

module _ {F E : Type 0} (k : FieldOps F) (l : FieldOps E) (m : F → E) (gen : ℕ → Coordinates F)
    (n : ℕ) (s : Coordinates F) (q : Coordinates E) (shares : List E) (scale : E)
    (add_up : (c : List F) → length c ≡ 2 ^ n →
    l.mul (dot l shares (map m (map (value k c) (cfft_order k gen n s)))) scale
    ≡ value l (map m c) q) where
  pub columns-values : (width : ℕ) (coeffs rows : List (List F)) → 1 ≤ width →
      HasValues k gen n s width coeffs rows →
      map (λ a. l.mul a scale)
      (map (λ j. dot l shares (map m (column k.zero rows j))) (range_with_len 0 width))
      ≡ lifted_values_at k.zero l m coeffs width q
  columns-values width coeffs rows positive has =
      let f = λ (j : ℕ). dot l shares (map m (column k.zero rows j)) in
      let h = λ (j : ℕ). l.mul (f j) scale in
      map-map (λ a. l.mul a scale) f (range_with_len 0 width)
      ∙ fill_by_all (λ j. value l (map m (column k.zero coeffs j)) q)
      (map h (range_with_len 0 width)) width l.zero (length-map-range_with_len h 0 width)
      (λ j lt.
      get_or-map-range_with_len h 0 width j j l.zero lt (omega arith)
      ∙ ap (λ rs. l.mul (dot l shares (map m (column k.zero rs j))) scale) (sym has.values)
      ∙ ap (λ c. l.mul (dot l shares (map m c)) scale)
      (column-values k width 0 positive coeffs (cfft_order k gen n s) j lt)
      ∙ add_up (column k.zero coeffs j) (length-map coeffs _ ∙ has.height))
