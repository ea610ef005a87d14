-- Polynomials that the first rows of a committed matrix fix.
use Rattle.std.proofs.Common.{◌≡◌, ℕ, ◌+◌, ◌≤◌, List, take, length, sym, ap, subst, ◌∙◌}
use Rattle.std.proofs.lemmas.List.{length-take-le}
use Rattle.circle_commit.specs.RowMajorMatrixView.{rows as view_rows, height_of as view_height}
use Rattle.circle_commit.specs.RowMajorMatrixView.{length-rows as length-view_rows}
use Rattle.circle_commit.specs.declared.view.RowMajorMatrixView.{RowMajorMatrixView}
use Rattle.circle_domain.specs.Domain.{log_size, shift_of}
use Rattle.circle_domain.specs.Values.{HasValues}
use Rattle.circle_domain.specs.declared.domain.CircleDomain.{CircleDomain}
use Rattle.circle_field.specs.Field.{FieldOps}
use Rattle.circle_field.specs.Circle.{Coordinates}
use Rattle.circle_plane.specs.Coefficients.{natural_values_on}
use Rattle.p3_circle.specs.Committing.{AreContinued}

-- the height of a view of the first rows
pub first-height : {T : Type 0} (view : RowMajorMatrixView T) (rows : List (List T)) (n : ℕ) →
    view_rows view ≡ take n rows → n ≤ length rows → view_height view ≡ n
first-height view rows n is within = sym (length-view_rows view) ∙ ap length is
    ∙ length-take-le n rows within

module _ {F : Type 0} (k : FieldOps F) (gen : ℕ → Coordinates F) {g : _} (t h : ℕ)
    (e domain : CircleDomain F g) (width wide : ℕ) (viewed first : List (List F))
    (size : log_size e ≡ t) (shift : shift_of e ≡ gen (h + 1)) (same_width : wide ≡ width)
    (seen : viewed ≡ first) where
  to : (cs : List (List F)) → HasValues k gen (log_size e) (shift_of e) wide cs viewed →
      HasValues k gen t (gen (h + 1)) width cs first
  to cs has =
      subst (λ n. HasValues k gen n (gen (h + 1)) width cs first) size
      (subst (λ s. HasValues k gen (log_size e) s width cs first) shift
      (subst (λ w. HasValues k gen (log_size e) (shift_of e) w cs first) same_width
      (subst (λ v. HasValues k gen (log_size e) (shift_of e) wide cs v) seen has)))

  from : (cs : List (List F)) → HasValues k gen t (gen (h + 1)) width cs first →
      HasValues k gen (log_size e) (shift_of e) wide cs viewed
  from cs has =
      subst (λ v. HasValues k gen (log_size e) (shift_of e) wide cs v) (sym seen)
      (subst (λ w. HasValues k gen (log_size e) (shift_of e) w cs first) (sym same_width)
      (subst (λ s. HasValues k gen (log_size e) s width cs first) (sym shift)
      (subst (λ n. HasValues k gen n (gen (h + 1)) width cs first) (sym size) has)))

  -- the values of what was interpolated
  pub continued : (made coeffs : List (List F)) (w : ℕ) → w ≡ wide →
      HasValues k gen (log_size e) (shift_of e) wide coeffs viewed →
      ((others : List (List F)) → HasValues k gen (log_size e) (shift_of e) wide others viewed →
      coeffs ≡ others) →
      made ≡ natural_values_on k gen domain w coeffs →
      AreContinued k gen t (gen (h + 1)) width first domain made
  continued made coeffs w w_is told only values = record {
    coeffs = coeffs;
    told = to coeffs told;
    only = λ others has. only others (from others has);
    values = values ∙ ap (λ x. natural_values_on k gen domain x coeffs) (w_is ∙ same_width);
  }
