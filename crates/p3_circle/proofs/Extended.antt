-- Rows on a domain, and their extension to a larger one.
use Rattle.std.proofs.Common.{◌≡◌, ℕ, ◌+◌, ◌^◌, ◌<◌, ◌≤◌, List, [], ◌∷◌, ◌++◌, length, map, sym, ap}
use Rattle.std.proofs.Common.{subst, ◌∙◌, arith}
use Rattle.std.proofs.lemmas.List.{length-map}
use Rattle.std.proofs.lemmas.List.Elements.{All-nil, All-cons}
use Rattle.std.specs.List.{AllZip}
use Rattle.std.specs.Prelude.{slice_index_or}
use Rattle.circle_commit.specs.Matrix.{column, IsPowerOfTwo}
use Rattle.circle_commit.specs.Mmcs.{HaveHeightsOfPowers}
use Rattle.circle_commit.specs.RowMajorMatrix.{rows, width_of, height_of, length-rows}
use Rattle.circle_commit.specs.declared.matrix.RowMajorMatrix.{RowMajorMatrix}
use Rattle.circle_domain.specs.Domain.{log_size, shift_of, IsGenuineDomain}
use Rattle.circle_domain.specs.Order.{cfft_order, IsGenuine}
use Rattle.circle_domain.specs.Ordering.{other_order}
use Rattle.circle_domain.specs.Values.{HasValues, values_at}
use Rattle.circle_domain.specs.declared.domain.CircleDomain.{CircleDomain}
use Rattle.circle_domain.proofs.Columns.{rows-same_columns}
use Rattle.circle_domain.proofs.CosetOrder.{other_order-points, length-cfft_order}
use Rattle.circle_domain.proofs.OtherOrder.{other_order-twice}
use Rattle.circle_domain.proofs.Stored.{column-values}
use Rattle.circle_field.specs.Field.{FieldOps, FieldLaws}
use Rattle.circle_field.specs.Circle.{Coordinates, IsOnCircle, AreGenerators}
use Rattle.circle_plane.specs.Coefficients.{Extrapolates}
use Rattle.circle_domain.proofs.Told.{values-tell}
use Rattle.p3_circle.specs.Committing.{HaveNaturalValues, IsExtension, AreExtensions}

module _ {F : Type 0} {k : FieldOps F} (laws : FieldLaws k) {bits : ℕ} {gen : ℕ → Coordinates F}
    (gens : AreGenerators k bits gen) where
  -- coefficients are told by their values on a genuine domain
  pub only-coefficients : (n : ℕ) (s : Coordinates F) (width : ℕ) (xs ys given : List (List F)) →
      IsGenuine k n s → n ≤ bits → IsOnCircle k s → 1 ≤ width →
      HasValues k gen n s width xs given → HasValues k gen n s width ys given → xs ≡ ys
  only-coefficients n s width xs ys given genuine fits on_circle positive there here =
      let points = cfft_order k gen n s in
      rows-same_columns k.zero width xs ys positive there.widths here.widths (λ j lt.
      values-tell laws gens n s fits on_circle genuine.1 (column k.zero xs j) (column k.zero ys j)
      genuine.0
      (length-map xs (λ row. slice_index_or row j k.zero) ∙ there.height)
      (length-map ys (λ row. slice_index_or row j k.zero) ∙ here.height)
      (sym (column-values k width (2 ^ n) positive xs points j lt)
      ∙ ap (λ all. column k.zero all j) (there.values ∙ sym here.values)
      ∙ column-values k width (2 ^ n) positive ys points j lt))

  module _ {g : _} (d : CircleDomain F g) (positive : 1 ≤ log_size d) (fits : log_size d ≤ bits)
      (width : ℕ) (coeffs given : List (List F)) where
    -- values in natural order are those in the transform's order, reordered, and the other way
    -- round
    pub natural-values : length given ≡ 2 ^ log_size d →
        HasValues k gen (log_size d) (shift_of d) width coeffs (other_order (log_size d) given) →
        HaveNaturalValues k gen (log_size d) (shift_of d) width coeffs given
    natural-values long there =
        let n = log_size d in
        let s = shift_of d in
        let f = values_at k coeffs width in
        record {
          height = there.height;
          widths = there.widths;
          values = sym (other_order-points laws.ring gens f n s positive (omega (arith, fits)))
              ∙ ap (other_order n) there.values ∙ other_order-twice n given long;
        }

    pub cfft-values : HaveNaturalValues k gen (log_size d) (shift_of d) width coeffs given →
        HasValues k gen (log_size d) (shift_of d) width coeffs (other_order (log_size d) given)
    cfft-values there =
        let n = log_size d in
        let s = shift_of d in
        let f = values_at k coeffs width in
        let points = cfft_order k gen n s in
        record {
          height = there.height;
          widths = there.widths;
          values =
              sym
              (other_order-twice n (map f points)
              (length-map points f ∙ length-cfft_order laws.ring gens n s positive))
              ∙ ap (other_order n)
              (other_order-points laws.ring gens f n s positive (omega (arith, fits))
              ∙ there.values);
        }

  pub extended : {g : _} (d e target : CircleDomain F g) (blowup : ℕ)
      (given made : RowMajorMatrix F) (width : ℕ) (viewed : List (List F)) →
      IsGenuineDomain k d → IsOnCircle k (shift_of d) → log_size d + blowup < bits → height_of given
      ≡ 2 ^ log_size d → e ≡ d → log_size target ≡ log_size d + blowup → shift_of target
      ≡ gen (log_size target + 1) →
      width ≡ width_of given → viewed ≡ other_order (log_size d) (rows given) →
      width_of made ≡ width → height_of made ≡ 2 ^ log_size target →
      Extrapolates k gen e target width viewed (rows made) →
      IsExtension k gen blowup d given made
  extended {g = g} d e target blowup given made width viewed genuine on_circle within
      tall same size shift wide seen made_wide made_tall all =
      let n = log_size d in
      let fits : n ≤ bits = omega (arith, within) in
      let long : length (rows given) ≡ 2 ^ n = length-rows given ∙ tall in
      let told : HasValues k gen n (shift_of d) (width_of given) all.coeffs
      (other_order n (rows given)) =
      subst (λ v. HasValues k gen n (shift_of d) (width_of given) all.coeffs v) seen
      (subst (λ w. HasValues k gen n (shift_of d) w all.coeffs viewed) wide
      (subst (λ (x : CircleDomain F g). HasValues k gen (log_size x) (shift_of x) width all.coeffs
      viewed) same all.told)) in
      record {
        coeffs = all.coeffs;
        told = natural-values d genuine.0 fits (width_of given) all.coeffs (rows given) long told;
        only = λ others there. only-coefficients n (shift_of d) (width_of given) all.coeffs others
            (other_order n (rows given)) genuine fits on_circle given.width_positive told
            (cfft-values d genuine.0 fits (width_of given) others (rows given) there);
        width = made_wide ∙ wide;
        height = made_tall ∙ ap (λ m. 2 ^ m) size;
        values =
            all.cfft
            ∙ ap
            (λ w. map (values_at k all.coeffs w)
            (cfft_order k gen (log_size target) (shift_of target))) wide
            ∙ ap
            (λ s. map (values_at k all.coeffs (width_of given))
            (cfft_order k gen (log_size target) s)) shift
            ∙ ap
            (λ m. map (values_at k all.coeffs (width_of given))
            (cfft_order k gen m (gen (m + 1)))) size;
      }

-- one more item of both lists
pub AllZip-more : {A B : Type 0} (R : A → B → Type 0) (xs : List A) (ys : List B) (x : A) (y : B) →
    AllZip R xs ys → R x y → AllZip R (xs ++ x ∷ []) (ys ++ y ∷ [])
AllZip-more R [] [] x y all here = (here, tt)
AllZip-more R (a ∷ xs) (b ∷ ys) x y all here = (all.0, AllZip-more R xs ys x y all.1 here)
AllZip-more R [] (b ∷ ys) x y all here = absurd all
AllZip-more R (a ∷ xs) [] x y all here = absurd all

-- the extensions' heights are powers of two
pub extensions-heights : {F : Type 0} {g : _} (k : FieldOps F) (gen : ℕ → Coordinates F)
    (blowup : ℕ) (es : List (CircleDomain F g × RowMajorMatrix F)) (ms : List (RowMajorMatrix F)) →
    AreExtensions k gen blowup es ms → HaveHeightsOfPowers ms
extensions-heights k gen blowup [] [] all = All-nil (λ m. IsPowerOfTwo (height_of m))
extensions-heights k gen blowup (e ∷ es) (m ∷ ms) all =
    All-cons (λ m. IsPowerOfTwo (height_of m)) m ms (log_size e.0 + blowup, all.0.height)
    (extensions-heights k gen blowup es ms all.1)
extensions-heights k gen blowup [] (m ∷ ms) all = absurd all
extensions-heights k gen blowup (e ∷ es) [] all = absurd all
