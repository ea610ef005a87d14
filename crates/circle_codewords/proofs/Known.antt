-- Ratios that were made, found by their point.
use Rattle.std.specs.Prelude.{◌≡◌, ℕ, ◌+◌, ◌-◌, ◌^◌, ◌<◌, length, slice_index_or, List, [], ◌∷◌}
use Rattle.std.specs.Prelude.{◌++◌, map}
use Rattle.std.specs.Prelude.{All, true, Option, Some, None, IfSome}
use Rattle.std.specs.Borrow.{Bor}
use Rattle.std.specs.List.{Any}
use Rattle.std.specs.Option.{is_some}
use Rattle.std.proofs.Common.{zero, suc, sym, ◌∙◌, ap, subst, arith, ⊎_elim}
use Rattle.std.proofs.lemmas.Bool.{false≢true, cases_lt}
use Rattle.std.proofs.lemmas.List.{get_or_default}
use Rattle.circle_field.specs.Field.{FieldOps}
use Rattle.circle_field.specs.Circle.{Coordinates}
use Rattle.circle_point.specs.Projective.{from_line}
use Rattle.circle_domain.specs.declared.lagrange.LagrangeWeights.{LagrangeWeights}
use Rattle.circle_codewords.specs.OfMatrices.{AreWeightsFor, IsFor, fields_at}
use Rattle.circle_codewords.specs.Ratios.{vanishing_ratio, AreRatiosOf, HasRatios}
use Rattle.circle_codewords.specs.Values.{AreWeightsOf}
use Rattle.circle_codewords.specs.declared.matrix.MatrixAtPoints.{MatrixAtPoints}
use Rattle.circle_codewords.specs.declared.matrix.PointWeights.{PointWeights}
use Rattle.circle_codewords.specs.declared.points.OpeningPoint.{OpeningPoint}
use Rattle.circle_codewords.specs.declared.ratios.PointRatios.{PointRatios}

module _ {X : Type 0} (P : X → Type 0) where
  -- one of a list is one of a longer list
  pub any-kept : (xs : List X) (x : X) → Any P xs → Any P (xs ++ x ∷ [])
  any-kept [] x (i, d, lt, is, p) = absurd (omega (arith, lt))
  any-kept (y ∷ ys) x (zero, d, lt, is, p) = (0, d, omega arith, is, p)
  any-kept (y ∷ ys) x (suc i, d, lt, is, p) = let r =
      any-kept ys x (i, d, omega (arith, lt), is, p) in (suc r.0, r.1, omega (arith, r.2), r.3, r.4)

module _ {E : Type 0} where
  -- what is found is known
  pub known-of : (o : Option (Bor (List E))) (xs : List (PointRatios E)) (p : E) →
      is_some o ≡ true →
      IfSome o (λ found. Any (λ r. (r.point ≡ p) × (r.ratios.items ≡ found.now)) xs) →
      HasRatios xs p
  known-of (Some found) xs p some h = (h.0, h.1, h.2, h.3, h.4.0)
  known-of None xs p some h = absurd (false≢true some)

  -- and is right
  pub right-of : {F : Type 0} (l : FieldOps E) (embed : F → E) (points : List (Coordinates F))
      (all : List (PointRatios E)) (p : E) (ratios : List E) →
      All (AreRatiosOf l embed points) all →
      Any (λ r. (r.point ≡ p) × (r.ratios.items ≡ ratios)) all →
      ratios ≡ map (vanishing_ratio l embed (from_line l p)) points
  right-of l embed points all p ratios right found =
      sym found.4.1 ∙ subst (AreRatiosOf l embed points) found.3 (right found.0 found.1 found.2)
      ∙ ap (λ t. map (vanishing_ratio l embed (from_line l t)) points) found.4.0

-- what is told of some value
pub of-some : {A : Type 0} (o : Option A) (P : Type 0) → is_some o ≡ true → IfSome o (λ a. P) → P
of-some (Some a) P some told = told
of-some None P some told = absurd (false≢true some)

-- what holds of those below a place, and of the one there, holds of those below the next
pub below-more : {A : Type 0} (P : A → Type 0) (xs : List A) (i : ℕ) (x : A) → i < length xs →
    x ≡ slice_index_or xs i x →
    ((j : ℕ) (d : A) → j < i → P (slice_index_or xs j d)) → P x → (j : ℕ) (d : A) → j < i + 1 →
    P (slice_index_or xs j d)
below-more P xs i x within is before here j d below =
    ⊎_elim (before j d)
    (λ past. let same : j ≡ i = omega (arith, below, past) in
    subst (λ k. P (slice_index_or xs k d)) (sym same)
    (subst P (is ∙ get_or_default xs i x d within) here)) (cases_lt j i)

-- the weights that were found for a matrix's height and a point are right
pub weights-for : {F E : Type 0} {over g : _} (m : MatrixAtPoints F E over g) (blowup : ℕ)
    (p : OpeningPoint E g) (w : PointWeights F E over) (lent : Bor (LagrangeWeights E)) →
    IsFor blowup m.log_height p.coordinate w → w.weights ≡ lent.now → AreWeightsFor m blowup p lent
weights-for m blowup p w lent found same = record {
  count = ap (λ s. length s.shares.items) (sym same) ∙ w.count
      ∙ ap (λ b. 2 ^ (w.log_height - b)) found.0 ∙ ap (λ h. 2 ^ (h - blowup)) found.1;
  sum =
      subst (AreWeightsOf (fields_at m) blowup m.log_height p.coordinate) same
      (subst (λ t. AreWeightsOf (fields_at m) blowup m.log_height t w.weights) found.2
      (subst (λ h. AreWeightsOf (fields_at m) blowup h w.point w.weights) found.1
      (subst (λ b. AreWeightsOf (fields_at m) b w.log_height w.point w.weights) found.0 w.right)));
}
