-- What evaluations on a domain say of the polynomials with their values.
use Rattle.std.specs.Prelude.{ℕ, List}
use Rattle.std.specs.Borrow.{Bor}
use Rattle.std.specs.List.{AllZip}
use Rattle.circle_field.specs.Field.{FieldOps}
use Rattle.circle_field.specs.Circle.{Coordinates}
use Rattle.circle_domain.specs.Lagrange.{AreWeightsAt}
use Rattle.circle_domain.specs.declared.domain.CircleDomain.{CircleDomain}
use Rattle.circle_domain.specs.declared.lagrange.LagrangeWeights.{LagrangeWeights}
use Rattle.circle_plane.specs.Coefficients.{AreValuesAt, AreValuesBy, AreValuesOfAll, Extrapolates}
use Rattle.circle_plane.specs.declared.cfft.CircleEvaluations.{CircleEvaluations}

module _ {F M : Type 0} {g h : _} (k : FieldOps F) (gen : ℕ → Coordinates F) (width : M → ℕ)
    (rows : M → List (List F)) where
  -- their polynomials' values on a larger domain, in the transform's order
  abbrev pub AreExtrapolated :
      CircleEvaluations F M g h → CircleDomain F g → List (List F) → Type 0
  AreExtrapolated e target made =
      Extrapolates k gen e.domain target (width e.values) (rows e.values) made

module _ {F M E : Type 0} {g h : _} (k : FieldOps F) (gen : ℕ → Coordinates F) (l : FieldOps E)
    (embed : F → E) (width : M → ℕ) (rows : M → List (List F)) (e : CircleEvaluations F M g h) where
  -- the values of their polynomials at a point
  abbrev pub AreFoundAt : Coordinates E → List E → Type 0
  AreFoundAt p found =
      AreValuesAt k gen l embed p e.domain (width e.values) (rows e.values) found

  -- those of all polynomials that have their values
  abbrev pub AreOfAllAt : Coordinates E → List E → Type 0
  AreOfAllAt p found =
      AreValuesOfAll k gen l embed p e.domain (width e.values) (rows e.values) found

  -- the values at any point whose Lagrange polynomials these are
  abbrev pub AreFoundBy : LagrangeWeights E → List E → Type 0
  AreFoundBy weights found =
      AreValuesBy k gen l embed e.domain (width e.values) (rows e.values) weights found

  abbrev pub AreOfAllBy : LagrangeWeights E → List E → Type 0
  AreOfAllBy weights found =
      (p : Coordinates E) → AreWeightsAt k gen l embed e.domain p weights → AreOfAllAt p found

  -- and for each of several
  abbrev pub AreFoundByEach : List (Bor (LagrangeWeights E)) → List (List E) → Type 0
  AreFoundByEach weights all = AllZip (λ w found. AreFoundBy w.now found) weights all
