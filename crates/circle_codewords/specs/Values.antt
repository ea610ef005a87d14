-- When a committed matrix can be opened at points, and what it is opened to: the values of the
-- polynomials that its first rows fix.
use Rattle.std.specs.Prelude.{◌≡◌, ℕ, ◌+◌, ◌-◌, ◌^◌, ◌<◌, ◌≤◌, List, [], length, take, All}
use Rattle.std.specs.Prelude.{slice_index_or}
use Rattle.std.specs.Coded.{Coded, Coded-set, Π_prop, →_prop}
use Rattle.circle_field.specs.Field.{FieldOps}
use Rattle.circle_field.specs.Circle.{Coordinates}
use Rattle.circle_commit.specs.RowMajorMatrix.{rows, width_of, height_of}
use Rattle.circle_commit.specs.declared.matrix.RowMajorMatrix.{RowMajorMatrix}
use Rattle.circle_domain.specs.Clear.{IsClearOf}
use Rattle.circle_domain.specs.Lagrange.{AreLagrangeWeights}
use Rattle.circle_domain.specs.Order.{cfft_order, natural_order}
use Rattle.circle_domain.specs.Values.{HasValues, lifted_values_at}
use Rattle.circle_domain.specs.declared.lagrange.LagrangeWeights.{LagrangeWeights}
use Rattle.circle_domain.specs.Selectors.{IsFinite}
use Rattle.circle_point.specs.Projective.{from_line}
use Rattle.circle_relation.specs.Accepts.{Fields}

-- the points of the standard domain of 2^h points
abbrev pub domain_points : {F : Type 0} → FieldOps F → (ℕ → Coordinates F) → ℕ
    → List (Coordinates F)
domain_points k gen h = natural_order k gen h (gen (h + 1))

module _ {F E : Type 0} (k : FieldOps F) (gen : ℕ → Coordinates F) (l : FieldOps E) (embed : F → E)
    (h : ℕ) where
  -- a point, by its coordinate on the projective line, that a standard domain of 2^h points is
  -- clear of
  abbrev pub IsOffStandard : E → Type 0
  IsOffStandard t = IsClearOf l embed (domain_points k gen h) (from_line l t)

  -- none of the points is at infinity, and the domain is clear of each
  abbrev pub AreOffStandard : List E → Type 0
  AreOffStandard points = All (IsFinite l) points × All IsOffStandard points

module _ {F E : Type 0} (k : Fields F E) where
  -- the same by the fields
  abbrev pub IsOffDomain : ℕ → E → Type 0
  IsOffDomain = IsOffStandard k.field k.gen k.extension k.embed

  abbrev pub AreOff : ℕ → List E → Type 0
  AreOff = AreOffStandard k.field k.gen k.extension k.embed

  -- a matrix of 2^h rows can be opened at points: the domain of its rows is clear of them
  pub record CanBeOpened (h : ℕ) (m : RowMajorMatrix F) (points : List E) : Type 0 where
    pub positive : 1 ≤ h
    pub in_group : h < k.two_adicity
    pub rows : height_of m ≡ 2 ^ h
    pub off : AreOff h points

  module _ (blowup : ℕ) where
    -- the Lagrange polynomials, at a point, of the first points of the domain of 2^h points, as
    -- many as are left without the blowup
    abbrev pub AreWeightsOf : ℕ → E → LagrangeWeights E → Type 0
    AreWeightsOf h t weights =
        AreLagrangeWeights k.extension k.embed k.field (h - blowup)
        (cfft_order k.field k.gen (h - blowup) (k.gen (h + 1))) (from_line k.extension t)
        weights.shares.items weights.scale

    pub AreWeightsOf-prop : Coded E → (h : ℕ) (t : E) (weights : LagrangeWeights E)
        → IsProp (AreWeightsOf h t weights)
    AreWeightsOf-prop code h t weights = Π_prop (λ coeffs. →_prop (Coded-set code _ _))

    -- at a point the values of the polynomials that the first rows of a matrix of 2^h rows fix
    pub record OpensTo (h : ℕ) (m : RowMajorMatrix F) (t : E) (values : List E) : Type 0 where
      pub coeffs : List (List F)
      pub told :
          HasValues k.field k.gen (h - blowup) (k.gen (h + 1)) (width_of m) coeffs
          (take (2 ^ (h - blowup)) (rows m))
      pub at_point :
          values ≡ lifted_values_at k.field.zero k.extension k.embed coeffs (width_of m)
          (from_line k.extension t)

-- so at each of the points
abbrev pub AreOpened : {F E : Type 0} → Fields F E → ℕ → ℕ → RowMajorMatrix F → List E
    → List (List E) → Type 0
AreOpened k blowup h m points values = (i : ℕ) (t : _) → i < length points →
    OpensTo k blowup h m (slice_index_or points i t) (slice_index_or values i [])
