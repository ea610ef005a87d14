-- Committed matrices of low degree, and claims on them that are true.
use Rattle.std.specs.Prelude.{◌≡◌, ℕ, ◌-◌, ◌^◌, List, length, map, All}
use Rattle.circle_domain.specs.Selectors.{IsFinite}
use Rattle.circle_domain.specs.Values.{values_at, lifted_values_at}
use Rattle.circle_folding.specs.Queries.{IsApart}
use Rattle.circle_point.specs.Projective.{from_line}
use Rattle.circle_relation.specs.Accepts.{Fields}
use Rattle.circle_relation.specs.Statement.{PointClaim}
use Rattle.circle_codewords.specs.Ratios.{points_of_height}
use Rattle.circle_codewords.specs.Words.{Committed}

module _ {F E : Type 0} (k : Fields F E) (blowup : ℕ) (m : Committed F E) where
  -- 2^(h - blowup) coefficients of each column's polynomial, a row for each index: on the standard
  -- domain of 2^h points, in the transform's order, their values are the rows of the matrix
  pub record AreColumns (width : ℕ) (coeffs : List (List F)) : Type 0 where
    pub count : length coeffs ≡ 2 ^ (m.log_height - blowup)
    pub values :
        map (values_at k.field coeffs width) (points_of_height k.field k.gen m.log_height) ≡ m.rows

  -- the values of these polynomials, at a point that is neither at infinity nor on that domain
  pub record IsTrueClaim (width : ℕ) (coeffs : List (List F)) (c : PointClaim E) : Type 0 where
    pub finite : IsFinite k.extension c.point
    pub apart :
        IsApart k.embed (points_of_height k.field k.gen m.log_height)
        (from_line k.extension c.point)
    pub values :
        c.values ≡ lifted_values_at k.field.zero k.extension k.embed coeffs width
        (from_line k.extension c.point)

  -- the matrix's columns are the values of polynomials with 2^(h - blowup) coefficients, and what
  -- is claimed of it are their values
  pub record IsTrue : Type 0 where
    pub width : ℕ
    pub coeffs : List (List F)
    pub columns : AreColumns width coeffs
    pub claims : All (IsTrueClaim width coeffs) m.claims
