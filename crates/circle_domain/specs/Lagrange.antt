-- The Lagrange polynomials of a domain: values at its points add up to the value at any point.
-- Circle STARKs (ePrint 2024/278), section 4.3.
use Rattle.std.specs.Prelude.{◌≡◌, ℕ, ◌^◌, List, [], ◌∷◌, length, map}
use Rattle.std.proofs.Common.{zero, suc}
use Rattle.circle_field.specs.Field.{FieldOps, sub}
use Rattle.circle_field.specs.Circle.{Coordinates}
use Rattle.circle_commit.specs.DotProduct.{dot}
use Rattle.circle_point.specs.Basis.{value}
use Rattle.circle_domain.specs.Domain.{log_size, cfft_points_of}
use Rattle.circle_domain.specs.Layers.{factor}
use Rattle.circle_domain.specs.declared.domain.CircleDomain.{CircleDomain}
use Rattle.circle_domain.specs.declared.lagrange.LagrangeWeights.{LagrangeWeights}

module _ {F : Type 0} (k : FieldOps F) where
  -- the Lagrange polynomial of the point p of a domain of 2^m points, at q: the product of
  -- (b(p) + b(q)) / (2 b(p)) over the factors b of the halves, which p and its other half have of
  -- opposite signs
  abbrev pub lagrange_at : ℕ → Coordinates F → Coordinates F → F
  lagrange_at zero q p = k.one
  lagrange_at (suc m) q p =
      k.mul (lagrange_at m q p)
      (k.mul (k.add (factor k m p) (factor k m q)) (k.inv (k.add (factor k m p) (factor k m p))))

  -- for each point p its share (y_p + y_q) / (x_p - x_q), and its opposite's, which is
  -- (y_p - y_q) / (x_p - x_q)
  abbrev pub shares : Coordinates F → List (Coordinates F) → List F
  shares q [] = []
  shares q (p ∷ ps) =
      k.mul (k.add p.y q.y) (k.inv (sub k p.x q.x))
      ∷ k.mul (sub k p.y q.y) (k.inv (sub k p.x q.x)) ∷ shares q ps

module _ {F E : Type 0} (l : FieldOps E) (embed : F → E) where
  -- how far the x coordinate of p is from that of q
  abbrev pub x_difference : Coordinates E → Coordinates F → E
  x_difference q p = sub l (embed p.x) q.x

  -- of each polynomial of 2^n coefficients, its values at the points, each times the point's share,
  -- add up to its value at q once they are multiplied by the scale
  abbrev pub AreLagrangeWeights :
      FieldOps F → ℕ → List (Coordinates F) → Coordinates E → List E → E → Type 0
  AreLagrangeWeights k n points q shares scale =
      (coeffs : List F) → length coeffs ≡ 2 ^ n →
      l.mul (dot l shares (map embed (map (value k coeffs) points))) scale
      ≡ value l (map embed coeffs) q

module _ {F E : Type 0} {g : _} (k : FieldOps F) (gen : ℕ → Coordinates F)
    (l : FieldOps E) (embed : F → E) where
  -- these are the Lagrange polynomials of a domain's points at a point
  abbrev pub AreWeightsAt : CircleDomain F g → Coordinates E → LagrangeWeights E → Type 0
  AreWeightsAt d q weights =
      AreLagrangeWeights l embed k (log_size d) (cfft_points_of k gen d) q weights.shares.items
      weights.scale
