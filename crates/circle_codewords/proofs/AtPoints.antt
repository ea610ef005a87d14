-- Points that matrices are opened at, by their coordinates.
use Rattle.std.specs.Prelude.{ℕ, ◌+◌, ◌≤◌, List, [], ◌∷◌, map, All, slice_index_or}
use Rattle.std.specs.List.{AllZip}
use Rattle.std.proofs.Common.{suc, sym, subst, arith}
use Rattle.std.proofs.lemmas.List.{get_or-map, length-map}
use Rattle.std.proofs.lemmas.List.Elements.{All-map}
use Rattle.circle_field.specs.Field.{FieldOps, FieldLaws, IsEmbedding}
use Rattle.circle_field.specs.Circle.{AreGenerators, Coordinates}
use Rattle.circle_domain.specs.Clear.{IsClearOf}
use Rattle.circle_domain.specs.Selectors.{IsFinite}
use Rattle.circle_domain.specs.Order.{cfft_order}
use Rattle.circle_folding.specs.Queries.{IsApart}
use Rattle.circle_point.specs.Point.{coordinates}
use Rattle.circle_codewords.specs.Points.{coordinates_of}
use Rattle.circle_codewords.specs.Values.{AreOffStandard, IsOffStandard, domain_points}
use Rattle.circle_codewords.specs.declared.points.OpeningPoint.{OpeningPoint}
use Rattle.circle_codewords.proofs.Prefix.{clear-apart}

-- what is known of all that elements become
pub All-unmap : {X Y : Type 0} (P : Y → Type 0) (f : X → Y) (xs : List X) → All P (map f xs) →
    All (λ x. P (f x)) xs
All-unmap P f xs all = λ i d lt.
    subst P (get_or-map f xs i d (f d) lt) (all i (f d) (omega (arith, lt, length-map xs f)))

pub AllZip-onto : {X Y Z : Type 0} (R : Y → Z → Type 0) (f : X → Y) (xs : List X) (zs : List Z) →
    AllZip (λ x z. R (f x) z) xs zs → AllZip R (map f xs) zs
AllZip-onto R f [] [] all = tt
AllZip-onto R f [] (z ∷ zs) all = absurd all
AllZip-onto R f (x ∷ xs) [] all = absurd all
AllZip-onto R f (x ∷ xs) (z ∷ zs) all = (all.0, AllZip-onto R f xs zs all.1)

-- the domain of a height is clear of a point
abbrev pub IsClear : {F E : Type 0} {g : _} → FieldOps F → (F → E) → (ℕ → Coordinates F) → ℕ
    → OpeningPoint E g → Type 0
IsClear {g = g} k m gen h p = IsClearOf g.ops m (domain_points k gen h) (coordinates p.point)

module _ {F E : Type 0} {g : _} (k : FieldOps F) (m : F → E) (gen : ℕ → Coordinates F) (h : ℕ)
    (points : List (OpeningPoint E g)) where
  -- a domain that is clear of each point, by their coordinates
  pub clear-off : All (IsClear k m gen h) points →
      AreOffStandard k gen g.ops m h (coordinates_of points)
  clear-off clear = (
    All-map (IsFinite g.ops) (λ p. p.coordinate) points
        (λ i d lt. (slice_index_or points i d).finite),
    All-map (IsOffStandard k gen g.ops m h) (λ p. p.coordinate) points (λ i d lt.
        subst (IsClearOf g.ops m (domain_points k gen h)) (slice_index_or points i d).at
        (clear i d lt)),
  )

  pub off-clear : All (IsOffStandard k gen g.ops m h) (coordinates_of points) →
      All (IsClear k m gen h) points
  off-clear off = λ i d lt.
      subst (IsClearOf g.ops m (domain_points k gen h)) (sym (slice_index_or points i d).at)
      (All-unmap (IsOffStandard k gen g.ops m h) (λ p. p.coordinate) points off i d lt)

  -- none of them is a point of the domain
  pub off-points : FieldLaws k → IsEmbedding k g.ops m → {bits : ℕ} → AreGenerators k bits gen →
      1 ≤ h → h ≤ suc bits → All (IsOffStandard k gen g.ops m h) (coordinates_of points) →
      All (λ p. IsApart m (cfft_order k gen h (gen (h + 1))) (coordinates p.point)) points
  off-points laws embedding gens positive fits off = λ i d lt.
      clear-apart laws g.laws embedding gens h (gen (h + 1))
      (coordinates (slice_index_or points i d).point) positive fits
      (slice_index_or points i d).point.on_circle (off-clear off i d lt)
