-- The heights of matrices.
use Rattle.std.specs.Prelude.{◌≡◌, ℕ, ◌+◌, ◌-◌, ◌/◌, ◌^◌, ◌<◌, ◌≤◌, List, [], ◌∷◌, ◌++◌, length}
use Rattle.std.specs.Prelude.{max, take, All}
use Rattle.std.proofs.Common.{sym, ap, subst, ◌∙◌, arith, get_or}
use Rattle.std.proofs.lemmas.List.{length-map, map-append, take_more}
use Rattle.std.proofs.lemmas.List.Elements.{All-map}
use Rattle.std.proofs.lemmas.Nat.{shr_below, pow_pos}
use Rattle.circle_commit.specs.Matrix.{IsPowerOfTwo}
use Rattle.circle_commit.specs.declared.matrix.Dimensions.{Dimensions}
use Rattle.circle_commit.specs.declared.matrix.RowMajorMatrix.{RowMajorMatrix}
use Rattle.circle_commit.specs.RowMajorMatrix.{width_of, height_of}
use Rattle.circle_commit.specs.Mmcs.{greatest, heights, row_at, dimensions_of, max_height}
use Rattle.circle_commit.specs.MmcsFacts.{row_at-powers}
use Rattle.circle_merkle.proofs.Fits.{greatest-append, greatest-power}
use Rattle.circle_merkle.proofs.Powers.{exponent_within}
use Rattle.circle_merkle.proofs.Completeness.{heights-bounded}

module _ {T : Type 0} (matrices : List (RowMajorMatrix T)) where
  -- the greatest height of one matrix more
  pub max-more : (i : ℕ) (m : RowMajorMatrix T) → i < length matrices → m ≡ get_or matrices i m →
      max_height (take (i + 1) matrices) ≡ max (height_of m) (max_height (take i matrices))
  max-more i m lt e =
      ap max_height (take_more matrices i m lt ∙ ap (λ x. take i matrices ++ x ∷ []) (sym e))
      ∙ ap (λ ds. greatest (heights ds))
      (map-append (λ m. record { width = width_of m; height = height_of m }) (take i matrices)
      (m ∷ []))
      ∙ ap greatest (map-append (λ (dim : Dimensions). dim.height) (dimensions_of (take i matrices))
      (record { width = width_of m; height = height_of m } ∷ []))
      ∙ greatest-append (heights (dimensions_of (take i matrices))) (height_of m)

  -- the greatest height is a power of two
  pub max-power : 1 ≤ length matrices → All (λ m. IsPowerOfTwo (height_of m)) matrices →
      IsPowerOfTwo (max_height matrices)
  max-power some powers =
      let count : length (dimensions_of matrices) ≡ length matrices =
      length-map matrices (λ m. record { width = width_of m; height = height_of m }) in
      greatest-power (dimensions_of matrices) (omega arith)
      (All-map (λ (dim : Dimensions). IsPowerOfTwo dim.height)
      (λ m. record { width = width_of m; height = height_of m }) matrices powers)

  pub bounded-at : (k : ℕ) (m : RowMajorMatrix T) → k < length matrices → m ≡ get_or matrices k m →
      height_of m ≤ max_height matrices
  bounded-at k m lt e =
      subst (λ h. h ≤ max_height matrices) (sym (ap height_of e)) (heights-bounded matrices k m lt)

  module _ (powers : All (λ m. IsPowerOfTwo (height_of m)) matrices) (k : ℕ) (m : RowMajorMatrix T)
      (lt : k < length matrices) (e : m ≡ get_or matrices k m) where
    pub power-at : IsPowerOfTwo (height_of m)
    power-at = let power = powers k m lt in (power.0, ap height_of e ∙ power.1)

    pub positive-at : 0 < height_of m
    positive-at = let power = power-at in omega (arith, power.1, pow_pos power.0)

    -- the row at an index is one of the matrix
    pub row-at : (index : ℕ) → index < max_height matrices →
        row_at (max_height matrices) (height_of m) index < height_of m
    row-at index below =
        let power = power-at in
        let top = max-power (omega arith) powers in
        let le : power.0 ≤ top.0 = exponent_within
        power.0 top.0 (omega (arith, bounded-at k m lt e, power.1, top.1)) in
        let same : row_at (max_height matrices) (height_of m) index ≡ index / 2 ^
        (top.0 - power.0) =
        ap (λ t. row_at t (height_of m) index) top.1 ∙ ap (λ n. row_at (2 ^ top.0) n index) power.1
        ∙ row_at-powers top.0 power.0 index le in
        let whole : 2 ^ top.0 ≡ 2 ^ (power.0 + (top.0 - power.0)) =
        (let s : top.0 ≡ power.0 + (top.0 - power.0) = omega arith in ap (λ k. 2 ^ k) s) in
        omega (
          arith,
          same,
          shr_below index power.0 (top.0 - power.0) (omega (arith, below, top.1, whole)),
          power.1,
        )
