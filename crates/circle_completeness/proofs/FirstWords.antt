-- The codewords of the first layer, entry by entry, and the rows of the matrices that hold them.
use Rattle.std.specs.Prelude.{◌≡◌, ℕ, ◌+◌, ◌-◌, ◌/◌, ◌^◌, ◌<◌, ◌≤◌, List, [], ◌∷◌, length, map, All}
use Rattle.std.specs.Prelude.{slice_index_or}
use Rattle.std.proofs.Common.{refl, sym, ◌∙◌, ap, arith}
use Rattle.std.proofs.lemmas.List.{length-map, get_or-map}
use Rattle.std.proofs.lemmas.List.FromFn.{length-map-range_with_len, get_or-map-range_with_len}
use Rattle.circle_field.specs.Field.{FieldOps, sub}
use Rattle.circle_field.specs.Circle.{Coordinates, origin}
use Rattle.circle_point.specs.Basis.{vanishing}
use Rattle.circle_commit.specs.Mmcs.{dimensions_of, max_height, row_at, rows_at}
use Rattle.circle_commit.specs.MmcsFacts.{row_at-powers}
use Rattle.circle_commit.specs.RowMajorMatrix.{height_of, length-rows, rows, width_of}
use Rattle.circle_commit.specs.declared.matrix.RowMajorMatrix.{RowMajorMatrix}
use Rattle.circle_commit.proofs.ColumnSums.{map-agree}
use Rattle.circle_commit.proofs.Written.{length-pairwise, pairwise-read}
use Rattle.circle_domain.specs.Order.{coset, with_opposites}
use Rattle.circle_domain.proofs.Orders.{two_halves}
use Rattle.circle_domain.proofs.Twiddles.{length-coset, map-map}
use Rattle.circle_folding.specs.Lambda.{vanishing_values}
use Rattle.circle_relation.specs.Sums.{reduced}
use Rattle.circle_relation.specs.Accepts.{Fields}
use Rattle.circle_codewords.specs.Ratios.{points_of_height}
use Rattle.circle_codewords.specs.Words.{Committed, HaveHeights, claims_at, corrected_word, lambda}
use Rattle.circle_codewords.specs.Words.{reduced_word}
use Rattle.circle_completeness.proofs.FirstPlaces.{half-place}

-- twice as many points with their opposites
length-opposites : {F : Type 0} (k : FieldOps F) (qs : List (Coordinates F)) →
    length (with_opposites k qs) ≡ length qs + length qs
length-opposites k [] = refl
length-opposites k (q ∷ qs) = let e = length-opposites k qs in omega (arith, e)

module _ {F E : Type 0} (k : Fields F E) (alpha : E) (ms : List (Committed F E)) (blowup h : ℕ)
    (positive : 1 ≤ h) where
  abbrev points : List (Coordinates F)
  points = points_of_height k.field k.gen h

  length-points : length points ≡ 2 ^ h
  length-points =
      let half = coset k.field k.gen (h - 1) (k.gen (h + 1)) in
      length-opposites k.field half
      ∙ (let e : length half + length half ≡ 2 ^ h =
      omega (
        arith,
        length-coset k.field k.gen (h - 1) (k.gen (h + 1)),
        two_halves h positive,
      ) in e)

  abbrev at : ℕ → E
  at i = reduced k.extension k.embed alpha 0 (slice_index_or points i (origin k.field))
      (claims_at h ms i)

  abbrev vanishing_at : Coordinates F → E
  vanishing_at q = k.embed (vanishing k.field (h - blowup) q)

  abbrev values : List E
  values = vanishing_values k.field k.gen k.extension k.embed blowup h

  length-reduced : length (reduced_word k alpha ms h) ≡ 2 ^ h
  length-reduced = length-map-range_with_len at 0 (2 ^ h)

  length-values : length values ≡ 2 ^ h
  length-values = length-map points vanishing_at ∙ length-points

  abbrev less : E → E → E
  less a v = sub k.extension a (k.extension.mul (lambda k alpha ms blowup h) v)

  -- a codeword of a height without its lambda
  pub length-corrected : length (corrected_word k alpha ms blowup h) ≡ 2 ^ h
  length-corrected =
      length-pairwise less (reduced_word k alpha ms h) values (length-reduced ∙ sym length-values)
      ∙ length-reduced

  pub corrected-read : (i : ℕ) → i < 2 ^ h →
      slice_index_or (corrected_word k alpha ms blowup h) i k.extension.zero
      ≡ less (at i) (vanishing_at (slice_index_or points i (origin k.field)))
  corrected-read i lt =
      let zero = k.extension.zero in
      let first : slice_index_or (reduced_word k alpha ms h) i zero ≡ at i =
      get_or-map-range_with_len at 0 (2 ^ h) i i zero lt (omega arith) in
      let second : slice_index_or values i zero ≡ vanishing_at
      (slice_index_or points i (origin k.field)) =
      get_or-map vanishing_at points i (origin k.field) zero (omega (arith, lt, length-points)) in
      pairwise-read less (reduced_word k alpha ms h) values i zero zero zero
      (omega (arith, lt, length-reduced)) (omega (arith, lt, length-values))
      ∙ ap (λ a. less a (slice_index_or values i zero)) first ∙ ap (less (at i)) second

-- the heights of matrices
rows-listed : {T : Type 0} (ms : List (RowMajorMatrix T)) → map (λ rs. length rs) (map rows ms)
    ≡ map height_of ms
rows-listed [] = refl
rows-listed (m ∷ ms) = ap (λ n. n ∷ map (λ rs. length rs) (map rows ms)) (length-rows m)
    ∙ ap (λ ns. height_of m ∷ ns) (rows-listed ms)

-- matrices of two columns whose rows are those of some layers, each of half as many rows as its
-- height
module _ {T : Type 0} (kept : List (RowMajorMatrix T)) (hs : List ℕ) (layer : ℕ → List (List T))
    (are : map rows kept ≡ map layer hs) where
  module _ (wide : All (λ m. width_of m ≡ 2) kept)
      (long : All (λ h. length (layer h) ≡ 2 ^ (h - 1)) hs) where
    abbrev size : ℕ → ℕ
    size h = 2 ^ (h - 1)

    heights-are : map height_of kept ≡ map size hs
    heights-are =
        sym (rows-listed kept) ∙ ap (map (λ rs. length rs)) are ∙ map-map (λ rs. length rs) layer hs
        ∙ map-agree (λ h. length (layer h)) size hs long

    pub have-heights : HaveHeights hs kept
    have-heights = record {
      count = sym (length-map kept rows) ∙ ap length are ∙ length-map hs layer;
      width = wide;
      height = heights-are;
    }

    -- their shapes
    pub shapes-are : dimensions_of kept ≡ map (λ h. record { width = 2; height = 2 ^ (h - 1) }) hs
    shapes-are =
        map-agree (λ m. record { width = width_of m; height = height_of m })
        (λ m. record { width = 2; height = height_of m }) kept
        (λ i d lt. ap (λ w. record { width = w; height = height_of (slice_index_or kept i d) })
        (wide i d lt))
        ∙ sym (map-map (λ n. record { width = 2; height = n }) height_of kept)
        ∙ ap (map (λ n. record { width = 2; height = n })) heights-are
        ∙ map-map (λ n. record { width = 2; height = n }) size hs

    -- their rows at half of a query, where the query's places are
    module _ (top : ℕ) (highest : max_height kept ≡ 2 ^ (top - 1))
        (within : All (λ h. (1 ≤ h) × (h ≤ top)) hs) where
      pub rows-are : (q : ℕ) → rows_at kept (q / 2)
          ≡ map (λ h. slice_index_or (layer h) (q / 2 ^ (top - h) / 2) []) hs
      rows-are q =
          let i = q / 2 in
          let most = max_height kept in
          let here = λ (rs : List (List T)). slice_index_or rs (row_at most (length rs) i) [] in
          map-agree (λ m. slice_index_or (rows m) (row_at most (height_of m) i) [])
          (λ m. here (rows m)) kept
          (λ j d lt. let m = slice_index_or kept j d in
          ap (λ n. slice_index_or (rows m) (row_at most n i) []) (sym (length-rows m)))
          ∙ sym (map-map here rows kept)
          ∙ ap (map here) are
          ∙ map-map here layer hs
          ∙ map-agree (λ h. here (layer h))
          (λ h. slice_index_or (layer h) (q / 2 ^ (top - h) / 2) []) hs
          (λ j d lt.
          let h = slice_index_or hs j d in
          let fits = within j d lt in
          ap (λ n. slice_index_or (layer h) n [])
          (ap (λ n. row_at most n i) (long j d lt)
          ∙ ap (λ n. row_at n (size h) i) highest
          ∙ row_at-powers (top - 1) (h - 1) i (omega (arith, fits.1))
          ∙ half-place q (top - 1 - (h - 1)) (top - h) (omega (arith, fits.0))))
