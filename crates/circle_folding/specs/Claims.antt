-- Claims of values at a point off a domain, and what binds them: their quotients. Circle STARKs
-- (ePrint 2024/278), section 6.
use Rattle.std.specs.Prelude.{◌≡◌, ◌≢◌, ℕ, ◌+◌, ◌-◌, ◌^◌, ◌<◌, List, [], ◌∷◌, length, map, All}
use Rattle.std.specs.Prelude.{slice_index_or}
use Rattle.circle_field.specs.Field.{FieldOps}
use Rattle.circle_field.specs.Circle.{Coordinates}
use Rattle.circle_point.specs.Basis.{value}
use Rattle.circle_commit.specs.Matrix.{column}
use Rattle.circle_domain.specs.Order.{natural_order}
use Rattle.circle_domain.specs.Spans.{HasValues, Span}
use Rattle.circle_folding.specs.Queries.{claim_quotients, IsApart}
use Rattle.circle_folding.specs.WideSpans.{wide_value, standard_points, HasWideValues, WideSpan}

-- no two entries are the same
abbrev pub AreDistinct : {E : Type 0} → List E → Type 0
AreDistinct [] = Unit {0}
AreDistinct (x ∷ xs) = All (λ y. y ≢ x) xs × AreDistinct xs

-- z is none of the points of the standard domain of 2^n points
abbrev pub IsOffStandard : {F E : Type 0} →
    FieldOps F → (ℕ → Coordinates F) → (F → E) → ℕ → Coordinates E → Type 0
IsOffStandard k gen embed size z =
    (h : ℕ) → size ≡ 2 ^ h → IsApart embed (natural_order k gen h (gen (h + 1))) z

module _ {F E : Type 0} (k : FieldOps F) (gen : ℕ → Coordinates F) (l : FieldOps E)
    (embed : F → E) where
  -- at each of the 2^h points the quotient of its row under values that are claimed at z
  abbrev pub row_quotients : ℕ → E → Coordinates E → List (List E) → List E → List E
  row_quotients h alpha z rows values =
      claim_quotients l (λ r. r) alpha (standard_points k gen l embed h) z rows values

  -- likewise for a codeword, as rows of one entry, under one value
  abbrev pub word_quotients : ℕ → E → Coordinates E → List E → E → List E
  word_quotients h alpha z word v = row_quotients h alpha z (map (λ w. w ∷ []) word) (v ∷ [])

  -- only one polynomial with 2^n coefficients has the codeword for values, and v is its value at z
  abbrev pub IsValueOfOnly : ℕ → ℕ → List E → Coordinates E → E → Type 0
  IsValueOfOnly n h word z v =
      (c : List E) × HasValues k gen l embed n h (gen (h + 1)) word c × (v ≡ value l c z)
      × ((d : List E) → HasValues k gen l embed n h (gen (h + 1)) word d → d ≡ c)

  -- only one such polynomial and one multiple of v_n add up to the codeword, and v is their value
  -- at z
  abbrev pub IsWideValueOfOnly : ℕ → ℕ → List E → Coordinates E → E → Type 0
  IsWideValueOfOnly n h word z v =
      (c : List E) × (a : E) × HasWideValues k gen l embed n h word c a
      × (v ≡ wide_value l n c a z)
      × ((d : List E) (b : E) → HasWideValues k gen l embed n h word d b → (d ≡ c) × (b ≡ a))

  -- likewise for each column of a matrix and its value
  abbrev pub AreWideValuesOfOnly : ℕ → ℕ → List (List E) → Coordinates E → List E → Type 0
  AreWideValuesOfOnly n h rows z values =
      (j : ℕ) → j < length values
      → IsWideValueOfOnly n h (column l.zero rows j) z (slice_index_or values j l.zero)

  -- of a codeword of 2^h entries, n being h less the blowup's logarithm: if it is the values of a
  -- polynomial with 2^n coefficients, and its quotients under v, claimed at z, are those of one
  -- plus a multiple of v_n, then v is the value at z of the codeword's only polynomial
  abbrev pub BindsValue : ℕ → E → Coordinates E → List E → E → Type 0
  BindsValue blowup alpha z word v =
      (h : ℕ) → length word ≡ 2 ^ h → Span k gen l embed (h - blowup) h (gen (h + 1)) word
      → WideSpan k gen l embed (h - blowup) h (word_quotients h alpha z word v)
      → IsValueOfOnly (h - blowup) h word z v

  -- of 2^h rows: if for each of these challenges the rows' quotients, under values claimed at z,
  -- are the values of a polynomial with 2^n coefficients plus a multiple of v_n, then each column
  -- is the values of only one polynomial plus only one multiple, and its value is theirs at z
  abbrev pub BindsValues : ℕ → List E → Coordinates E → List (List E) → List E → Type 0
  BindsValues blowup alphas z rows values =
      (h : ℕ) → length rows ≡ 2 ^ h
      → All (λ alpha. WideSpan k gen l embed (h - blowup) h
      (row_quotients h alpha z rows values)) alphas
      → AreWideValuesOfOnly (h - blowup) h rows z values
