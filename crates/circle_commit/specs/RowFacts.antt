-- What follows of lists of rows: how many there are, how long they are, and which stands at an
-- index.
use Rattle.std.specs.Prelude.{◌≡◌, ℕ, ◌+◌, ◌*◌, ◌<◌, ◌≤◌, List, [], ◌∷◌, ◌++◌, length, map, All}
use Rattle.std.specs.Prelude.{Some, slice_get, slice_index_or, take, drop}
use Rattle.std.proofs.Common.{zero, suc, sym, ◌∙◌, ap, refl, arith, length-drop}
use Rattle.std.proofs.lemmas.List.{drop-drop, drop-take, take-take, take-append-le, drop-append-le}
use Rattle.std.proofs.lemmas.List.{length-take-le}
use Rattle.std.proofs.lemmas.Option.{slice_get-get_or, get_or_from_slice_get}
use Rattle.std.proofs.lemmas.List.FromFn.{length-map-range_with_len, get_or-map-range_with_len}
use Rattle.circle_commit.specs.Matrix.{rows_from, mapped_rows}

module _ {T : Type 0} where
  pub length-rows_from : (width height : ℕ) (entries : List T) →
      length (rows_from width height entries) ≡ height
  length-rows_from width zero entries = refl
  length-rows_from width (suc height) entries =
      ap suc (length-rows_from width height (drop width entries))

  -- row r has the entries from r * width on
  pub rows_from-row : (width height r : ℕ) (entries : List T) → r < height →
      slice_get (rows_from width height entries) r ≡ Some (take width (drop (r * width) entries))
  rows_from-row width zero r entries h = absurd (omega arith)
  rows_from-row width (suc height) zero entries h = let e : 0 * width ≡ 0 = omega arith in
      ap (λ n. Some (take width (drop n entries))) (sym e)
  rows_from-row width (suc height) (suc r) entries h =
      let e : width + r * width ≡ suc r * width = omega arith in
      rows_from-row width height r (drop width entries) (omega arith)
      ∙ ap (λ rest. Some (take width rest)) (drop-drop (r * width) width entries
      ∙ ap (λ n. drop n entries) e)

  pub rows_from-widths : (width height : ℕ) (entries : List T) → height * width ≤ length entries →
      All (λ row. length row ≡ width) (rows_from width height entries)
  rows_from-widths width zero entries h = λ r d lt. absurd (omega arith)
  rows_from-widths width (suc height) entries h = elim [
    | zero ↦ λ d lt. length-take-le width entries (omega arith)
    | suc r ↦ λ d lt. rows_from-widths width height (drop width entries)
        (rw length-drop (omega arith)) r d (omega arith)
  ]

  -- rows of one entry
  pub rows_from-single : (entries : List T) → rows_from 1 (length entries) entries
      ≡ map (λ x. x ∷ []) entries
  rows_from-single [] = refl
  rows_from-single (x ∷ entries) = ap (λ rows. (x ∷ []) ∷ rows) (rows_from-single entries)

  -- the first n rows
  pub rows_from-take : (width height n : ℕ) (entries : List T) → n ≤ height →
      rows_from width n (take (n * width) entries) ≡ take n (rows_from width height entries)
  rows_from-take width height zero entries h = refl
  rows_from-take width zero (suc n) entries h = absurd (omega arith)
  rows_from-take width (suc height) (suc n) entries h =
      let e : suc n * width ≡ width + n * width = omega arith in
      ap (λ k. rows_from width (suc n) (take k entries)) e
      ∙ ap (λ row. row ∷ rows_from width n (drop width (take (width + n * width) entries)))
      (take-take width (width + n * width) entries (omega arith))
      ∙ ap (λ rest. take width entries ∷ rows_from width n rest)
      (drop-take width (n * width) entries)
      ∙ ap (λ rows. take width entries ∷ rows)
      (rows_from-take width height n (drop width entries) (omega arith))

  -- the rows after the first n
  pub rows_from-drop : (width height n others : ℕ) (entries : List T) → n + others ≡ height →
      rows_from width others (drop (n * width) entries) ≡ drop n (rows_from width height entries)
  rows_from-drop width height zero others entries e =
      let none : 0 * width ≡ 0 = omega arith in
      ap (λ k. rows_from width others (drop k entries)) none
      ∙ ap (λ k. rows_from width k entries) (let same : others ≡ height = omega arith in same)
  rows_from-drop width zero (suc n) others entries e = absurd (omega arith)
  rows_from-drop width (suc height) (suc n) others entries e =
      let more : suc n * width ≡ width + n * width = omega arith in
      ap (λ k. rows_from width others (drop k entries)) more
      ∙ ap (rows_from width others) (sym (drop-drop (n * width) width entries))
      ∙ rows_from-drop width height n others (drop width entries) (omega arith)

  -- rows after other rows
  pub rows_from-append : (width m n : ℕ) (xs ys : List T) → length xs ≡ m * width →
      rows_from width (m + n) (xs ++ ys) ≡ rows_from width m xs ++ rows_from width n ys
  rows_from-append width zero n [] ys e = let same : 0 + n ≡ n = omega arith in
      ap (λ k. rows_from width k ys) same
  rows_from-append width zero n (x ∷ xs) ys e = absurd (omega arith)
  rows_from-append width (suc m) n xs ys e =
      let more : suc m + n ≡ suc (m + n) = omega arith in
      let wide : width ≤ length xs = omega arith in
      ap (λ k. rows_from width k (xs ++ ys)) more
      ∙ ap (λ row. row ∷ rows_from width (m + n) (drop width (xs ++ ys)))
      (take-append-le width xs ys wide)
      ∙ ap (λ rest. take width xs ∷ rows_from width (m + n) rest) (drop-append-le width xs ys wide)
      ∙ ap (λ rows. take width xs ∷ rows) (rows_from-append width m n (drop width xs) ys
      (rw length-drop (omega arith)))

  pub length-mapped_rows : (index : ℕ → ℕ) (height : ℕ) (rows : List (List T)) →
      length (mapped_rows index height rows) ≡ height
  length-mapped_rows index height rows = length-map-range_with_len
      (λ r. slice_index_or rows (index r) []) 0 height

  pub mapped_rows-widths : (index : ℕ → ℕ) (height width : ℕ) (rows : List (List T)) →
      ((r : ℕ) → r < height → index r < length rows) →
      All (λ row. length row ≡ width) rows → All (λ row. length row
      ≡ width) (mapped_rows index height rows)
  mapped_rows-widths index height width rows within widths = λ r d h.
      let lt : r < height = rw length-mapped_rows at h in
      ap length (get_or-map-range_with_len (λ r. slice_index_or rows (index r) []) 0 height r r d lt
      (omega arith)) ∙ widths (index r) [] (within r lt)

  pub mapped_rows-row : (index : ℕ → ℕ) (height r : ℕ) (rows : List (List T)) (row : List T) →
      r < height →
      slice_get rows (index r) ≡ Some row → slice_get (mapped_rows index height rows) r ≡ Some row
  mapped_rows-row index height r rows row h e =
      let f : ℕ → List T = λ i. slice_index_or rows (index i) [] in
      slice_get-get_or (mapped_rows index height rows) r [] (rw length-mapped_rows h)
      ∙ ap Some (get_or-map-range_with_len f 0 height r r [] h (omega arith)
      ∙ get_or_from_slice_get rows (index r) row [] e)
