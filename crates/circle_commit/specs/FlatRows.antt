-- Rows stored one after another.
use Rattle.std.specs.Prelude.{◌≡◌, ℕ, ◌+◌, ◌*◌, ◌/◌, ◌%◌, ◌<◌, ◌≤◌, List, [], ◌∷◌, ◌++◌, length}
use Rattle.std.specs.Prelude.{map, Some, slice_get, take, drop}
use Rattle.std.specs.List.{range_with_len, flat_map}
use Rattle.std.proofs.Common.{zero, suc, sym, ◌∙◌, ap, refl, arith, append_assoc, append-nil}
use Rattle.std.proofs.Common.{length-append}
use Rattle.std.proofs.Math.Seq.{take-append_seam, drop-append_seam}
use Rattle.std.proofs.Math.Nat.{mul-div_cancel}
use Rattle.std.proofs.lemmas.List.FromFn.{get_or-map-range_with_len}
use Rattle.std.proofs.lemmas.Nat.{mod-mul-add}
use Rattle.std.proofs.lemmas.Option.{get_or_from_slice_get}
use Rattle.circle_commit.specs.Matrix.{rows_from}

module _ {T : Type 0} (row : ℕ → List T) where
  -- one more row
  pub flat-more : (a n : ℕ) → flat_map row (range_with_len a (suc n))
      ≡ flat_map row (range_with_len a n) ++ row (a + n)
  flat-more a zero = let e : a ≡ a + 0 = omega arith in append-nil (row a) ∙ ap row e
  flat-more a (suc n) =
      let e : a + 1 + n ≡ a + suc n = omega arith in
      ap (λ rest. row a ++ rest) (flat-more (a + 1) n)
      ∙ sym (append_assoc (row a) (flat_map row (range_with_len (a + 1) n)) (row (a + 1 + n)))
      ∙ ap (λ m. (row a ++ flat_map row (range_with_len (a + 1) n)) ++ row m) e

  pub length-flat : (a n width : ℕ) → ((i : ℕ) → i < a + n → length (row i) ≡ width) →
      length (flat_map row (range_with_len a n)) ≡ n * width
  length-flat a zero width h = omega arith
  length-flat a (suc n) width h =
      length-append (row a) (flat_map row (range_with_len (a + 1) n))
      ∙ omega (
        arith,
        h a (omega arith),
        length-flat (a + 1) n width
            (λ i lt. h i (omega arith)),
      )

  pub rows_from-flat : (a n width : ℕ) → ((i : ℕ) → i < a + n → length (row i) ≡ width) →
      rows_from width n (flat_map row (range_with_len a n)) ≡ map row (range_with_len a n)
  rows_from-flat a zero width h = refl
  rows_from-flat a (suc n) width h =
      let rest = flat_map row (range_with_len (a + 1) n) in
      ap (λ w. take w (row a ++ rest) ∷ rows_from width n (drop w (row a ++ rest)))
      (sym (h a (omega arith)))
      ∙ ap (λ first. first ∷ rows_from width n (drop (length (row a)) (row a ++ rest)))
      (take-append_seam (row a) rest)
      ∙ ap (λ entries. row a ∷ rows_from width n entries) (drop-append_seam (row a) rest)
      ∙ ap (λ rows. row a ∷ rows) (rows_from-flat (a + 1) n width (λ i lt. h i (omega arith)))

  -- what a vector of whole rows is as a matrix
  module _ (items : List T) (len count width : ℕ) (made : items
      ≡ flat_map row (range_with_len 0 count)) (long : len ≡ length items) (wide : (i : ℕ) →
      i < 0 + count → length (row i) ≡ width) where
    entries-count : len ≡ count * width
    entries-count = long ∙ ap length made ∙ length-flat 0 count width wide

    pub whole_rows : 1 ≤ width → len % width ≡ 0
    whole_rows h =
        ap (λ n. n % width) (entries-count ∙ (let e : count * width ≡ count * width + 0 =
        omega arith in e)) ∙ mod-mul-add count width 0 h

    pub row_count : 1 ≤ width → len / width ≡ count
    row_count h = ap (λ n. n / width) entries-count ∙ mul-div_cancel count h

    pub stored_rows : 1 ≤ width → rows_from width (len / width) items
        ≡ map row (range_with_len 0 count)
    stored_rows h =
        ap (λ n. rows_from width n items) (row_count h) ∙ ap (rows_from width count) made
        ∙ rows_from-flat 0 count width wide

-- the row at an index of rows by index
pub indexed-row : {T : Type 0} (f : ℕ → List T) (n r : ℕ) (row : List T) → r < n →
    slice_get (map f (range_with_len 0 n)) r ≡ Some row → row ≡ f r
indexed-row f n r row h e =
    sym (get_or_from_slice_get (map f (range_with_len 0 n)) r row [] e)
    ∙ get_or-map-range_with_len f 0 n r r [] h (omega arith)
