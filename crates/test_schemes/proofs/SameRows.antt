-- Matrices with the same rows.
use Rattle.std.proofs.Common.{◌≡◌, ℕ, List, [], ◌∷◌, ◌++◌, map, refl, ap, sym, ◌∙◌, get_or, All}
use Rattle.std.proofs.Common.{subst, ◌<◌, ◌≤◌, ◌+◌, length, take}
use Rattle.std.proofs.lemmas.List.{map-append, take_more}
use Rattle.circle_commit.specs.declared.matrix.Dimensions.{Dimensions}
use Rattle.circle_commit.specs.declared.matrix.RowMajorMatrix.{RowMajorMatrix}
use Rattle.circle_commit.specs.RowMajorMatrix.{rows, width_of, height_of}
use Rattle.circle_commit.specs.Mmcs.{dimensions_of, max_height, greatest, heights, row_at, rows_at}
use Rattle.circle_commit.specs.Mmcs.{rows_at_each}
use Rattle.test_schemes.specs.SameRows.{HaveSameRows}
use Rattle.test_schemes.specs.Schemes.{Shows}

module _ {T : Type 0} where
  abbrev shape : RowMajorMatrix T → Dimensions
  shape m = record { width = width_of m; height = height_of m }

  -- the rows at an index by shapes and rows alone
  abbrev rows_by : ℕ → ℕ → List Dimensions → List (List (List T)) → List (List T)
  rows_by top index [] lists = []
  rows_by top index (dim ∷ dims) [] = []
  rows_by top index (dim ∷ dims) (list ∷ lists) = get_or list (row_at top dim.height index) []
      ∷ rows_by top index dims lists

  rows_by-matrices : (top index : ℕ) (matrices : List (RowMajorMatrix T)) →
      map (λ m. get_or (rows m) (row_at top (height_of m) index) []) matrices
      ≡ rows_by top index (dimensions_of matrices) (map rows matrices)
  rows_by-matrices top index [] = refl
  rows_by-matrices top index (m ∷ matrices) =
      ap (λ rest. get_or (rows m) (row_at top (height_of m) index) [] ∷ rest)
      (rows_by-matrices top index matrices)

  module _ (matrices others : List (RowMajorMatrix T)) (same : HaveSameRows matrices others) where
    pub same-max_height : max_height matrices ≡ max_height others
    same-max_height = ap (λ dims. greatest (heights dims)) same.shapes

    -- the rows at an index are the same
    pub same-rows_at : (index : ℕ) → rows_at matrices index ≡ rows_at others index
    same-rows_at index =
        rows_by-matrices (max_height matrices) index matrices
        ∙ ap (λ top. rows_by top index (dimensions_of matrices) (map rows matrices)) same-max_height
        ∙ ap (λ dims. rows_by (max_height others) index dims (map rows matrices)) same.shapes
        ∙ ap (λ lists. rows_by (max_height others) index (dimensions_of others) lists) same.rows
        ∙ sym (rows_by-matrices (max_height others) index others)

    pub same-rows_at_each : (indices : List ℕ) → rows_at_each matrices indices
        ≡ rows_at_each others indices
    same-rows_at_each indices = λ i. map (λ index. same-rows_at index i) indices

  -- one matrix more on each side
  pub same-more : (xs ys more : List (RowMajorMatrix T)) (k : ℕ) (m copy : RowMajorMatrix T) →
      k < length xs → m ≡ get_or xs k m →
      more ≡ ys ++ copy ∷ [] → width_of copy ≡ width_of m → rows copy ≡ rows m →
      height_of copy ≡ height_of m →
      HaveSameRows (take k xs) ys → HaveSameRows (take (k + 1) xs) more
  same-more xs ys more k m copy h at grown width content height same =
      let next : take (k + 1) xs ≡ take k xs ++ m ∷ [] = take_more xs k m h
      ∙ ap (λ y. take k xs ++ y ∷ []) (sym at) in
      let shown : shape m ≡ shape copy =
      λ i. record { width = sym width i; height = sym height i } in
      record {
        shapes = ap dimensions_of next ∙ map-append shape (take k xs) (m ∷ [])
            ∙ ap (λ ds. ds ++ shape m ∷ []) same.shapes ∙ ap (λ d. dimensions_of ys ++ d ∷ []) shown
            ∙ sym (map-append shape ys (copy ∷ [])) ∙ sym (ap dimensions_of grown);
        rows = ap (map rows) next ∙ map-append rows (take k xs) (m ∷ [])
            ∙ ap (λ ls. ls ++ rows m ∷ []) same.rows ∙ ap (λ l. map rows ys ++ l ∷ []) (sym content)
            ∙ sym (map-append rows ys (copy ∷ [])) ∙ sym (ap (map rows) grown);
      }

  -- what is opened is shown
  pub shows-opened : (matrices others : List (RowMajorMatrix T)) (indices : List ℕ)
      (opened : List (List (List T))) → 1 ≤ length indices →
      All (λ i. i < max_height matrices) indices → opened ≡ rows_at_each matrices indices →
      HaveSameRows matrices others → Shows others (dimensions_of matrices) indices opened
  shows-opened matrices others indices opened some in_range rows same = record {
    shapes = same.shapes;
    some = some;
    in_range =
        subst (λ (top : ℕ). All (λ i. i < top) indices) (same-max_height matrices others same)
        in_range;
    rows = rows ∙ same-rows_at_each matrices others same indices;
  }
