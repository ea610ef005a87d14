-- Rows joined end to end, and cut again.
use Rattle.std.proofs.Common.{◌≡◌, ℕ, ◌+◌, ◌*◌, ◌<◌, ◌≤◌, List, [], ◌∷◌, ◌++◌, length, take, drop}
use Rattle.std.proofs.Common.{All, zero, suc, refl, ap, subst, sym, ◌∙◌, arith, length-append, Vec}
use Rattle.std.proofs.Common.{Global, vec_len, get_or, take_all}
use Rattle.std.specs.List.{flat_map}
use Rattle.std.proofs.Math.Seq.{take-append_seam, drop-append_seam}
use Rattle.circle_commit.specs.Matrix.{rows_from}
use Rattle.circle_commands.specs.Rows.{lists, IsRectangular}

module _ {T : Type 0} where
  -- the rows joined end to end
  abbrev pub joined : List (List T) → List T
  joined rows = flat_map (λ row. row) rows

  -- all rows have this length, row after row
  abbrev pub EachHasLength : ℕ → List (List T) → Type 0
  EachHasLength width [] = Unit {0}
  EachHasLength width (row ∷ rows) = (length row ≡ width) × EachHasLength width rows

  pub each_has_length : (width : ℕ) (rows : List (List T)) → All (λ row. length row ≡ width) rows →
      EachHasLength width rows
  each_has_length width [] all = tt
  each_has_length width (row ∷ rows) all =
      (all 0 row (omega arith), each_has_length width rows (λ k d h. all (suc k) d (omega arith)))

  pub all_have_length : (width : ℕ) (rows : List (List T)) → EachHasLength width rows →
      All (λ row. length row ≡ width) rows
  all_have_length width [] each k d h = absurd (omega arith)
  all_have_length width (row ∷ rows) each zero d h = each.0
  all_have_length width (row ∷ rows) each (suc k) d h =
      all_have_length width rows each.1 k d (omega arith)

  pub length-joined : (width : ℕ) (rows : List (List T)) → EachHasLength width rows →
      length (joined rows) ≡ length rows * width
  length-joined width [] each = omega arith
  length-joined width (row ∷ rows) each =
      let e : length (joined rows) ≡ length rows * width = length-joined width rows each.1 in
      let f : length (row ++ joined rows) ≡ length row + length (joined rows) =
      length-append row (joined rows) in
      let h : length row ≡ width = each.0 in
      let g : suc (length rows) * width ≡ width + length rows * width = omega arith in
      f ∙ ap (λ n. n + length (joined rows)) h ∙ ap (λ n. width + n) e ∙ sym g

  pub rows_from-joined : (width : ℕ) (rows : List (List T)) → EachHasLength width rows →
      rows_from width (length rows) (joined rows) ≡ rows
  rows_from-joined width [] each = refl
  rows_from-joined width (row ∷ rows) each =
      let h : length row ≡ width = each.0 in
      let t : take width (row ++ joined rows) ≡ row =
      subst (λ (n : ℕ). take n (row ++ joined rows) ≡ row) h
      (take-append_seam row (joined rows)) in
      let d : drop width (row ++ joined rows) ≡ joined rows =
      subst (λ (n : ℕ). drop n (row ++ joined rows) ≡ joined rows) h
      (drop-append_seam row (joined rows)) in
      let e : rows_from width (length rows) (joined rows) ≡ rows =
      rows_from-joined width rows each.1 in
      rw (t, d, e) refl

  -- what is said of each vector holds of the list in it
  pub lists_each : (width : ℕ) (rows : List (Vec T Global)) →
      All (λ row. vec_len row ≡ width) rows → EachHasLength width (lists rows)
  lists_each width [] all = tt
  lists_each width (row ∷ rows) all =
      let here : vec_len row ≡ width = all 0 row (omega arith) in
      (sym row.ok.0 ∙ here, lists_each width rows (λ k d h. all (suc k) d (omega arith)))

  pub each_lists : (width : ℕ) (rows : List (Vec T Global)) → EachHasLength width (lists rows) →
      All (λ row. vec_len row ≡ width) rows
  each_lists width [] each k d h = absurd (omega arith)
  each_lists width (row ∷ rows) each zero d h = row.ok.0 ∙ each.0
  each_lists width (row ∷ rows) each (suc k) d h = each_lists width rows each.1 k d (omega arith)

  -- rows of one length have that of the first
  pub width_is : (width : ℕ) (rows : List (Vec T Global)) (first : Vec T Global) →
      0 < length rows → first ≡ get_or rows 0 first → EachHasLength width (lists rows) →
      width ≡ vec_len first
  width_is width [] first some head each = absurd (omega arith)
  width_is width (row ∷ rows) first some head each = sym each.0 ∙ sym row.ok.0
      ∙ sym (ap vec_len head)

  pub length-lists : (rows : List (Vec T Global)) → length (lists rows) ≡ length rows
  length-lists [] = refl
  length-lists (row ∷ rows) = omega (arith, length-lists rows)

  joined_lists : (rows : List (Vec T Global)) → flat_map (λ row. row.items) rows
      ≡ joined (lists rows)
  joined_lists [] = refl
  joined_lists (row ∷ rows) = ap (λ rest. row.items ++ rest) (joined_lists rows)

  -- what the vectors hold, end to end
  pub record IsJoined (entries : Vec T Global) (rows : List (Vec T Global)) (width : ℕ) : Type 0
    where
      pub positive : 1 ≤ width
      pub len : vec_len entries ≡ length rows * width
      pub cut : rows_from width (length rows) entries.items ≡ lists rows

  cut_of : (entries : Vec T Global) (rows : List (Vec T Global)) (width : ℕ) → 1 ≤ width →
      EachHasLength width (lists rows) →
      entries.items ≡ joined (lists rows) → IsJoined entries rows width
  cut_of entries rows width positive each all =
      let count : length (lists rows) ≡ length rows = length-lists rows in
      record {
        positive = positive;
        len = entries.ok.0 ∙ ap length all ∙ length-joined width (lists rows) each
            ∙ ap (λ n. n * width) count;
        cut = subst (λ (n : ℕ). rows_from width n entries.items ≡ lists rows) count
            (ap (λ xs. rows_from width (length (lists rows)) xs) all
            ∙ rows_from-joined width (lists rows) each);
      }

  pub is_joined : (entries : Vec T Global) (rows : List (Vec T Global)) (first : Vec T Global)
      (width n : ℕ) →
      0 < length rows → IsRectangular (lists rows) → first ≡ get_or rows 0 first →
      width ≡ vec_len first →
      length rows ≤ n → entries.items ≡ flat_map (λ row. row.items) (take n rows) →
      IsJoined entries rows width
  is_joined entries rows first width n some rectangular head w long content =
      let each : EachHasLength rectangular.0 (lists rows) = each_has_length _ _ rectangular.1.1 in
      let same : rectangular.0 ≡ width = width_is rectangular.0 rows first some head each ∙ sym w in
      let all : entries.items ≡ joined (lists rows) =
      content ∙ ap (λ xs. flat_map (λ row. row.items) xs) (take_all n rows long)
      ∙ joined_lists rows in
      cut_of entries rows width (subst (λ (n : ℕ). 1 ≤ n) same rectangular.1.0)
      (subst (λ (n : ℕ). EachHasLength n (lists rows)) same each) all
