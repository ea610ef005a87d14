-- The columns of rows that are stored one after another, and rows known by their columns.
use Rattle.std.specs.Prelude.{◌≡◌, ℕ, ◌+◌, ◌*◌, ◌<◌, ◌≤◌, List, [], ◌∷◌, ◌++◌, length, map, take}
use Rattle.std.specs.Prelude.{drop, slice_index_or, All}
use Rattle.std.specs.List.{range_with_len, AllByRecursion}
use Rattle.std.proofs.Common.{zero, suc, sym, ◌∙◌, ap, refl, arith, length-append, length-drop}
use Rattle.std.proofs.lemmas.List.{map-append, take-map, length-take-le, length-map, get_or-take}
use Rattle.std.proofs.Math.ListN.{get_or-map}
use Rattle.std.proofs.lemmas.List.FromFn.{fill_by_all, get_or-map-range_with_len}
use Rattle.std.proofs.lemmas.List.Elements.{recursion_from_All}
use Rattle.circle_commit.specs.Matrix.{rows_from, column}
use Rattle.circle_commit.specs.RowFacts.{length-rows_from, rows_from-take, rows_from-drop}
use Rattle.circle_commit.specs.RowFacts.{rows_from-append}
use Rattle.circle_commit.specs.DotProduct.{pairwise}
use Rattle.circle_domain.specs.Layers.{layer, copies}
use Rattle.circle_commit.proofs.Written.{length-pairwise, pairwise-read}

pub drop-map : {X Y : Type 0} (f : X → Y) (n : ℕ) (xs : List X) → drop n (map f xs)
    ≡ map f (drop n xs)
drop-map f zero xs = refl
drop-map f (suc n) [] = refl
drop-map f (suc n) (x ∷ xs) = drop-map f n xs

pairwise-drop : {F : Type 0} (f : F → F → F) (n : ℕ) (xs ys : List F) → length xs ≡ length ys →
    drop n (pairwise f xs ys) ≡ pairwise f (drop n xs) (drop n ys)
pairwise-drop f zero xs ys e = refl
pairwise-drop f (suc n) [] ys e = refl
pairwise-drop f (suc n) (x ∷ xs) [] e = absurd (omega (arith, e))
pairwise-drop f (suc n) (x ∷ xs) (y ∷ ys) e = pairwise-drop f n xs ys (omega (arith, e))

module _ {F : Type 0} (d : F) (width j : ℕ) where
  -- column j of entries that are stored row after row
  abbrev pub stored_column : ℕ → List F → List F
  stored_column height entries = column d (rows_from width height entries) j

  pub stored_column-take : (height n : ℕ) (entries : List F) → n ≤ height →
      stored_column n (take (n * width) entries) ≡ take n (stored_column height entries)
  stored_column-take height n entries h =
      let read = λ (row : List F). slice_index_or row j d in
      ap (map read) (rows_from-take width height n entries h)
      ∙ sym (take-map read n (rows_from width height entries))

  pub stored_column-drop : (height n others : ℕ) (entries : List F) → n + others ≡ height →
      stored_column others (drop (n * width) entries) ≡ drop n (stored_column height entries)
  stored_column-drop height n others entries e =
      let read = λ (row : List F). slice_index_or row j d in
      ap (map read) (rows_from-drop width height n others entries e)
      ∙ sym (drop-map read n (rows_from width height entries))

  pub stored_column-append : (m n : ℕ) (xs ys : List F) → length xs ≡ m * width →
      stored_column (m + n) (xs ++ ys) ≡ stored_column m xs ++ stored_column n ys
  stored_column-append m n xs ys e =
      let read = λ (row : List F). slice_index_or row j d in
      ap (map read) (rows_from-append width m n xs ys e)
      ∙ map-append read (rows_from width m xs) (rows_from width n ys)

  stored_column-pairwise : (f : F → F → F) (height : ℕ) (xs ys : List F) → j < width →
      length xs ≡ height * width → length ys ≡ height * width →
      stored_column height (pairwise f xs ys)
      ≡ pairwise f (stored_column height xs) (stored_column height ys)
  stored_column-pairwise f zero xs ys h a b = refl
  stored_column-pairwise f (suc height) xs ys h a b =
      let step : suc height * width ≡ width + height * width = omega arith in
      let first : slice_index_or (take width (pairwise f xs ys)) j d ≡ f
      (slice_index_or (take width xs) j d) (slice_index_or (take width ys) j d) =
      get_or-take width (pairwise f xs ys) j d h
      ∙ pairwise-read f xs ys j d d d (omega (arith, a, step, h)) (omega (arith, b, step, h))
      ∙ ap (λ x. f x (slice_index_or ys j d)) (sym (get_or-take width xs j d h))
      ∙ ap (f (slice_index_or (take width xs) j d)) (sym (get_or-take width ys j d h)) in
      ap (λ x. x ∷ stored_column height (drop width (pairwise f xs ys))) first
      ∙ ap (λ rest. f (slice_index_or (take width xs) j d) (slice_index_or (take width ys) j d)
      ∷ rest)
      (ap (stored_column height) (pairwise-drop f width xs ys (a ∙ sym b))
      ∙ stored_column-pairwise f height (drop width xs) (drop width ys) h
      (length-drop width xs ∙ omega (arith, a, step))
      (length-drop width ys ∙ omega (arith, b, step)))

  -- a layer of the stored entries is one of each column
  pub stored_column-layer : (low high : F → F → F → F) (ts : List F) (half : ℕ) (entries : List F) →
      j < width → length entries ≡ length ts * (half * width + half * width) →
      stored_column (length ts * (half + half)) (layer low high (half * width) ts entries)
      ≡ layer low high half ts (stored_column (length ts * (half + half)) entries)
  stored_column-layer low high [] half entries h long =
      let none : 0 * (half + half) ≡ 0 = omega arith in
      ap (λ n. stored_column n []) none
  stored_column-layer low high (t ∷ ts) half entries h long =
      let part = half * width in
      let n = length ts * (half + half) in
      let rows : suc (length ts) * (half + half) ≡ (half + half) + n = omega arith in
      let total : length entries ≡ (part + part) + length ts * (part + part) = long ∙ omega arith in
      let c = stored_column ((half + half) + n) entries in
      let a = take part entries in
      let b = take part (drop part entries) in
      let rest = drop (part + part) entries in
      let la : length a ≡ part = length-take-le part entries (omega (arith, total)) in
      let lb : length b ≡ part =
      length-take-le part (drop part entries)
      (omega (arith, total, length-drop part entries)) in
      let l = pairwise (low t) a b in
      let u = pairwise (high t) a b in
      let ll : length l ≡ part = length-pairwise (low t) a b (la ∙ sym lb) ∙ la in
      let lu : length u ≡ part = length-pairwise (high t) a b (la ∙ sym lb) ∙ la in
      let z = layer low high part ts rest in
      let both : length (l ++ u) ≡ (half + half) * width = length-append l u
      ∙ omega (arith, ll, lu) in
      let ca : stored_column half a ≡ take half c =
      stored_column-take ((half + half) + n) half entries (omega arith) in
      let cb : stored_column half b ≡ take half (drop half c) =
      stored_column-take (half + n) half (drop part entries) (omega arith)
      ∙ ap (take half)
      (stored_column-drop ((half + half) + n) half (half + n) entries (omega arith)) in
      let twice : part + part ≡ (half + half) * width = omega arith in
      let cr : stored_column n rest ≡ drop (half + half) c =
      ap (λ m. stored_column n (drop m entries)) twice
      ∙ stored_column-drop ((half + half) + n) (half + half) n entries refl in
      ap (λ m. stored_column m ((l ++ u) ++ z)) rows
      ∙ stored_column-append (half + half) n (l ++ u) z both
      ∙ ap (λ x. x ++ stored_column n z) (stored_column-append half half l u ll)
      ∙ ap (λ x. (x ++ stored_column half u) ++ stored_column n z)
      (stored_column-pairwise (low t) half a b h la lb)
      ∙ ap (λ x. (pairwise (low t) (stored_column half a) (stored_column half b) ++ x)
      ++ stored_column n z) (stored_column-pairwise (high t) half a b h la lb)
      ∙ ap
      (λ x. (pairwise (low t) x (stored_column half b)
      ++ pairwise (high t) x (stored_column half b)) ++ stored_column n z) ca
      ∙ ap (λ x. (pairwise (low t) (take half c) x ++ pairwise (high t) (take half c) x)
      ++ stored_column n z) cb
      ∙ ap
      (λ x. (pairwise (low t) (take half c) (take half (drop half c))
      ++ pairwise (high t) (take half c) (take half (drop half c))) ++ x)
      (stored_column-layer low high ts half rest h (length-drop (part + part) entries
      ∙ omega (arith, total)) ∙ ap (layer low high half ts) cr)
      ∙ ap (λ m. layer low high half (t ∷ ts) (stored_column m entries)) (sym rows)

-- rows whose columns are known
by_columns : {F X : Type 0} (d : F) (width : ℕ) (f : ℕ → X → F) (rows : List (List F))
    (xs : List X) → 1 ≤ width → AllByRecursion (λ row. length row ≡ width) rows →
    ((j : ℕ) → j < width → column d rows j ≡ map (f j) xs) →
    rows ≡ map (λ x. map (λ j. f j x) (range_with_len 0 width)) xs
by_columns d width f [] [] h wide e = refl
by_columns d width f [] (x ∷ xs) h wide e = let bad = e 0 h in absurd (cc)
by_columns d width f (row ∷ rows) [] h wide e = let bad = e 0 h in absurd (cc)
by_columns d width f (row ∷ rows) (x ∷ xs) h wide e =
    ap (λ first. first ∷ rows)
    (fill_by_all (λ j. f j x) row width d wide.0 (λ j lt. let same = e j lt in cc))
    ∙ ap (λ rest. map (λ j. f j x) (range_with_len 0 width) ∷ rest)
    (by_columns d width f rows xs h wide.1 (λ j lt. let same = e j lt in cc))

pub rows-by_columns : {F X : Type 0} (d : F) (width : ℕ) (f : ℕ → X → F) (rows : List (List F))
    (xs : List X) → 1 ≤ width → All (λ row. length row ≡ width) rows →
    ((j : ℕ) → j < width → column d rows j ≡ map (f j) xs) →
    rows ≡ map (λ x. map (λ j. f j x) (range_with_len 0 width)) xs
rows-by_columns d width f rows xs h wide e =
    by_columns d width f rows xs h (recursion_from_All (λ row. length row ≡ width) rows wide) e

-- rows with the same columns are the same
same_columns : {F : Type 0} (d : F) (width : ℕ) (rows others : List (List F)) → 1 ≤ width →
    AllByRecursion (λ row. length row ≡ width) rows →
    AllByRecursion (λ row. length row ≡ width) others →
    ((j : ℕ) → j < width → column d rows j ≡ column d others j) → rows ≡ others
same_columns d width [] [] h wide wide' e = refl
same_columns d width [] (row ∷ others) h wide wide' e = let bad = e 0 h in absurd (cc)
same_columns d width (row ∷ rows) [] h wide wide' e = let bad = e 0 h in absurd (cc)
same_columns d width (row ∷ rows) (other ∷ others) h wide wide' e =
    ap (λ first. first ∷ rows)
    (fill_by_all (λ j. slice_index_or other j d) row width d wide.0 (λ j lt. let same = e j lt in
    cc)
    ∙ sym (fill_by_all (λ j. slice_index_or other j d) other width d wide'.0 (λ j lt. refl)))
    ∙ ap (λ rest. other ∷ rest)
    (same_columns d width rows others h wide.1 wide'.1 (λ j lt. let same = e j lt in cc))

pub rows-same_columns : {F : Type 0} (d : F) (width : ℕ) (rows others : List (List F)) → 1 ≤ width →
    All (λ row. length row ≡ width) rows → All (λ row. length row ≡ width) others →
    ((j : ℕ) → j < width → column d rows j ≡ column d others j) → rows ≡ others
rows-same_columns d width rows others h wide wide' e =
    same_columns d width rows others h (recursion_from_All (λ row. length row ≡ width) rows wide)
    (recursion_from_All (λ row. length row ≡ width) others wide') e

-- a column of rows that are made by index
pub column-made : {F X : Type 0} (d : F) (width j : ℕ) (f : ℕ → X → F) (xs : List X) → j < width →
    column d (map (λ x. map (λ i. f i x) (range_with_len 0 width)) xs) j ≡ map (f j) xs
column-made d width j f [] h = refl
column-made d width j f (x ∷ xs) h =
    ap (λ y. y ∷ column d (map (λ x. map (λ i. f i x) (range_with_len 0 width)) xs) j)
    (get_or-map-range_with_len (λ i. f i x) 0 width j j d h (omega arith))
    ∙ ap (λ rest. f j x ∷ rest) (column-made d width j f xs h)

module _ {F : Type 0} (d : F) (width j : ℕ) where
  pub length-stored_column : (height : ℕ) (entries : List F) →
      length (stored_column d width j height entries) ≡ height
  length-stored_column height entries =
      length-map (rows_from width height entries) (λ row. slice_index_or row j d)
      ∙ length-rows_from width height entries

  -- a column of copies
  pub stored_column-copies : (n height : ℕ) (entries : List F) → length entries ≡ height * width →
      stored_column d width j (n * height) (copies n entries)
      ≡ copies n (stored_column d width j height entries)
  stored_column-copies zero height entries e = let z : 0 * height ≡ 0 = omega arith in
      ap (λ m. stored_column d width j m []) z
  stored_column-copies (suc n) height entries e =
      let more : suc n * height ≡ height + n * height = omega arith in
      ap (λ m. stored_column d width j m (entries ++ copies n entries)) more
      ∙ stored_column-append d width j height (n * height) entries (copies n entries) e
      ∙ ap (λ rest. stored_column d width j height entries ++ rest)
      (stored_column-copies n height entries e)

  -- a column of entries that are each changed
  pub stored_column-map : (f : F → F) (height : ℕ) (entries : List F) → f d ≡ d →
      stored_column d width j height (map f entries)
      ≡ map f (stored_column d width j height entries)
  stored_column-map f zero entries e = refl
  stored_column-map f (suc height) entries e =
      let read : slice_index_or (take width (map f entries)) j d ≡ f
      (slice_index_or (take width entries) j d) =
      ap (λ xs. slice_index_or xs j d) (take-map f width entries)
      ∙ ap (slice_index_or (map f (take width entries)) j) (sym e)
      ∙ get_or-map f (take width entries) j d in
      ap (λ x. x ∷ stored_column d width j height (drop width (map f entries))) read
      ∙ ap (λ rest. f (slice_index_or (take width entries) j d) ∷ rest)
      (ap (stored_column d width j height) (drop-map f width entries)
      ∙ stored_column-map f height (drop width entries) e)
