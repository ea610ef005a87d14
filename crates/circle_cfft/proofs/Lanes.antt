-- Columns of lanes of entries that are stored one after another, and what a write to some entries
-- does to them.
use Rattle.std.specs.Prelude.{◌≡◌, ◌≢◌, ◌⊎◌, ℕ, ◌+◌, ◌-◌, ◌*◌, ◌/◌, ◌%◌, ◌<◌, ◌≤◌, List, ◌++◌}
use Rattle.std.specs.Prelude.{length, take, drop, slice_index_or, slice_set}
use Rattle.std.proofs.Common.{zero, suc, sym, ◌∙◌, ap, refl, arith, inl, inr, ⊎_elim}
use Rattle.std.proofs.Math.Nat.{mul-le-mul_right}
use Rattle.std.proofs.lemmas.Nat.{div-add-mod', mod_below, div_below}
use Rattle.std.proofs.lemmas.Bool.{cases_eq, cases_lt}
use Rattle.std.proofs.lemmas.List.{get_or-take, get_or-drop, get_or_append_left}
use Rattle.std.proofs.lemmas.List.{get_or-append_right, get_or-set_same, get_or-set_other}
use Rattle.std.proofs.lemmas.List.{length-take-le, length-set, ext_get_or}
use borrow.Rule.Slice.PartMut.{put_mid, mid_of}
use Rattle.circle_domain.proofs.Columns.{stored_column-take, stored_column-drop}
use Rattle.circle_domain.proofs.Columns.{stored_column-append, length-stored_column}
use Rattle.circle_cfft.specs.Groups.{lane_column}

module _ {T : Type 0} (d : T) (a k p : ℕ) (xs ys : List T) (fits : a + k ≤ length xs)
    (long : length ys ≡ k) where
  -- an entry of the part that was written
  pub put-inside : a ≤ p → p < a + k → slice_index_or (put_mid a k xs ys) p d
      ≡ slice_index_or ys (p - a) d
  put-inside from to =
      let rest = ys ++ drop k (drop a xs) in
      get_or-append_right (take a xs) rest a p d (length-take-le a xs (omega (arith, fits))) from
      ∙ get_or_append_left ys (drop k (drop a xs)) d (p - a) (omega (arith, from, to, long))

  -- an entry before or behind it
  pub put-beside : (p < a) ⊎ (a + k ≤ p) → slice_index_or (put_mid a k xs ys) p d
      ≡ slice_index_or xs p d
  put-beside (inl before) =
      let whole : length (take a xs) ≡ a = length-take-le a xs (omega (arith, fits)) in
      get_or_append_left (take a xs) (ys ++ drop k (drop a xs)) d p (omega (arith, before, whole))
      ∙ get_or-take a xs p d before
  put-beside (inr behind) =
      let e : a + (k + (p - a - k)) ≡ p = omega (arith, behind) in
      get_or-append_right (take a xs) (ys ++ drop k (drop a xs)) a p d
      (length-take-le a xs (omega (arith, fits))) (omega (arith, behind))
      ∙ get_or-append_right ys (drop k (drop a xs)) k (p - a) d long (omega (arith, behind))
      ∙ get_or-drop k (drop a xs) (p - a - k) d ∙ get_or-drop a xs (k + (p - a - k)) d
      ∙ ap (λ n. slice_index_or xs n d) e

-- an entry of a column
pub column-read : {T : Type 0} (d : T) (stride height j i : ℕ) (xs : List T) → j < stride →
    i < height →
    slice_index_or (lane_column d stride height j xs) i d ≡ slice_index_or xs (i * stride + j) d
column-read d stride zero j i xs inside below = absurd (omega (arith, below))
column-read d stride (suc height) j zero xs inside below =
    let e : j ≡ 0 * stride + j = omega arith in
    get_or-take stride xs j d inside ∙ ap (λ n. slice_index_or xs n d) e
column-read d stride (suc height) j (suc i) xs inside below =
    let e : stride + (i * stride + j) ≡ suc i * stride + j = omega arith in
    column-read d stride height j i (drop stride xs) inside (omega (arith, below))
    ∙ get_or-drop stride xs (i * stride + j) d ∙ ap (λ n. slice_index_or xs n d) e

-- entries that have the same columns are the same
pub same-columns : {T : Type 0} (d : T) (stride height : ℕ) (xs ys : List T) → 1 ≤ stride →
    length xs ≡ height * stride → length ys ≡ height * stride →
    ((j : ℕ) → j < stride → lane_column d stride height j xs ≡ lane_column d stride height j ys) →
    xs ≡ ys
same-columns d stride height xs ys wide long long' same =
    ext_get_or d xs ys (long ∙ sym long') (λ p h.
    let q = p / stride in
    let r = p % stride in
    let e : q * stride + r ≡ p = div-add-mod' p stride in
    let inside : r < stride = mod_below p stride wide in
    let below : q < height = div_below p stride height wide (omega (arith, h, long)) in
    ap (λ n. slice_index_or xs n d) (sym e) ∙ sym (column-read d stride height r q xs inside below)
    ∙ ap (λ c. slice_index_or c q d) (same r inside)
    ∙ column-read d stride height r q ys inside below ∙ ap (λ n. slice_index_or ys n d) e)

-- rows of `width` entries at `offset` of a lane
module _ {T : Type 0} (d : T) (offset width stride height i a k : ℕ)
    (is_start : a ≡ i * stride + offset) (is_width : k ≡ width) (within : offset + width ≤ stride)
    (below : i < height) where
  -- the row of lane i lies in the lanes
  pub row-fits : (xs : List T) → length xs ≡ height * stride → a + k ≤ length xs
  row-fits xs long =
      let next : (i + 1) * stride ≤ height * stride = let le : i + 1 ≤ height =
      omega (arith, below) in mul-le-mul_right stride le in
      omega (arith, next, long, is_start, is_width, within)

  -- it holds entry i of each of its columns
  pub row-read : (j : ℕ) (xs : List T) → offset ≤ j → j < offset + width →
      slice_index_or (mid_of a k xs) (j - offset) d
      ≡ slice_index_or (lane_column d stride height j xs) i d
  row-read j xs from to =
      let e : a + (j - offset) ≡ i * stride + j = omega (arith, is_start, from) in
      get_or-take k (drop a xs) (j - offset) d (omega (arith, from, to, is_width))
      ∙ get_or-drop a xs (j - offset) d ∙ ap (λ n. slice_index_or xs n d) e
      ∙ sym (column-read d stride height j i xs (omega (arith, to, within)) below)

  module _ (j : ℕ) (xs ys : List T) (long : length xs ≡ height * stride) (wide : length ys ≡ width)
    where
      own : length ys ≡ k
      own = wide ∙ sym is_width

      -- entry r of a column, as it was where it isn't of the row
      other-entry : (r : ℕ) → j < stride → r < height → (r < i) ⊎ (i < r) →
          slice_index_or (put_mid a k xs ys) (r * stride + j) d
          ≡ slice_index_or xs (r * stride + j) d
      other-entry r inside here (inl before) =
          let next : (r + 1) * stride ≤ i * stride = let le : r + 1 ≤ i = omega (arith, before) in
          mul-le-mul_right stride le in
          put-beside d a k (r * stride + j) xs ys (row-fits xs long) own
          (inl (omega (arith, next, is_start, inside)))
      other-entry r inside here (inr behind) =
          let next : (i + 1) * stride ≤ r * stride = let le : i + 1 ≤ r = omega (arith, behind) in
          mul-le-mul_right stride le in
          put-beside d a k (r * stride + j) xs ys (row-fits xs long) own
          (inr (omega (arith, next, is_start, is_width, within)))

      same-length : length (lane_column d stride height j (put_mid a k xs ys)) ≡ height
      same-length = length-stored_column d stride j height (put_mid a k xs ys)

      -- a column of a row that was written
      pub column-put_row : offset ≤ j → j < offset + width →
          lane_column d stride height j (put_mid a k xs ys)
          ≡ slice_set (lane_column d stride height j xs) i (slice_index_or ys (j - offset) d)
      column-put_row from to =
          let inside : j < stride = omega (arith, to, within) in
          let old = lane_column d stride height j xs in
          let v = slice_index_or ys (j - offset) d in
          let tall : length old ≡ height = length-stored_column d stride j height xs in
          ext_get_or d (lane_column d stride height j (put_mid a k xs ys)) (slice_set old i v)
          (same-length ∙ sym (length-set old i v ∙ tall)) (λ r h.
          let here : r < height = omega (arith, h, same-length) in
          column-read d stride height j r (put_mid a k xs ys) inside here
          ∙ ⊎_elim
          (λ (e : r ≡ i).
          let back : r * stride + j - a ≡ j - offset =
          omega (arith, ap (λ n. n * stride) e, is_start) in
          let first : a ≤ r * stride + j = omega (arith, ap (λ n. n * stride) e, is_start, from) in
          let last : r * stride + j < a + k =
          omega (arith, ap (λ n. n * stride) e, is_start, is_width, to) in
          put-inside d a k (r * stride + j) xs ys (row-fits xs long) own first last
          ∙ ap (λ n. slice_index_or ys n d) back
          ∙ sym (get_or-set_same old i v d (omega (arith, tall, below)))
          ∙ ap (λ n. slice_index_or (slice_set old i v) n d) (sym e))
          (λ (ne : r ≢ i).
          other-entry r inside here
          (⊎_elim (λ (lt : r < i). inl lt) (λ (le : i ≤ r). inr (omega (arith, le, ne)))
          (cases_lt r i))
          ∙ sym (column-read d stride height j r xs inside here)
          ∙ sym (get_or-set_other old i r v d ne))
          (cases_eq r i))

      -- a column beside it
      pub column-beside_row : j < stride → (j < offset) ⊎ (offset + width ≤ j) →
          lane_column d stride height j (put_mid a k xs ys) ≡ lane_column d stride height j xs
      column-beside_row inside beside =
          ext_get_or d (lane_column d stride height j (put_mid a k xs ys))
          (lane_column d stride height j xs)
          (same-length ∙ sym (length-stored_column d stride j height xs)) (λ r h.
          let here : r < height = omega (arith, h, same-length) in
          column-read d stride height j r (put_mid a k xs ys) inside here
          ∙ ⊎_elim
          (λ (e : r ≡ i).
          put-beside d a k (r * stride + j) xs ys (row-fits xs long) own
          (⊎_elim (λ (lt : j < offset). inl (omega (arith, ap (λ n. n * stride) e, is_start, lt)))
          (λ (le : offset + width ≤ j). inr
          (omega (arith, ap (λ n. n * stride) e, is_start, is_width, le))) beside))
          (λ (ne : r ≢ i). other-entry r inside here
          (⊎_elim (λ (lt : r < i). inl lt) (λ (le : i ≤ r). inr (omega (arith, le, ne)))
          (cases_lt r i)))
          (cases_eq r i)
          ∙ sym (column-read d stride height j r xs inside here))

-- n whole lanes after the first s
module _ {T : Type 0} (d : T) (stride height s n a k j : ℕ) (xs : List T)
    (is_start : a ≡ s * stride) (is_width : k ≡ n * stride) (within : s + n ≤ height) where
  -- a column of these lanes
  pub column-mid : lane_column d stride n j (mid_of a k xs)
      ≡ mid_of s n (lane_column d stride height j xs)
  column-mid =
      let rest : s + (height - s) ≡ height = omega (arith, within) in
      ap (λ m. lane_column d stride n j (take m (drop a xs))) is_width
      ∙ stored_column-take d stride j (height - s) n (drop a xs) (omega (arith, within))
      ∙ ap (λ m. take n (lane_column d stride (height - s) j (drop m xs))) is_start
      ∙ ap (take n) (stored_column-drop d stride j height s (height - s) xs rest)

  -- a column after they were written
  pub column-put_mid : (ys : List T) → length xs ≡ height * stride → length ys ≡ k →
      lane_column d stride height j (put_mid a k xs ys)
      ≡ put_mid s n (lane_column d stride height j xs) (lane_column d stride n j ys)
  column-put_mid ys long wide =
      let r = height - s - n in
      let rest : s + (n + r) ≡ height = omega (arith, within) in
      let upto : s * stride ≤ height * stride = let le : s ≤ height = omega (arith, within) in
      mul-le-mul_right stride le in
      let first : length (take a xs) ≡ s * stride =
      length-take-le a xs (omega (arith, is_start, upto, long)) ∙ is_start in
      let c = lane_column d stride height j xs in
      let behind : lane_column d stride r j (drop k (drop a xs)) ≡ drop n (drop s c) =
      ap (λ m. lane_column d stride r j (drop m (drop a xs))) is_width
      ∙ stored_column-drop d stride j (n + r) n r (drop a xs) refl
      ∙ ap (λ m. drop n (lane_column d stride (n + r) j (drop m xs))) is_start
      ∙ ap (drop n) (stored_column-drop d stride j height s (n + r) xs rest) in
      let before : lane_column d stride s j (take a xs) ≡ take s c =
      ap (λ m. lane_column d stride s j (take m xs)) is_start
      ∙ stored_column-take d stride j height s xs (omega (arith, within)) in
      ap (λ m. lane_column d stride m j (put_mid a k xs ys)) (sym rest)
      ∙ stored_column-append d stride j s (n + r) (take a xs) (ys ++ drop k (drop a xs)) first
      ∙ ap (λ b. lane_column d stride s j (take a xs) ++ b)
      (stored_column-append d stride j n r ys (drop k (drop a xs)) (wide ∙ is_width))
      ∙ ap
      (λ b. b ++ (lane_column d stride n j ys ++ lane_column d stride r j (drop k (drop a xs))))
      before
      ∙ ap (λ b. take s c ++ (lane_column d stride n j ys ++ b)) behind
