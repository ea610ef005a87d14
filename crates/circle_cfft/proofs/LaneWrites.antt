-- A group of rows that is written from its first lane on, and groups of rows that are changed one
-- after another.
use Rattle.std.specs.Prelude.{◌≡◌, ◌⊎◌, ℕ, ◌+◌, ◌-◌, ◌*◌, ◌<◌, ◌≤◌, List, [], ◌∷◌, ◌++◌, length}
use Rattle.std.specs.Prelude.{map, take, drop, slice_index_or, slice_set}
use Rattle.std.proofs.Common.{sym, ◌∙◌, ap, refl, arith, append-nil, length-drop}
use Rattle.std.proofs.Math.Nat.{mul-le-mul_right, mul_assoc}
use Rattle.std.proofs.lemmas.List.{get_or-map as read-map}
use Rattle.std.proofs.lemmas.List.{take_at, drop_at, take_all, length-map, length-take-le}
use Rattle.std.proofs.lemmas.List.{take-append-drop}
use borrow.Rule.Slice.PartMut.{put_mid, mid_of}
use Rattle.circle_commit.specs.DotProduct.{pairwise}
use Rattle.circle_commit.proofs.Written.{written, written-read, written-more, written-all}
use Rattle.circle_commit.proofs.Written.{length-pairwise, pairwise-read}
use Rattle.circle_domain.specs.Layers.{layer}
use Rattle.circle_domain.proofs.Columns.{length-stored_column, stored_column-append}
use Rattle.circle_domain.proofs.Layered.{layer-more, block-end, block}
use Rattle.circle_cfft.specs.Groups.{lane_column, ChangesRows}
use Rattle.circle_cfft.proofs.Lanes.{column-put_row, column-beside_row, row-read, row-fits}
use Rattle.circle_cfft.proofs.Lanes.{column-mid, column-put_mid}

-- a layer of one block of two halves
layer-halves : {F : Type 0} (low high : F → F → F → F) (half : ℕ) (t : F) (xs ys : List F) →
    length xs ≡ half → length ys ≡ half →
    layer low high half (t ∷ []) (xs ++ ys) ≡ pairwise (low t) xs ys ++ pairwise (high t) xs ys
layer-halves low high half t xs ys long long' =
    let second : take half (drop half (xs ++ ys)) ≡ ys = ap (take half) (drop_at xs ys half long)
    ∙ take_all half ys (omega (arith, long')) in
    append-nil (pairwise (low t) (take half (xs ++ ys)) (take half (drop half (xs ++ ys)))
    ++ pairwise (high t) (take half (xs ++ ys)) (take half (drop half (xs ++ ys))))
    ∙ ap (λ x. pairwise (low t) x (take half (drop half (xs ++ ys)))
    ++ pairwise (high t) x (take half (drop half (xs ++ ys)))) (take_at xs ys half long)
    ∙ ap (λ y. pairwise (low t) xs y ++ pairwise (high t) xs y) second

-- a layer of one block
layer-one : {F : Type 0} (low high : F → F → F → F) (half : ℕ) (t : F) (xs : List F) →
    length xs ≡ half + half → layer low high half (t ∷ []) xs ≡ block low high half t xs
layer-one low high half t xs long =
    append-nil (pairwise (low t) (take half xs) (take half (drop half xs))
    ++ pairwise (high t) (take half xs) (take half (drop half xs)))
    ∙ ap (λ y. pairwise (low t) (take half xs) y ++ pairwise (high t) (take half xs) y)
    (take_all half (drop half xs) (omega (arith, long, length-drop half xs)))

-- a part that is written as it was
put-same : {T : Type 0} (a k : ℕ) (xs : List T) → put_mid a k xs (mid_of a k xs) ≡ xs
put-same a k xs = ap (λ rest. take a xs ++ rest) (take-append-drop k (drop a xs))
    ∙ take-append-drop a xs

-- of a group's columns the first i entries are new, and no other entries
pub record WrittenRows {F : Type 0} (d : F) (offset width stride height i : ℕ) (new : ℕ → List F)
    (old now : List F) : Type 0 where
  pub inside : (j : ℕ) → offset ≤ j → j < offset + width → lane_column d stride height j now
      ≡ written i (new j) (lane_column d stride height j old)
  pub beside : (j : ℕ) → j < stride → (j < offset) ⊎ (offset + width ≤ j) →
      lane_column d stride height j now ≡ lane_column d stride height j old

module _ {F : Type 0} (d : F) (offset width stride height : ℕ) (new : ℕ → List F) (old : List F)
  where
    pub rows-none : WrittenRows d offset width stride height 0 new old old
    rows-none = record { inside = λ j from to. refl; beside = λ j inside beside. refl }

    -- one row more
    pub rows-more : (i a k : ℕ) (now ys : List F) →
        WrittenRows d offset width stride height i new old now → a ≡ i * stride + offset →
        k ≡ width →
        offset + width ≤ stride → i < height →
        length now ≡ height * stride → length ys ≡ width → ((j : ℕ) → length (new j) ≡ height) →
        ((j : ℕ) → offset ≤ j → j < offset + width → slice_index_or ys (j - offset) d
        ≡ slice_index_or (new j) i d) →
        WrittenRows d offset width stride height (i + 1) new old (put_mid a k now ys)
    rows-more i a k now ys so_far is_start is_width within below long wide tall made = record {
      inside = λ j from to.
          let c = lane_column d stride height j old in
          let same : length (new j) ≡ length c =
          tall j ∙ sym (length-stored_column d stride j height old) in
          let here : i < length c =
          omega (arith, length-stored_column d stride j height old, below) in
          column-put_row d offset width stride height i a k is_start is_width within
          below j now ys long wide from to
          ∙ ap (λ x. slice_set x i (slice_index_or ys (j - offset) d)) (so_far.inside j from to)
          ∙ ap (slice_set (written i (new j) c) i) (made j from to)
          ∙ written-more i (new j) c d same here;
      beside = λ j inside beside. column-beside_row d offset width stride height i a k is_start
          is_width within below j now ys long wide inside beside ∙ so_far.beside j inside beside;
    }

    -- what entry i of a column still is
    pub rows-read : (i j : ℕ) (now : List F) →
        WrittenRows d offset width stride height i new old now → length (new j) ≡ height →
        offset ≤ j → j < offset + width →
        slice_index_or (lane_column d stride height j now) i d
        ≡ slice_index_or (lane_column d stride height j old) i d
    rows-read i j now so_far tall from to =
        ap (λ x. slice_index_or x i d) (so_far.inside j from to)
        ∙ written-read i (new j) (lane_column d stride height j old) d
        (tall ∙ sym (length-stored_column d stride j height old))

    -- all rows
    pub rows-all : (i j : ℕ) (now : List F) →
        WrittenRows d offset width stride height i new old now →
        length (new j) ≡ height → height ≤ i → offset ≤ j → j < offset + width →
        lane_column d stride height j now ≡ new j
    rows-all i j now so_far tall end from to =
        let c = lane_column d stride height j old in
        let high : length c ≡ height = length-stored_column d stride j height old in
        so_far.inside j from to
        ∙ written-all i (new j) c (tall ∙ sym high) (omega (arith, high, end))

-- rows whose entries are each changed
module _ {F : Type 0} (d : F) (f : F → F) (offset width stride height : ℕ) (old : List F) where
  abbrev pub mapped_column : ℕ → List F
  mapped_column j = map f (lane_column d stride height j old)

  length-mapped : (j : ℕ) → length (mapped_column j) ≡ height
  length-mapped j = length-map (lane_column d stride height j old) f
      ∙ length-stored_column d stride j height old

  pub mapped-more : (i a k : ℕ) (now ys : List F) →
      WrittenRows d offset width stride height i mapped_column old now → a ≡ i * stride + offset →
      k ≡ width → offset + width ≤ stride → i < height →
      length now ≡ height * stride → ys ≡ map f (mid_of a k now) →
      WrittenRows d offset width stride height (i + 1) mapped_column old (put_mid a k now ys)
  mapped-more i a k now ys so_far is_start is_width within below long made =
      let fits = row-fits d offset width stride height i a k is_start is_width within
      below now long in
      let wide : length (mid_of a k now) ≡ k =
      length-take-le k (drop a now) (omega (arith, fits, length-drop a now)) in
      rows-more d offset width stride height mapped_column old i a k now ys so_far is_start is_width
      within below long
      (ap length made ∙ length-map (mid_of a k now) f ∙ wide ∙ is_width) length-mapped
      (λ j from to.
      let c = lane_column d stride height j old in
      let inner : j - offset < length (mid_of a k now) = omega (arith, wide, is_width, from, to) in
      let tall : i < length c = omega (arith, length-stored_column d stride j height old, below) in
      ap (λ x. slice_index_or x (j - offset) d) made
      ∙ read-map f (mid_of a k now) (j - offset) d d inner
      ∙ ap f (row-read d offset width stride height i a k is_start is_width within
      below j now from to ∙ rows-read d offset width stride height mapped_column old i j now
      so_far (length-mapped j) from to)
      ∙ sym (read-map f c i d d tall))

  pub mapped-all : (i : ℕ) (now : List F) →
      WrittenRows d offset width stride height i mapped_column old now → height ≤ i →
      ChangesRows d offset width stride height (map f) old now
  mapped-all i now so_far end = record {
    inside = λ j from to. rows-all d offset width stride height mapped_column old i j now so_far
        (length-mapped j) end from to;
    beside = so_far.beside;
  }

-- the rows of two halves, combined lane by lane
module _ {F : Type 0} (d : F) (low high : F → F → F → F) (t : F) (offset width stride half : ℕ)
    (lows highs : List F) where
  -- the columns that a butterfly's side gives
  abbrev pub paired_column : (F → F → F) → ℕ → List F
  paired_column f j =
      pairwise f (lane_column d stride half j lows) (lane_column d stride half j highs)

  same-height : (j : ℕ) → length (lane_column d stride half j lows)
      ≡ length (lane_column d stride half j highs)
  same-height j = length-stored_column d stride j half lows
      ∙ sym (length-stored_column d stride j half highs)

  length-paired : (f : F → F → F) (j : ℕ) → length (paired_column f j) ≡ half
  length-paired f j =
      length-pairwise f (lane_column d stride half j lows) (lane_column d stride half j highs)
      (same-height j) ∙ length-stored_column d stride j half lows

  -- both halves so far
  pub record PairedRows (i : ℕ) (low_now high_now : List F) : Type 0 where
    pub lower : WrittenRows d offset width stride half i (paired_column (low t)) lows low_now
    pub upper : WrittenRows d offset width stride half i (paired_column (high t)) highs high_now

  module _ (i a k : ℕ) (low_now high_now : List F) (so_far : PairedRows i low_now high_now)
      (is_start : a ≡ i * stride + offset) (is_width : k ≡ width) (within : offset + width ≤ stride)
      (below : i < half)
      (long : length low_now ≡ half * stride) (long' : length high_now ≡ half * stride) where
    row-length : (xs : List F) → length xs ≡ half * stride → length (mid_of a k xs) ≡ k
    row-length xs e =
        length-take-le k (drop a xs)
        (omega (
          arith,
          row-fits d offset width stride half i a k is_start is_width within
              below xs e,
          length-drop a xs,
        ))

    -- the entries of the rows, combined
    row-made : (f : F → F → F) (j : ℕ) → offset ≤ j → j < offset + width →
        slice_index_or (pairwise f (mid_of a k low_now) (mid_of a k high_now)) (j - offset) d
        ≡ slice_index_or (paired_column f j) i d
    row-made f j from to =
        let a' = lane_column d stride half j lows in
        let b' = lane_column d stride half j highs in
        let la = row-length low_now long in
        let lb = row-length high_now long' in
        pairwise-read f (mid_of a k low_now) (mid_of a k high_now) (j - offset) d d d
        (omega (arith, la, is_width, from, to)) (omega (arith, lb, is_width, from, to))
        ∙ ap (λ x. f x (slice_index_or (mid_of a k high_now) (j - offset) d))
        (row-read d offset width stride half i a k is_start is_width within below j low_now from to
        ∙ rows-read d offset width stride half (paired_column (low t)) lows i j low_now
        so_far.lower (length-paired (low t) j) from to)
        ∙ ap (f (slice_index_or a' i d))
        (row-read d offset width stride half i a k is_start is_width within below j high_now from to
        ∙ rows-read d offset width stride half (paired_column (high t)) highs i j high_now
        so_far.upper (length-paired (high t) j) from to)
        ∙ sym
        (pairwise-read f a' b' i d d d
        (omega (arith, length-stored_column d stride j half lows, below))
        (omega (arith, length-stored_column d stride j half highs, below)))

    row-wide : (f : F → F → F) → length (pairwise f (mid_of a k low_now) (mid_of a k high_now))
        ≡ width
    row-wide f =
        length-pairwise f (mid_of a k low_now) (mid_of a k high_now)
        (row-length low_now long ∙ sym (row-length high_now long')) ∙ row-length low_now long
        ∙ is_width

    -- two rows more
    pub paired-more : (xs ys : List F) →
        xs ≡ pairwise (low t) (mid_of a k low_now) (mid_of a k high_now) →
        ys ≡ pairwise (high t) (mid_of a k low_now) (mid_of a k high_now) →
        PairedRows (i + 1) (put_mid a k low_now xs) (put_mid a k high_now ys)
    paired-more xs ys is_low is_high = record {
      lower = rows-more d offset width stride half (paired_column (low t)) lows i a k low_now xs
          so_far.lower is_start is_width within
          below long (ap length is_low ∙ row-wide (low t)) (length-paired (low t))
          (λ j from to. ap (λ x. slice_index_or x (j - offset) d) is_low
          ∙ row-made (low t) j from to);
      upper = rows-more d offset width stride half (paired_column (high t)) highs i a k high_now ys
          so_far.upper is_start is_width within
          below long' (ap length is_high ∙ row-wide (high t)) (length-paired (high t))
          (λ j from to. ap (λ x. slice_index_or x (j - offset) d) is_high
          ∙ row-made (high t) j from to);
    }

  pub paired-none : PairedRows 0 lows highs
  paired-none = record {
    lower = rows-none d offset width stride half (paired_column (low t)) lows;
    upper = rows-none d offset width stride half (paired_column (high t)) highs;
  }

  -- all rows: a layer of one block
  pub paired-all : (i : ℕ) (low_now high_now old : List F) → PairedRows i low_now high_now →
      half ≤ i → old ≡ lows ++ highs → length lows ≡ half * stride →
      length low_now ≡ half * stride →
      ChangesRows d offset width stride (half + half) (layer low high half (t ∷ [])) old
      (low_now ++ high_now)
  paired-all i low_now high_now old so_far end whole long long' = record {
    inside = λ j from to.
        let a = lane_column d stride half j lows in
        let b = lane_column d stride half j highs in
        stored_column-append d stride j half half low_now high_now long'
        ∙ ap (λ x. x ++ lane_column d stride half j high_now)
        (rows-all d offset width stride half (paired_column (low t)) lows i j low_now
        so_far.lower (length-paired (low t) j) end from to)
        ∙ ap (λ x. paired_column (low t) j ++ x)
        (rows-all d offset width stride half (paired_column (high t)) highs i j high_now
        so_far.upper (length-paired (high t) j) end from to)
        ∙ sym
        (layer-halves low high half t a b (length-stored_column d stride j half lows)
        (length-stored_column d stride j half highs))
        ∙ ap (layer low high half (t ∷ []))
        (sym (stored_column-append d stride j half half lows highs long)
        ∙ ap (lane_column d stride (half + half) j) (sym whole));
    beside = λ j inside beside.
        stored_column-append d stride j half half low_now high_now long'
        ∙ ap (λ x. x ++ lane_column d stride half j high_now) (so_far.lower.beside j inside beside)
        ∙ ap (λ x. lane_column d stride half j lows ++ x) (so_far.upper.beside j inside beside)
        ∙ sym (stored_column-append d stride j half half lows highs long)
        ∙ ap (lane_column d stride (half + half) j) (sym whole);
  }

-- the parts of a block, one after another: each of them is a layer of one block
module _ {F : Type 0} (d : F) (low high : F → F → F → F) (offset width stride half : ℕ)
    (ts old : List F) where
  -- a column of a block
  abbrev pub block_column : ℕ → List F → List F
  block_column j xs = lane_column d stride (length ts * (half + half)) j xs

  -- the first i parts are done, and what is left to do makes the layer of each column of the group
  pub record LayeredRows (i : ℕ) (now : List F) : Type 0 where
    pub inside : (j : ℕ) → offset ≤ j → j < offset + width →
        take (i * (half + half)) (block_column j now)
        ++ layer low high half (drop i ts) (drop (i * (half + half)) (block_column j now))
        ≡ layer low high half ts (block_column j old)
    pub beside : (j : ℕ) → j < stride → (j < offset) ⊎ (offset + width ≤ j) → block_column j now
        ≡ block_column j old

  pub layered-none : LayeredRows 0 old
  layered-none =
      let none : 0 * (half + half) ≡ 0 = omega arith in
      record {
        inside =
            λ j from to. ap (λ n. take n (block_column j old)
            ++ layer low high half ts (drop n (block_column j old))) none;
        beside = λ j inside beside. refl;
      }

  -- one part more
  pub layered-more : (i a k : ℕ) (now ys : List F) (t : F) → LayeredRows i now → i < length ts →
      t ≡ slice_index_or ts i t → a ≡ i * ((half + half) * stride) → k ≡ (half + half) * stride →
      length now ≡ length ts * ((half + half) * stride) →
      ChangesRows d offset width stride (half + half) (layer low high half (t ∷ []))
      (mid_of a k now) ys → length ys ≡ k →
      LayeredRows (i + 1) (put_mid a k now ys)
  layered-more i a k now ys t so_far below is_t is_start is_width long change wide =
      let n = half + half in
      let height = length ts * n in
      let start : a ≡ i * n * stride = is_start ∙ sym (mul_assoc i n stride) in
      let tall : length now ≡ height * stride = long ∙ sym (mul_assoc (length ts) n stride) in
      let within : i * n + n ≤ height = let next : (i + 1) * n ≤ height =
      let le : i + 1 ≤ length ts = omega (arith, below) in mul-le-mul_right n le in
      omega (arith, next) in
      let put : (j : ℕ) →
      block_column j (put_mid a k now ys) ≡ put_mid (i * n) n (block_column j now)
      (lane_column d stride n j ys) =
      λ j. column-put_mid d stride height (i * n) n a k j now start is_width within ys tall wide in
      let mid : (j : ℕ) →
      lane_column d stride n j (mid_of a k now) ≡ mid_of (i * n) n (block_column j now) =
      λ j. column-mid d stride height (i * n) n a k j now start is_width within in
      let fits : (j : ℕ) → i * n + n ≤ length (block_column j now) =
      λ j. omega (arith, within, length-stored_column d stride j height now) in
      record {
        inside = λ j from to.
            let c = block_column j now in
            let y = lane_column d stride n j ys in
            let part : length (mid_of (i * n) n c) ≡ half + half =
            length-take-le n (drop (i * n) c) (omega (arith, fits j, length-drop (i * n) c)) in
            ap
            (λ x. take ((i + 1) * n) x
            ++ layer low high half (drop (i + 1) ts) (drop ((i + 1) * n) x)) (put j)
            ∙ layer-more low high half ts c y t i (i * n) n below is_t refl refl (fits j)
            (length-stored_column d stride j n ys)
            (change.inside j from to ∙ ap (layer low high half (t ∷ [])) (mid j)
            ∙ layer-one low high half t (mid_of (i * n) n c) part)
            ∙ so_far.inside j from to;
        beside = λ j inside beside.
            let c = block_column j now in
            put j ∙ ap (put_mid (i * n) n c) (change.beside j inside beside ∙ mid j)
            ∙ put-same (i * n) n c ∙ so_far.beside j inside beside;
      }

  -- all parts: the layer
  pub layered-all : (i : ℕ) (now : List F) → LayeredRows i now → i ≡ length ts →
      ChangesRows d offset width stride (length ts * (half + half)) (layer low high half ts) old now
  layered-all i now so_far end = record {
    inside = λ j from to.
        sym
        (block-end (layer low high half) (half + half) ts (block_column j now) i
        (length-stored_column d stride j (length ts * (half + half)) now) end refl)
        ∙ so_far.inside j from to;
    beside = so_far.beside;
  }
