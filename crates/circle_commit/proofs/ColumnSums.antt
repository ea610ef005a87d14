-- The sums of the columns of a matrix, each row times a weight.
use Rattle.std.specs.Prelude.{◌≡◌, ℕ, ◌+◌, ◌<◌, ◌≤◌, All, List, [], ◌∷◌, ◌++◌, length, map, take}
use Rattle.std.specs.Prelude.{slice_index_or}
use Rattle.std.specs.List.{range_with_len}
use Rattle.std.proofs.Common.{sym, ◌∙◌, refl, ap, arith}
use Rattle.std.proofs.lemmas.List.{length-map, take_all, take_more, length-take-le, get_or-map}
use Rattle.std.proofs.lemmas.List.{get_or_default}
use Rattle.std.proofs.lemmas.List.Elements.{All-head, All-tail, All-map}
use Rattle.std.proofs.lemmas.List.FromFn.{fill_by_all, get_or-map-range_with_len}
use Rattle.std.proofs.lemmas.List.FromFn.{length-map-range_with_len}
use Rattle.circle_field.specs.Field.{FieldOps, RingLaws}
use Rattle.circle_field.specs.RingFacts.{add_zero}
use Rattle.circle_commit.specs.Matrix.{column}
use Rattle.circle_commit.proofs.Written.{length-pairwise, pairwise-read}
use Rattle.circle_commit.specs.DotProduct.{dot, pairwise}

module _ {F : Type 0} {k : FieldOps F} (laws : RingLaws k) where
  pub dot-append : (xs us ys vs : List F) → length xs ≡ length ys → dot k (xs ++ us) (ys ++ vs)
      ≡ k.add (dot k xs ys) (dot k us vs)
  dot-append [] us [] vs e = sym (laws.zero_add (dot k us vs))
  dot-append [] us (y ∷ ys) vs e = absurd (omega (arith, e))
  dot-append (x ∷ xs) us [] vs e = absurd (omega (arith, e))
  dot-append (x ∷ xs) us (y ∷ ys) vs e =
      ap (k.add (k.mul x y)) (dot-append xs us ys vs (omega (arith, e)))
      ∙ sym (laws.add_assoc (k.mul x y) (dot k xs ys) (dot k us vs))

module _ {F E : Type 0} (l : FieldOps E) (m : F → E) (laws : RingLaws l) where
  -- one entry more
  pub dot-more : (i : ℕ) (ws vs : List E) (w v : E) → i < length ws → i < length vs →
      w ≡ slice_index_or ws i w → v ≡ slice_index_or vs i v →
      dot l (take (i + 1) ws) (take (i + 1) vs) ≡ l.add (dot l (take i ws) (take i vs)) (l.mul w v)
  dot-more i ws vs w v hw hv ew ev =
      let lw : length (take i ws) ≡ i = length-take-le i ws (omega arith) in
      let lv : length (take i vs) ≡ i = length-take-le i vs (omega arith) in
      ap (λ xs. dot l xs (take (i + 1) vs)) (take_more ws i w hw)
      ∙ ap (dot l (take i ws ++ slice_index_or ws i w ∷ [])) (take_more vs i v hv)
      ∙ dot-append laws (take i ws) (slice_index_or ws i w ∷ []) (take i vs)
      (slice_index_or vs i v ∷ []) (lw ∙ sym lv)
      ∙ ap (l.add (dot l (take i ws) (take i vs)))
      (add_zero laws (l.mul (slice_index_or ws i w) (slice_index_or vs i v)))
      ∙ ap (λ x. l.add (dot l (take i ws) (take i vs)) (l.mul x (slice_index_or vs i v))) (sym ew)
      ∙ ap (λ x. l.add (dot l (take i ws) (take i vs)) (l.mul w x)) (sym ev)

  -- the sums of the first i rows' columns
  abbrev pub partial : F → List E → List (List F) → ℕ → ℕ → E
  partial z ws rows i j = dot l (take i ws) (take i (map m (column z rows j)))

  pub partial-more : (z : F) (ws : List E) (rows : List (List F)) (width i : ℕ) (w : E)
      (row : List F) (sums : List E) →
      i < length ws → i < length rows → w ≡ slice_index_or ws i w →
      row ≡ slice_index_or rows i row → length row ≡ width →
      sums ≡ map (partial z ws rows i) (range_with_len 0 width) →
      pairwise (λ a x. l.add a (l.mul (m x) w)) sums row
      ≡ map (partial z ws rows (i + 1)) (range_with_len 0 width)
  partial-more z ws rows width i w row sums hw hr ew er wide e =
      let f = λ (a : E) (x : F). l.add a (l.mul (m x) w) in
      let long : length sums ≡ width =
      ap length e ∙ length-map-range_with_len (partial z ws rows i) 0 width in
      fill_by_all (partial z ws rows (i + 1)) (pairwise f sums row) width l.zero
      (length-pairwise f sums row (long ∙ sym wide) ∙ long)
      (λ j lt.
      let col = map m (column z rows j) in
      let read = λ (r : List F). slice_index_or r j z in
      let v : E = m (slice_index_or row j z) in
      let cv : i < length col =
      omega (arith, hr, length-map (column z rows j) m, length-map rows read) in
      let ev : v ≡ slice_index_or col i v =
      ap (λ r. m (slice_index_or r j z)) er
      ∙ ap m (sym (get_or-map read rows i row (slice_index_or row j z) hr))
      ∙ sym
      (get_or-map m (column z rows j) i (slice_index_or row j z) v
      (omega (arith, hr, length-map rows read))) in
      pairwise-read f sums row j l.zero z l.zero (omega (arith, lt, long)) (omega (arith, lt, wide))
      ∙ ap (λ a. l.add a (l.mul (m (slice_index_or row j z)) w))
      (ap (λ xs. slice_index_or xs j l.zero) e ∙ get_or-map-range_with_len (partial z ws rows i) 0
      width j j l.zero lt (omega arith))
      ∙ ap (l.add (partial z ws rows i j)) (laws.mul_comm (m (slice_index_or row j z)) w)
      ∙ sym (dot-more i ws col w v hw cv ew ev))

-- two functions that agree on each of a list
pub map-agree : {X Y : Type 0} (f h : X → Y) (xs : List X) → All (λ x. f x ≡ h x) xs →
    map f xs ≡ map h xs
map-agree f h [] same = refl
map-agree f h (x ∷ xs) same =
    ap (λ y. y ∷ map f xs) (All-head (λ z. f z ≡ h z) x xs same)
    ∙ ap (λ ys. h x ∷ ys) (map-agree f h xs (All-tail (λ z. f z ≡ h z) x xs same))

pub pairwise-own : {X Y Z : Type 0} (f : Y → X → Z) (h : X → Y) (xs : List X) →
    pairwise f (map h xs) xs ≡ map (λ x. f (h x) x) xs
pairwise-own f h [] = refl
pairwise-own f h (x ∷ xs) = ap (λ ys. f (h x) x ∷ ys) (pairwise-own f h xs)

one-each : {X Y : Type 0} (y : Y) (a : ℕ) (xs : List X) →
    map (λ _. y) (range_with_len a (length xs)) ≡ map (λ _. y) xs
one-each y a [] = refl
one-each y a (x ∷ xs) = ap (λ ys. y ∷ ys) (one-each y (a + 1) xs)

-- the same for each of several lists of weights, which see shows
module _ {F E W : Type 0} (l : FieldOps E) (m : F → E) (laws : RingLaws l) (see : W → List E)
    (z : F) (weights : List W) (rows : List (List F)) (width : ℕ) where
  abbrev pub partials : ℕ → List (List E)
  partials i = map (λ ws. map (partial l m laws z (see ws) rows i) (range_with_len 0 width)) weights

  pub partials-none : map (λ _. map (λ _. l.zero) (range_with_len 0 width))
      (range_with_len 0 (length weights)) ≡ partials 0
  partials-none = one-each (map (λ _. l.zero) (range_with_len 0 width)) 0 weights

  pub partials-more : (i : ℕ) (row : List F) (old : List (List E)) → i < length rows →
      row ≡ slice_index_or rows i row → length row ≡ width →
      All (λ ws. i < length (see ws)) weights → old ≡ partials i →
      pairwise (λ s ws. pairwise (λ a x. l.add a (l.mul (m x) (slice_index_or (see ws) i l.zero))) s
      row) old weights ≡ partials (i + 1)
  partials-more i row old hr er wide weighted e =
      let f =
      λ (s : List E) (ws : W). pairwise
      (λ a x. l.add a (l.mul (m x) (slice_index_or (see ws) i l.zero))) s row in
      let part =
      λ (n : ℕ) (ws : W). map (partial l m laws z (see ws) rows n) (range_with_len 0 width) in
      ap (λ o. pairwise f o weights) e ∙ pairwise-own f (part i) weights
      ∙ map-agree (λ ws. f (part i ws) ws) (part (i + 1)) weights (λ q d lt.
      let ws = slice_index_or weights q d in
      let w = slice_index_or (see ws) i l.zero in
      let hw = weighted q d lt in
      partial-more l m laws z (see ws) rows width i w row (part i ws) hw hr
      (get_or_default (see ws) i l.zero w hw) er wide refl)

  pub partials-all : (i : ℕ) → All (λ ws. length (see ws) ≤ i) weights → length rows ≤ i →
      partials i
      ≡ map (λ ws. map (λ j. dot l (see ws) (map m (column z rows j))) (range_with_len 0 width))
      weights
  partials-all i weighted tall =
      map-agree (λ ws. map (partial l m laws z (see ws) rows i) (range_with_len 0 width))
      (λ ws. map (λ j. dot l (see ws) (map m (column z rows j))) (range_with_len 0 width))
      weights (λ q d lt.
      let ws = see (slice_index_or weights q d) in
      map-agree (partial l m laws z ws rows i) (λ j. dot l ws (map m (column z rows j)))
      (range_with_len 0 width) (λ p e _.
      let j = slice_index_or (range_with_len 0 width) p e in
      let col = map m (column z rows j) in
      let high : length col ≡ length rows = length-map (column z rows j) m
      ∙ length-map rows (λ r. slice_index_or r j z) in
      ap (λ xs. dot l xs (take i col)) (take_all i ws (weighted q d lt))
      ∙ ap (dot l ws) (take_all i col (omega (arith, high, tall)))))

  pub partials-widths : {V : Type 0} (items : V → List E) (now : List V) (i : ℕ) →
      map items now ≡ partials i → All (λ v. length (items v) ≡ width) now
  partials-widths items now i e = λ k d lt.
      let part = λ (ws : W). map (partial l m laws z (see ws) rows i) (range_with_len 0 width) in
      let inside : k < length (map part weights) =
      omega (arith, lt, ap length e, length-map now items) in
      ap length (sym (get_or-map items now k d (items d) lt)
      ∙ ap (λ xs. slice_index_or xs k (items d)) e)
      ∙ All-map (λ s. length s ≡ width) part weights
      (λ q ws _. length-map-range_with_len
      (partial l m laws z (see (slice_index_or weights q ws)) rows i) 0 width) k (items d)
      inside
