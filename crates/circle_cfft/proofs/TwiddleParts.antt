-- The factors of all layers but the first in one list, and its parts, which are the layers.
use Rattle.std.specs.Prelude.{◌≡◌, ◌≢◌, ℕ, ◌+◌, ◌-◌, ◌*◌, ◌/◌, ◌^◌, ◌<◌, ◌≤◌, List, [], ◌∷◌, ◌++◌}
use Rattle.std.specs.Prelude.{length, map, take, drop, slice_index_or}
use Rattle.std.specs.List.{AllByRecursion, range_with_len}
use Rattle.std.proofs.Common.{zero, suc, sym, ◌∙◌, ap, refl, arith, subst, length-append}
use Rattle.std.proofs.Common.{append-nil, ⊎_elim}
use Rattle.std.proofs.Math.Nat.{pow-suc}
use Rattle.std.proofs.lemmas.Bool.{cases_lt}
use Rattle.std.proofs.lemmas.List.{length-map, take-map, take_at, drop_at, get_or_append_left}
use Rattle.std.proofs.lemmas.List.{get_or-append-add, get_or-take, take_more}
use Rattle.circle_field.specs.Field.{FieldOps, FieldLaws}
use Rattle.circle_field.specs.Circle.{Coordinates, IsOnCircle, AreGenerators, times, origin}
use Rattle.circle_point.specs.Basis.{doubled_x}
use Rattle.circle_domain.specs.Layers.{layer_factors, every_second}
use Rattle.circle_domain.proofs.Blocks.{all-append}
use Rattle.circle_domain.proofs.Columns.{drop-map}
use Rattle.circle_domain.proofs.LayerFactors.{layer_factors-nonzero}
use Rattle.circle_domain.proofs.Twiddles.{map-map, next_factors, length-layer_factors}
use Rattle.circle_cfft.specs.Twiddles.{first_of_second, layers_from, halving_parts, twice}
use Rattle.circle_cfft.specs.Twiddles.{AreLinked}
use Rattle.circle_cfft.proofs.QuarterTurns.{first_layer-is, first_layer-inverses}
use Rattle.circle_cfft.proofs.QuarterQuads.{Quads, layer-quads}

-- every second entry is half as many
length-every_second : {T : Type 0} (m : ℕ) (xs : List T) → length xs ≡ m + m →
    length (every_second xs) ≡ m
length-every_second m [] e = omega (arith, e)
length-every_second m (x ∷ []) e = absurd (omega (arith, e))
length-every_second zero (x ∷ y ∷ xs) e = absurd (omega (arith, e))
length-every_second (suc m) (x ∷ y ∷ xs) e = ap suc (length-every_second m xs (omega (arith, e)))

-- the parts of a list that is mapped
pub halving_parts-map : {A B : Type 0} (f : A → B) (count : ℕ) (xs : List A) →
    halving_parts count (map f xs) ≡ map (map f) (halving_parts count xs)
halving_parts-map f zero xs = refl
halving_parts-map f (suc count) xs =
    ap (λ part. part ∷ halving_parts count (drop (2 ^ count) (map f xs)))
    (take-map f (2 ^ count) xs)
    ∙ ap (λ rest. map f (take (2 ^ count) xs) ∷ halving_parts count rest)
    (drop-map f (2 ^ count) xs)
    ∙ ap (λ rest. map f (take (2 ^ count) xs) ∷ rest)
    (halving_parts-map f count (drop (2 ^ count) xs))

module _ {F : Type 0} (k : FieldOps F) where
  -- the layer after one
  abbrev next : List F → List F
  next xs = map (doubled_x k) (every_second xs)

  -- the layer after one has half as many factors
  length-next : (m : ℕ) (xs : List F) → length xs ≡ 2 ^ suc m → length (next xs) ≡ 2 ^ m
  length-next m xs long = length-map (every_second xs) (doubled_x k)
      ∙ length-every_second (2 ^ m) xs (long ∙ omega (arith, pow-suc 2 m))

  -- an entry of the layer after one
  next-entry : (xs : List F) (i : ℕ) (d : F) → 2 * i < length xs → slice_index_or (next xs) i d
      ≡ doubled_x k (slice_index_or xs (2 * i) d)
  next-entry [] i d h = absurd (omega arith)
  next-entry (x ∷ []) zero d h = refl
  next-entry (x ∷ []) (suc i) d h = absurd (omega arith)
  next-entry (x ∷ y ∷ xs) zero d h = refl
  next-entry (x ∷ y ∷ xs) (suc i) d h =
      let e : 2 * suc i ≡ suc (suc (2 * i)) = omega arith in
      next-entry xs i d (omega arith) ∙ ap (λ j. doubled_x k (slice_index_or (x ∷ y ∷ xs) j d))
      (sym e)

  -- each layer has half as many factors as the one before
  pub length-layers : (m : ℕ) (xs : List F) → length xs ≡ 2 ^ m → length (layers_from k (suc m) xs)
      + 1 ≡ 2 ^ m + 2 ^ m
  length-layers zero xs long = ap (λ ys. length ys + 1) (append-nil xs) ∙ omega (arith, long)
  length-layers (suc m) xs long =
      let rest = layers_from k (suc m) (next xs) in
      let more : length rest + 1 ≡ 2 ^ m + 2 ^ m =
      length-layers m (next xs) (length-next m xs long) in
      ap (λ n. n + 1) (length-append xs rest) ∙ omega (arith, more, long, pow-suc 2 m)

  -- the entries after the lowest layer are made of those at twice their place
  doubled-entry : (m : ℕ) (xs : List F) (i : ℕ) (d : F) → length xs ≡ 2 ^ m → i + 1 < 2 ^ m →
      slice_index_or (layers_from k (suc m) xs) (2 ^ m + i) d
      ≡ doubled_x k (slice_index_or (layers_from k (suc m) xs) (2 * i) d)
  doubled-entry zero xs i d long h = absurd (omega arith)
  doubled-entry (suc m) xs i d long h =
      let rest = layers_from k (suc m) (next xs) in
      let whole = xs ++ rest in
      let twice : 2 ^ suc m ≡ 2 ^ m + 2 ^ m = omega (arith, pow-suc 2 m) in
      let half : length (next xs) ≡ 2 ^ m = length-next m xs long in
      let past : slice_index_or whole (2 ^ suc m + i) d ≡ slice_index_or rest i d =
      ap (λ n. slice_index_or whole (n + i) d) (sym long) ∙ get_or-append-add xs rest i d in
      past ∙ ⊎_elim
      (λ low. let below : i < 2 ^ m = low in
      get_or_append_left (next xs) (layers_from k m (next (next xs))) d i
      (omega (arith, half, below))
      ∙ next-entry xs i d (omega (arith, below, twice, long))
      ∙ ap (doubled_x k)
      (sym (get_or_append_left xs rest d (2 * i) (omega (arith, below, twice, long)))))
      (λ high. let above : 2 ^ m ≤ i = high in
      let j = i - 2 ^ m in
      let from : i ≡ 2 ^ m + j = omega (arith, above) in
      let double : length xs + 2 * j ≡ 2 * i = omega (arith, above, twice, long) in
      ap (λ n. slice_index_or rest n d) from
      ∙ doubled-entry m (next xs) j d half (omega (arith, h, twice, above))
      ∙ ap (doubled_x k) (sym (get_or-append-add xs rest (2 * j) d)
      ∙ ap (λ n. slice_index_or whole n d) double))
      (cases_lt i (2 ^ m))

  -- one entry more
  pub layers-more : (m : ℕ) (xs made : List F) (i : ℕ) (d : F) → length xs ≡ 2 ^ m → i + 1 < 2 ^ m →
      made ≡ take (2 ^ m + i) (layers_from k (suc m) xs) →
      made ++ doubled_x k (slice_index_or made (2 * i) d) ∷ []
      ≡ take (2 ^ m + (i + 1)) (layers_from k (suc m) xs)
  layers-more m xs made i d long h so_far =
      let whole = layers_from k (suc m) xs in
      let more : 2 ^ m + i + 1 ≡ 2 ^ m + (i + 1) = omega arith in
      let within : 2 ^ m + i < length whole = omega (arith, h, length-layers m xs long) in
      let read : slice_index_or made (2 * i) d ≡ slice_index_or whole (2 * i) d =
      ap (λ ys. slice_index_or ys (2 * i) d) so_far
      ∙ get_or-take (2 ^ m + i) whole (2 * i) d (omega (arith, h)) in
      ap (λ ys. ys ++ doubled_x k (slice_index_or made (2 * i) d) ∷ []) so_far
      ∙ ap (λ y. take (2 ^ m + i) whole ++ y ∷ [])
      (ap (doubled_x k) read ∙ sym (doubled-entry m xs i d long h))
      ∙ sym (take_more whole (2 ^ m + i) d within)
      ∙ ap (λ n. take n whole) more

  -- an entry past the first list
  above-read : (xs ys : List F) (i r : ℕ) (d : F) → length xs + r ≡ i →
      slice_index_or (xs ++ ys) i d ≡ slice_index_or ys r d
  above-read xs ys i r d e = ap (λ n. slice_index_or (xs ++ ys) n d) (sym e)
      ∙ get_or-append-add xs ys r d

  same_twice : {a b c d : F} → a ≡ c → b ≡ d → twice k a b ≡ twice k c d
  same_twice p q = cc

  -- one layer more below
  linked-append : (c : ℕ) (xs ys zs : List F) → length xs ≡ 2 ^ suc (suc c) →
      length ys ≡ 2 ^ suc c → Quads k xs ys → AreLinked k (2 ^ suc c) (ys ++ zs) →
      AreLinked k (2 ^ suc (suc c)) (xs ++ (ys ++ zs))
  linked-append c xs ys zs long half quads later i d h =
      let rest = ys ++ zs in
      let two : 2 ^ suc c ≡ 2 * 2 ^ c = omega (arith, pow-suc 2 c) in
      let four : 2 ^ suc (suc c) ≡ 4 * 2 ^ c = omega (arith, two, pow-suc 2 (suc c)) in
      ⊎_elim
      (λ low. let below : i < 2 ^ c = low in
      let q = quads i d (omega (arith, below, four, long)) in
      let read = λ (m : ℕ) (lt : m < 2 ^ suc (suc c)). get_or_append_left xs rest d m
      (omega (arith, lt, long)) in (
        same_twice (read (4 * i) (omega (arith, below, four)))
            (read (4 * i + 1) (omega (arith, below, four)))
            ∙ q.0
            ∙ sym
            (above-read xs rest (2 ^ suc (suc c) + (2 * i + 1)) (2 * i + 1) d
            (omega (arith, long))
            ∙ get_or_append_left ys zs d (2 * i + 1) (omega (arith, below, two, half))),
        same_twice (read (4 * i + 2) (omega (arith, below, four)))
            (read (4 * i + 3) (omega (arith, below, four)))
            ∙ q.1
            ∙ ap k.neg
            (sym (above-read xs rest (2 ^ suc (suc c) + 2 * i) (2 * i) d (omega (arith, long))
            ∙ get_or_append_left ys zs d (2 * i) (omega (arith, below, two, half)))),
      ))
      (λ high. let above : 2 ^ c ≤ i = high in
      let j = i - 2 ^ c in
      let q = later j d (omega (arith, h, above, four, long, length-append xs rest)) in (
        same_twice (above-read xs rest (4 * i) (4 * j) d (omega (arith, above, four, long)))
            (above-read xs rest (4 * i + 1) (4 * j + 1) d (omega (arith, above, four, long)))
            ∙ q.0
            ∙ sym
            (above-read xs rest (2 ^ suc (suc c) + (2 * i + 1)) (2 ^ suc c + (2 * j + 1)) d
            (omega (arith, above, four, two, long))),
        same_twice (above-read xs rest (4 * i + 2) (4 * j + 2) d (omega (arith, above, four, long)))
            (above-read xs rest (4 * i + 3) (4 * j + 3) d (omega (arith, above, four, long)))
            ∙ q.1
            ∙ ap k.neg
            (sym
            (above-read xs rest (2 ^ suc (suc c) + 2 * i) (2 ^ suc c + 2 * j) d
            (omega (arith, above, four, two, long)))),
      ))
      (cases_lt i (2 ^ c))

module _ {F : Type 0} (k : FieldOps F) (gen : ℕ → Coordinates F) where
  -- the layers after one are those from the next on
  following : (count n j : ℕ) (s : Coordinates F) → 1 ≤ j → j + suc count ≡ n →
      layers_from k count (next k (layer_factors k gen n s j))
      ≡ layers_from k count (layer_factors k gen n s (j + 1))
  following zero n j s some e = refl
  following (suc count) n j s some e =
      ap (layers_from k (suc count)) (sym (next_factors k gen n j s some (omega (arith, e))))

  -- how many factors the layer has that count others follow
  length-from : (count n j : ℕ) (s : Coordinates F) → j + suc count ≡ n →
      length (layer_factors k gen n s j) ≡ 2 ^ count
  length-from count n j s e =
      let f : n - (j + 1) ≡ count = omega (arith, e) in
      length-layer_factors k gen n j s ∙ ap (λ i. 2 ^ i) f

  -- the parts are the layers
  parts-are : (count n j : ℕ) (s : Coordinates F) → 1 ≤ j → j + count ≡ n →
      halving_parts count (layers_from k count (layer_factors k gen n s j))
      ≡ map (layer_factors k gen n s) (range_with_len j count)
  parts-are zero n j s some e = refl
  parts-are (suc count) n j s some e =
      let f = layer_factors k gen n s in
      let rest = layers_from k count (next k (f j)) in
      let long = length-from count n j s e in
      ap (λ part. part ∷ halving_parts count (drop (2 ^ count) (f j ++ rest)))
      (take_at (f j) rest (2 ^ count) long)
      ∙ ap (λ others. f j ∷ halving_parts count others) (drop_at (f j) rest (2 ^ count) long
      ∙ following count n j s some e)
      ∙ ap (λ others. f j ∷ others) (parts-are count n (j + 1) s (omega arith) (omega (arith, e)))

  -- how many factors there are from the second layer on
  pub length-higher : (n : ℕ) (s : Coordinates F) → 3 ≤ n →
      length (layers_from k (n - 1) (layer_factors k gen n s 1)) + 1 ≡ 2 ^ (n - 1)
  length-higher n s some =
      let m = n - 2 in
      let e : n - 1 ≡ suc m = omega arith in
      ap (λ i. length (layers_from k i (layer_factors k gen n s 1)) + 1) e
      ∙ length-layers k m (layer_factors k gen n s 1) (length-from m n 1 s (omega arith))
      ∙ omega (arith, pow-suc 2 m) ∙ ap (λ i. 2 ^ i) (sym e)

module _ {F : Type 0} {k : FieldOps F} (laws : FieldLaws k) {gen : ℕ → Coordinates F} {bits : ℕ}
    (gens : AreGenerators k bits gen) (fits : 2 ≤ bits) (n : ℕ) (s : Coordinates F) (some : 3 ≤ n)
  where
    -- the layers of one domain
    abbrev f : ℕ → List F
    f = layer_factors k gen n s

    -- the first part is the second layer
    second-part : (higher : List F) → higher ≡ layers_from k (n - 1) (f 1) →
        take (2 ^ (n - 2)) higher
        ≡ f 1
    second-part higher are =
        let e : n - 1 ≡ suc (n - 2) = omega arith in
        ap (take (2 ^ (n - 2))) (are ∙ ap (λ i. layers_from k i (f 1)) e)
        ∙ take_at (f 1) (layers_from k (n - 2) (next k (f 1))) (2 ^ (n - 2))
        (length-from k gen (n - 2) n 1 s (omega arith))

    -- the first layer before the others
    first-range : {T : Type 0} (h : ℕ → T) → h 0 ∷ map h (range_with_len 1 (n - 1))
        ≡ map h (range_with_len 0 n)
    first-range h = let e : suc (n - 1) ≡ n = omega arith in ap (λ i. map h (range_with_len 0 i)) e

    -- all layers, from the list of all but the first
    pub all_layers : (higher : List F) → higher ≡ layers_from k (n - 1) (f 1) →
        first_of_second k (gen 2).y (take (2 ^ (n - 2)) higher) ∷ halving_parts (n - 1) higher
        ≡ map f (range_with_len 0 n)
    all_layers higher are =
        ap (λ first. first ∷ halving_parts (n - 1) higher)
        (ap (first_of_second k (gen 2).y) (second-part higher are)
        ∙ sym (first_layer-is laws gens fits n s some))
        ∙ ap (λ rest. f 0 ∷ rest) (ap (halving_parts (n - 1)) are
        ∙ parts-are k gen (n - 1) n 1 s (omega arith) (omega arith))
        ∙ first-range f

    -- no factor of a genuine domain is 0
    higher-nonzero : (count j : ℕ) → 1 ≤ j → j + count ≡ n → n ≤ bits → IsOnCircle k s →
        times k (2 ^ n) s ≢ origin k →
        AllByRecursion (λ t. t ≢ k.zero) (layers_from k count (f j))
    higher-nonzero zero j low e small on_circle genuine = tt
    higher-nonzero (suc count) j low e small on_circle genuine =
        all-append (λ t. t ≢ k.zero) (f j) (layers_from k count (next k (f j)))
        (layer_factors-nonzero laws gens n s small on_circle genuine j (omega (arith, e)))
        (subst (AllByRecursion (λ t. t ≢ k.zero)) (sym (following k gen count n j s low e))
        (higher-nonzero count (j + 1) (omega arith) (omega (arith, e)) small on_circle genuine))

    -- nor one of the list of all but the first layer
    pub all-nonzero : (higher : List F) → higher ≡ layers_from k (n - 1) (f 1) → n ≤ bits →
        IsOnCircle k s → times k (2 ^ n) s ≢ origin k →
        AllByRecursion (λ t. t ≢ k.zero) higher
    all-nonzero higher are small on_circle genuine =
        subst (AllByRecursion (λ t. t ≢ k.zero)) (sym are)
        (higher-nonzero (n - 1) 1 (omega arith) (omega arith) small on_circle genuine)

    -- the inverses of all layers, from those of the list of all but the first
    pub all_inverses : (higher inverses : List F) → higher ≡ layers_from k (n - 1) (f 1) →
        inverses ≡ map k.inv higher → n ≤ bits → IsOnCircle k s → times k (2 ^ n) s ≢ origin k →
        first_of_second k (gen 2).y (take (2 ^ (n - 2)) inverses) ∷ halving_parts (n - 1) inverses
        ≡ map (λ m. map k.inv (f m)) (range_with_len 0 n)
    all_inverses higher inverses are inverted small on_circle genuine =
        let nonzero = layer_factors-nonzero laws gens n s small on_circle genuine 1 (omega arith) in
        let second : take (2 ^ (n - 2)) inverses ≡ map k.inv (f 1) =
        ap (take (2 ^ (n - 2))) inverted ∙ take-map k.inv (2 ^ (n - 2)) higher
        ∙ ap (map k.inv) (second-part higher are) in
        let first : first_of_second k (gen 2).y (take (2 ^ (n - 2)) inverses) ≡ map k.inv (f 0) =
        ap (first_of_second k (gen 2).y) second ∙ first_layer-inverses laws gens fits (f 1) nonzero
        ∙ ap (map k.inv) (sym (first_layer-is laws gens fits n s some)) in
        let others : halving_parts (n - 1) inverses ≡ map (λ m. map k.inv (f m))
        (range_with_len 1 (n - 1)) =
        ap (halving_parts (n - 1)) inverted ∙ halving_parts-map k.inv (n - 1) higher
        ∙ ap (map (map k.inv)) (ap (halving_parts (n - 1)) are
        ∙ parts-are k gen (n - 1) n 1 s (omega arith) (omega arith))
        ∙ map-map (map k.inv) f (range_with_len 1 (n - 1)) in
        ap (λ part. part ∷ halving_parts (n - 1) inverses) first
        ∙ ap (λ rest. map k.inv (f 0) ∷ rest) others ∙ first-range (λ m. map k.inv (f m))

    -- entries of the factors of all layers but the first, and those of the next layers
    linked-from : (count j : ℕ) → suc j + suc count ≡ n → n ≤ bits → IsOnCircle k s →
        AreLinked k (2 ^ count) (layers_from k (suc count) (f (suc j)))
    linked-from zero j e small on_circle i d h =
        absurd (omega (arith, h, length-layers k 0 (f (suc j)) (length-from k gen 0 n (suc j) s e)))
    linked-from (suc zero) j e small on_circle i d h =
        absurd (omega (arith, h, length-layers k 1 (f (suc j)) (length-from k gen 1 n (suc j) s e)))
    linked-from (suc (suc c)) j e small on_circle i d h =
        let xs = f (suc j) in
        let rest = layers_from k (suc (suc c)) (f (suc j + 1)) in
        let long : length xs ≡ 2 ^ suc (suc c) = length-from k gen (suc (suc c)) n (suc j) s e in
        let above : length (f (suc j + 1)) ≡ 2 ^ suc c =
        length-from k gen (suc c) n (suc j + 1) s (omega (arith, e)) in
        let one : suc j + 1 ≡ suc (suc j) = omega arith in
        let quads = layer-quads laws gens j n s (omega (arith, e)) small on_circle in
        let later : AreLinked k (2 ^ suc c) rest =
        subst (λ m. AreLinked k (2 ^ suc c) (layers_from k (suc (suc c)) (f m))) (sym one)
        (linked-from (suc c) (suc j) (omega (arith, e)) small on_circle) in
        subst (λ ys. AreLinked k (2 ^ suc (suc c)) (xs ++ ys))
        (sym (following k gen (suc (suc c)) n (suc j) s (omega arith) e))
        (linked-append k c xs (f (suc j + 1)) (layers_from k (suc c) (next k (f (suc j + 1)))) long
        above quads later) i d h

    -- the same for the list of all but the first layer
    pub all-linked : (higher : List F) → higher ≡ layers_from k (n - 1) (f 1) → n ≤ bits →
        IsOnCircle k s → AreLinked k (2 ^ (n - 2)) higher
    all-linked higher are small on_circle =
        let e : n - 1 ≡ suc (n - 2) = omega arith in
        subst (AreLinked k (2 ^ (n - 2))) (sym (are ∙ ap (λ i. layers_from k i (f 1)) e))
        (linked-from (n - 2) 0 (omega arith) small on_circle)

    -- how many factors there are in all layers but the first
    pub count-higher : (higher : List F) → higher ≡ layers_from k (n - 1) (f 1) → length higher + 1
        ≡ 4 * 2 ^ (n - 3)
    count-higher higher are =
        let e : n - 1 ≡ suc (suc (n - 3)) = omega arith in
        ap (λ xs. length xs + 1) are ∙ length-higher k gen n s some ∙ ap (λ i. 2 ^ i) e
        ∙ omega (arith, pow-suc 2 (suc (n - 3)), pow-suc 2 (n - 3))

    -- with the half of its length and one for the number of the second layer
    pub linked-higher : (higher : List F) → higher ≡ layers_from k (n - 1) (f 1) → n ≤ bits →
        IsOnCircle k s → AreLinked k ((length higher + 1) / 2) higher
    linked-higher higher are small on_circle =
        let e : n - 2 ≡ suc (n - 3) = omega arith in
        let half : 2 ^ (n - 2) ≡ (length higher + 1) / 2 = ap (λ i. 2 ^ i) e
        ∙ omega (arith, count-higher higher are, pow-suc 2 (n - 3)) in
        subst (λ h. AreLinked k h higher) half (all-linked higher are small on_circle)
