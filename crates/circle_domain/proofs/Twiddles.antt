-- The factors of the layers, from the points of a coset on.
use Rattle.std.specs.Prelude.{◌≡◌, ℕ, ◌+◌, ◌-◌, ◌*◌, ◌/◌, ◌%◌, ◌^◌, ◌<◌, ◌≤◌, List, [], ◌∷◌, ◌++◌}
use Rattle.std.specs.Prelude.{length, map, drop, slice_index_or}
use Rattle.std.specs.List.{range_with_len}
use Rattle.std.proofs.Common.{zero, suc, sym, ◌∙◌, ap, refl, arith, append_assoc, append-nil}
use Rattle.std.proofs.Math.Nat.{pow-suc}
use Rattle.std.proofs.Math.ListN.{get_or-map}
use Rattle.std.proofs.lemmas.List.FromFn.{get_or-map-range_with_len, length-map-range_with_len}
use Rattle.std.proofs.lemmas.List.{map-append, drop_more, length-map}
use Rattle.circle_field.specs.Field.{FieldOps, RingLaws}
use Rattle.circle_field.specs.Circle.{Coordinates, plus}
use Rattle.circle_field.specs.CircleGroup.{plus_comm, plus_assoc}
use Rattle.circle_point.specs.Basis.{doubled_x, iterated_x}
use Rattle.circle_domain.specs.Order.{coset}
use Rattle.circle_domain.specs.Layers.{factor, second_half, block_starts, layer_factors, copies}
use Rattle.circle_domain.specs.Layers.{every_second}
use Rattle.circle_domain.proofs.Layering.{halves, block_starts-halves, length-block_starts}
use Rattle.circle_point.proofs.Multiples.{iterated_x-suc}

pub copies-last : {T : Type 0} (n : ℕ) (xs : List T) → copies n xs ++ xs ≡ copies (n + 1) xs
copies-last zero xs = sym (append-nil xs)
copies-last (suc n) xs =
    let e : suc (n + 1) ≡ suc n + 1 = omega arith in
    append_assoc xs (copies n xs) xs ∙ ap (λ rest. xs ++ rest) (copies-last n xs)
    ∙ ap (λ m. copies m xs) e

pub every_second-more : {T : Type 0} (xs : List T) (i : ℕ) (d : T) → length xs % 2 ≡ 0 →
    i < length xs / 2 →
    every_second (drop (2 * i) xs) ≡ slice_index_or xs (2 * i) d
    ∷ every_second (drop (2 * (i + 1)) xs)
every_second-more xs i d even h =
    let e : 2 * (i + 1) ≡ 2 * i + 1 + 1 = omega arith in
    ap every_second (drop_more xs (2 * i) d (omega (arith, even, h))
    ∙ ap (λ rest. slice_index_or xs (2 * i) d ∷ rest)
    (drop_more xs (2 * i + 1) d (omega (arith, even, h))))
    ∙ ap (λ n. slice_index_or xs (2 * i) d ∷ every_second (drop n xs)) (sym e)

pub map-map : {A B C : Type 0} (f : B → C) (h : A → B) (xs : List A) → map f (map h xs)
    ≡ map (λ a. f (h a)) xs
map-map f h [] = refl
map-map f h (x ∷ xs) = ap (λ rest. f (h x) ∷ rest) (map-map f h xs)

module _ {F : Type 0} {k : FieldOps F} (laws : RingLaws k) (gen : ℕ → Coordinates F) where
  -- a coset that is moved
  pub coset-moved : (m : ℕ) (s g : Coordinates F) → coset k gen m (plus k s g)
      ≡ map (λ p. plus k p g) (coset k gen m s)
  coset-moved zero s g = refl
  coset-moved (suc m) s g =
      let h = gen (suc m) in
      ap (λ xs. xs ++ coset k gen m (plus k (plus k s g) h)) (coset-moved m s g)
      ∙ ap (λ p. map (λ p. plus k p g) (coset k gen m s) ++ coset k gen m p)
      (plus_assoc laws s g h ∙ ap (plus k s) (plus_comm laws g h) ∙ sym (plus_assoc laws s h g))
      ∙ ap (λ ys. map (λ p. plus k p g) (coset k gen m s) ++ ys) (coset-moved m (plus k s h) g)
      ∙ sym (map-append (λ p. plus k p g) (coset k gen m s) (coset k gen m (plus k s h)))

  pub coset-more : (m : ℕ) (s : Coordinates F) → coset k gen (m + 1) s ≡ coset k gen m s
      ++ map (λ p. plus k p (gen (m + 1))) (coset k gen m s)
  coset-more m s =
      let e : m + 1 ≡ suc m = omega arith in
      ap (λ n. coset k gen n s) e ∙ ap (λ ys. coset k gen m s ++ ys) (coset-moved m s (gen (suc m)))
      ∙ ap (λ n. coset k gen m s ++ map (λ p. plus k p (gen n)) (coset k gen m s)) (sym e)

module _ {F : Type 0} (k : FieldOps F) (gen : ℕ → Coordinates F) where
  pub block_starts-coset : (a : ℕ) (q : Coordinates F) → block_starts k gen a 1 q ≡ coset k gen a q
  block_starts-coset zero q = refl
  block_starts-coset (suc a) q =
      let e : a + 1 ≡ suc a = omega arith in
      ap (λ n. block_starts k gen a 1 q ++ block_starts k gen a 1 (second_half k gen n q)) e
      ∙ ap (λ xs. xs ++ block_starts k gen a 1 (plus k q (gen (suc a)))) (block_starts-coset a q)
      ∙ ap (λ ys. coset k gen a q ++ ys) (block_starts-coset a (plus k q (gen (suc a))))

  every_second-halves : (m : ℕ) (qs : List (Coordinates F)) → every_second (halves k gen m qs) ≡ qs
  every_second-halves m [] = refl
  every_second-halves m (q ∷ qs) = ap (λ rest. q ∷ rest) (every_second-halves m qs)

  every_second-map : {A B : Type 0} (f : A → B) (xs : List A) → every_second (map f xs)
      ≡ map f (every_second xs)
  every_second-map f [] = refl
  every_second-map f (x ∷ []) = refl
  every_second-map f (x ∷ y ∷ xs) = ap (λ rest. f x ∷ rest) (every_second-map f xs)

  -- the first layer has the y coordinates of the coset
  pub first_factors : (n : ℕ) (s : Coordinates F) → layer_factors k gen n s 0
      ≡ map (λ p. p.y) (coset k gen (n - 1) s)
  first_factors n s =
      let e : n - (0 + 1) ≡ n - 1 = omega arith in
      let one : 0 + 1 ≡ 1 = omega arith in
      ap (λ a. map (factor k 0) (block_starts k gen a (0 + 1) s)) e
      ∙ ap (λ m. map (factor k 0) (block_starts k gen (n - 1) m s)) one
      ∙ ap (map (factor k 0)) (block_starts-coset (n - 1) s)

  -- the second has every second x coordinate
  pub second_factors : (n : ℕ) (s : Coordinates F) → 1 < n → layer_factors k gen n s 1
      ≡ map (λ p. p.x) (every_second (coset k gen (n - 1) s))
  second_factors n s h =
      let a : suc (n - 2) ≡ n - 1 = omega arith in
      let b : n - (1 + 1) ≡ n - 2 = omega arith in
      ap (λ m. map (factor k 1) (block_starts k gen m (1 + 1) s)) b
      ∙ ap (map (factor k 1)) (sym (every_second-halves 1 (block_starts k gen (n - 2) (1 + 1) s)))
      ∙ ap (λ qs. map (factor k 1) (every_second qs)) (sym (block_starts-halves k gen (n - 2) 1 s)
      ∙ ap (λ m. block_starts k gen m 1 s) a ∙ block_starts-coset (n - 1) s)

  -- and each further one the x coordinates of the doubles of every second
  pub next_factors : (n m : ℕ) (s : Coordinates F) → 1 ≤ m → m + 1 < n →
      layer_factors k gen n s (m + 1) ≡ map (doubled_x k) (every_second (layer_factors k gen n s m))
  next_factors n zero s h g = absurd (omega arith)
  next_factors n (suc i) s h g =
      let m = suc i in
      let a = n - (m + 1 + 1) in
      let qs = block_starts k gen a (m + 1 + 1) s in
      let e : n - (m + 1) ≡ suc a = omega arith in
      let one : m + 1 ≡ suc (suc i) = omega arith in
      sym
      (ap
      (λ b. map (doubled_x k)
      (every_second (map (factor k m) (block_starts k gen b (m + 1) s)))) e
      ∙ ap (λ ps. map (doubled_x k) (every_second (map (factor k m) ps)))
      (block_starts-halves k gen a (m + 1) s)
      ∙ ap (map (doubled_x k)) (every_second-map (factor k m) (halves k gen (m + 1) qs)
      ∙ ap (map (factor k m)) (every_second-halves (m + 1) qs))
      ∙ map-map (doubled_x k) (factor k m) qs
      ∙ same qs
      ∙ ap (λ r. map (factor k r) qs) (sym one))
    where
      same : (ps : List (Coordinates F)) → map (λ p. doubled_x k (iterated_x k i p.x)) ps
          ≡ map (λ p. iterated_x k (suc i) p.x) ps
      same [] = refl
      same (p ∷ ps) =
          ap (λ x. x ∷ map (λ p. doubled_x k (iterated_x k i p.x)) ps)
          (sym (iterated_x-suc k i p.x)) ∙ ap (λ rest. iterated_x k (suc i) p.x ∷ rest) (same ps)

  pub length-layer_factors : (n m : ℕ) (s : Coordinates F) → length (layer_factors k gen n s m)
      ≡ 2 ^ (n - (m + 1))
  length-layer_factors n m s = length-map (block_starts k gen (n - (m + 1)) (m + 1) s) (factor k m)
      ∙ length-block_starts k gen (n - (m + 1)) (m + 1) s

  pub length-coset : (m : ℕ) (s : Coordinates F) → length (coset k gen m s) ≡ 2 ^ m
  length-coset m s = sym (ap length (block_starts-coset m s)) ∙ length-block_starts k gen m 1 s

pub even-pow : (n : ℕ) → 1 ≤ n → 2 ^ n % 2 ≡ 0
even-pow zero h = absurd (omega arith)
even-pow (suc n) h = omega (arith, pow-suc 2 n)

-- lists that are the values of f, read at an index
module _ {V F : Type 0} (items_of : V → List F) (f : ℕ → List F) (all : List V) (n : ℕ)
    (made : map items_of all ≡ map f (range_with_len 0 n)) where
  pub made-count : length all ≡ n
  made-count = sym (length-map all items_of) ∙ ap length made ∙ length-map-range_with_len f 0 n

  pub made-read : (i : ℕ) (v : V) → v ≡ slice_index_or all i v → i < n → items_of v ≡ f i
  made-read i v read below =
      ap items_of read ∙ sym (get_or-map items_of all i v)
      ∙ ap (λ xs. slice_index_or xs i (items_of v)) made
      ∙ get_or-map-range_with_len f 0 n i i (items_of v) below (omega arith)
