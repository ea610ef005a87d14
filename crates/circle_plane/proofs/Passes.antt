-- The layers of the transform over stored entries, one pass after another.
use Rattle.std.specs.Prelude.{◌≡◌, ◌≢◌, ℕ, ◌+◌, ◌-◌, ◌*◌, ◌^◌, ◌<◌, ◌≤◌, List, [], ◌∷◌, length, map}
use Rattle.std.proofs.Common.{suc, sym, ◌∙◌, ap, refl, arith}
use Rattle.std.proofs.Math.Nat.{pow-suc}
use Rattle.std.proofs.lemmas.Nat.{pow-add}
use Rattle.std.proofs.lemmas.List.{length-map}
use Rattle.circle_field.specs.Field.{FieldOps, RingLaws, FieldLaws, two, nth_power, sub}
use Rattle.circle_field.specs.RingFacts.{zero_mul}
use Rattle.circle_field.specs.Circle.{Coordinates, IsOnCircle, AreGenerators, times, origin}
use Rattle.circle_point.specs.Basis.{value}
use Rattle.circle_domain.specs.Order.{cfft_order}
use Rattle.circle_domain.specs.Layers.{layer, factor, block_starts, layer_factors, copies}
use Rattle.circle_domain.proofs.Blocks.{points, points-cfft_order}
use Rattle.circle_domain.proofs.Columns.{stored_column, stored_column-layer, stored_column-copies}
use Rattle.circle_domain.proofs.Columns.{stored_column-map, length-stored_column}
use Rattle.circle_domain.proofs.LayerFactors.{layer_factors-nonzero}
use Rattle.circle_domain.proofs.Layering.{block_starts-halves, length-block_starts, finish_all}
use Rattle.circle_domain.proofs.Layering.{finish_all-layer, finish_all-none, finish_all-one}
use Rattle.circle_domain.proofs.Layering.{finish_all-copies, finish_all-scaled}
use Rattle.circle_domain.proofs.Transform.{finish, finish-value}
use Rattle.circle_domain.proofs.Inversion.{finish-scaled}
use Rattle.circle_domain.proofs.Twiddles.{length-layer_factors}
use Rattle.circle_domain.proofs.Undoing.{forward, backward, layer-undone}

-- 2^a blocks of 2 * 2^m make up 2^(a + m + 1)
pub blocks-size : (n m : ℕ) → m < n → 2 ^ (n - (m + 1)) * (2 ^ m + 2 ^ m) ≡ 2 ^ n
blocks-size n m h =
    let e : n - (m + 1) + suc m ≡ n = omega arith in
    let d : 2 ^ m + 2 ^ m ≡ 2 ^ suc m = omega (arith, pow-suc 2 m) in
    ap (λ x. 2 ^ (n - (m + 1)) * x) d ∙ sym (pow-add 2 (n - (m + 1)) (suc m)) ∙ ap (λ x. 2 ^ x) e

-- twice a half, and half of a block
pub part-more : (m width : ℕ) → 2 ^ m * width * 2 ≡ 2 ^ (m + 1) * width
part-more m width =
    let one : suc m ≡ m + 1 = omega arith in
    (let e : 2 ^ m * width * 2 ≡ 2 ^ m * 2 * width = omega arith in e)
    ∙ ap (λ i. i * width) (sym (pow-suc 2 m) ∙ ap (λ i. 2 ^ i) one)

-- and the entries of all blocks
pub blocks-entries : (n m width : ℕ) → m < n → 2 ^ (n - (m + 1)) * (2 ^ m * width + 2 ^ m * width)
    ≡ 2 ^ n * width
blocks-entries n m width h =
    (let e : 2 ^ (n - (m + 1)) * (2 ^ m * width + 2 ^ m * width) ≡ 2 ^ (n - (m + 1)) *
    (2 ^ m + 2 ^ m) * width = omega arith in e) ∙ ap (λ i. i * width) (blocks-size n m h)

map-one : {F : Type 0} {k : FieldOps F} (laws : RingLaws k) (xs : List F) → map (k.mul k.one) xs
    ≡ xs
map-one laws [] = refl
map-one {k = k} laws (x ∷ xs) = ap (λ y. y ∷ map (k.mul k.one) xs) (laws.one_mul x)
    ∙ ap (λ rest. x ∷ rest) (map-one laws xs)

map-mul : {F : Type 0} {k : FieldOps F} (laws : RingLaws k) (a b : F) (xs : List F) →
    map (k.mul a) (map (k.mul b) xs) ≡ map (k.mul (k.mul a b)) xs
map-mul laws a b [] = refl
map-mul {k = k} laws a b (x ∷ xs) =
    ap (λ y. y ∷ map (k.mul a) (map (k.mul b) xs)) (sym (laws.mul_assoc a b x))
    ∙ ap (λ rest. k.mul (k.mul a b) x ∷ rest) (map-mul laws a b xs)

module _ {F : Type 0} (k : FieldOps F) (gen : ℕ → Coordinates F) (n : ℕ) (s : Coordinates F) where
  -- what the last m layers make of a column
  abbrev pub remaining : ℕ → List F → List F
  remaining m xs = finish_all k gen m (2 ^ m) (block_starts k gen (n - m) m s) xs

  remaining-layer : (m : ℕ) (xs : List F) → m < n → length xs ≡ 2 ^ n → remaining (m + 1) xs
      ≡ remaining m (forward k (2 ^ m) (layer_factors k gen n s m) xs)
  remaining-layer m xs h long =
      let half = 2 ^ m in
      let a = n - (m + 1) in
      let qs = block_starts k gen a (m + 1) s in
      let one : m + 1 ≡ suc m = omega arith in
      let next : suc a ≡ n - m = omega arith in
      let size : 2 ^ (m + 1) ≡ half + half = ap (λ i. 2 ^ i) one ∙ omega (arith, pow-suc 2 m) in
      let total : length xs ≡ length qs * (half + half) = long ∙ sym (blocks-size n m h)
      ∙ ap (λ i. i * (half + half)) (sym (length-block_starts k gen a (m + 1) s)) in
      ap (λ i. finish_all k gen (m + 1) i qs xs) size
      ∙ ap (λ i. finish_all k gen i (half + half) qs xs) one
      ∙ finish_all-layer k gen m qs xs half refl total
      ∙ ap (λ ps. finish_all k gen m half ps (forward k half (map (factor k m) qs) xs))
      (sym (block_starts-halves k gen a m s) ∙ ap (λ i. block_starts k gen i m s) next)

  pub remaining-none : (xs : List F) → length xs ≡ 2 ^ n → remaining 0 xs ≡ xs
  remaining-none xs long =
      let e : n - 0 ≡ n = omega arith in
      ap (λ i. finish_all k gen 0 1 (block_starts k gen i 0 s) xs) e
      ∙ finish_all-none k gen (block_starts k gen n 0 s) xs
      (long ∙ sym (length-block_starts k gen n 0 s))

  pub remaining-all : (xs : List F) → length xs ≡ 2 ^ n → remaining n xs ≡ finish k gen n s xs
  remaining-all xs long =
      let e : n - n ≡ 0 = omega arith in
      ap (λ i. finish_all k gen n (2 ^ n) (block_starts k gen i n s) xs) e
      ∙ finish_all-one k gen n (2 ^ n) s xs (omega (arith, long))

  module _ (width j : ℕ) (h : j < width) where
    pass-column : (low high : F → F → F → F) (m : ℕ) (ts entries : List F) → m < n →
        length ts ≡ 2 ^ (n - (m + 1)) → length entries ≡ 2 ^ n * width →
        stored_column k.zero width j (2 ^ n) (layer low high (2 ^ m * width) ts entries)
        ≡ layer low high (2 ^ m) ts (stored_column k.zero width j (2 ^ n) entries)
    pass-column low high m ts entries lt count long =
        let half = 2 ^ m in
        let rows : length ts * (half + half) ≡ 2 ^ n = ap (λ i. i * (half + half)) count
        ∙ blocks-size n m lt in
        let total : length entries ≡ length ts * (half * width + half * width) =
        long ∙ ap (λ i. i * width) (sym rows)
        ∙
        (let e : length ts * (half + half) * width ≡ length ts * (half * width + half * width) =
        omega arith in e) in
        ap (λ i. stored_column k.zero width j i (layer low high (half * width) ts entries))
        (sym rows)
        ∙ stored_column-layer k.zero width j low high ts half entries h total
        ∙ ap (λ i. layer low high half ts (stored_column k.zero width j i entries)) rows

    -- one pass from coefficients to values
    pub forward-pass : (m : ℕ) (entries : List F) → m < n → length entries ≡ 2 ^ n * width →
        remaining m
        (stored_column k.zero width j (2 ^ n)
        (forward k (2 ^ m * width) (layer_factors k gen n s m) entries))
        ≡ remaining (m + 1) (stored_column k.zero width j (2 ^ n) entries)
    forward-pass m entries lt long =
        let c = stored_column k.zero width j (2 ^ n) entries in
        ap (remaining m)
        (pass-column (λ t a b. k.add a (k.mul b t)) (λ t a b. sub k a (k.mul b t)) m
        (layer_factors k gen n s m) entries lt (length-layer_factors k gen n m s) long)
        ∙ sym (remaining-layer m c lt (length-stored_column k.zero width j (2 ^ n) entries))

module _ {F : Type 0} {k : FieldOps F} (laws : FieldLaws k) {gen : ℕ → Coordinates F} {bits : ℕ}
    (gens : AreGenerators k bits gen) (n : ℕ) (s : Coordinates F)
    (fits : n ≤ bits) (on_circle : IsOnCircle k s) where
  -- copies of coefficients become their values at all points
  pub copies-values : (width j h : ℕ) (entries : List F) → 1 ≤ n → h ≤ n →
      length entries ≡ 2 ^ h * width →
      remaining k gen n s h (stored_column k.zero width j (2 ^ n) (copies (2 ^ (n - h)) entries))
      ≡ map (value k (stored_column k.zero width j (2 ^ h) entries)) (cfft_order k gen n s)
  copies-values width j h entries positive le long =
      let a = n - h in
      let sum : a + h ≡ n = omega (arith, le) in
      let size : 2 ^ a * 2 ^ h ≡ 2 ^ n = sym (pow-add 2 a h) ∙ ap (λ i. 2 ^ i) sum in
      let c = stored_column k.zero width j (2 ^ h) entries in
      ap (λ i. remaining k gen n s h (stored_column k.zero width j i (copies (2 ^ a) entries)))
      (sym size)
      ∙ ap (remaining k gen n s h)
      (stored_column-copies k.zero width j (2 ^ a) (2 ^ h) entries long)
      ∙ finish_all-copies laws.ring gens a h s c
      (length-stored_column k.zero width j (2 ^ h) entries) (omega (arith, sum, fits)) on_circle
      ∙ ap (λ i. map (value k c) (points k gen i s)) sum
      ∙ ap (map (value k c)) (points-cfft_order k gen n s positive)

  module _ (genuine : times k (2 ^ n) s ≢ origin k) where
    -- one pass from values to coefficients
    pub backward-pass : (width j : ℕ) → j < width → (m : ℕ) (entries origin : List F) → m < n →
        length entries ≡ 2 ^ n * width →
        remaining k gen n s m (stored_column k.zero width j (2 ^ n) entries)
        ≡ map (k.mul (nth_power k (two k) m)) origin →
        remaining k gen n s (m + 1)
        (stored_column k.zero width j (2 ^ n)
        (backward k (2 ^ m * width) (map k.inv (layer_factors k gen n s m)) entries))
        ≡ map (k.mul (nth_power k (two k) (m + 1))) origin
    backward-pass width j h m entries origin lt long e =
        let ts = layer_factors k gen n s m in
        let c = stored_column k.zero width j (2 ^ n) entries in
        let count : length ts ≡ 2 ^ (n - (m + 1)) = length-layer_factors k gen n m s in
        let rows : length c ≡ length ts * (2 ^ m + 2 ^ m) =
        length-stored_column k.zero width j (2 ^ n) entries ∙ sym (blocks-size n m lt)
        ∙ ap (λ i. i * (2 ^ m + 2 ^ m)) (sym count) in
        let one : m + 1 ≡ suc m = omega arith in
        let made = backward k (2 ^ m) (map k.inv ts) c in
        let done = backward k (2 ^ m * width) (map k.inv ts) entries in
        ap (remaining k gen n s (m + 1))
        (pass-column k gen n s width j h (λ t a b. k.add a b) (λ t a b. k.mul (sub k a b) t) m
        (map k.inv ts) entries lt (length-map ts k.inv ∙ count) long)
        ∙ remaining-layer k gen n s m made lt
        (sym
        (ap length
        (pass-column k gen n s width j h (λ t a b. k.add a b) (λ t a b. k.mul (sub k a b) t) m
        (map k.inv ts) entries lt (length-map ts k.inv ∙ count) long))
        ∙ length-stored_column k.zero width j (2 ^ n) done)
        ∙ ap (remaining k gen n s m)
        (layer-undone laws (2 ^ m) ts c
        (layer_factors-nonzero laws gens n s fits on_circle genuine m lt) rows)
        ∙ finish_all-scaled laws.ring gens m (2 ^ m) (two k) (block_starts k gen (n - m) m s) c
        ∙ ap (map (k.mul (two k))) e
        ∙ map-mul laws.ring (two k) (nth_power k (two k) m) origin
        ∙ ap (λ i. map (k.mul (nth_power k (two k) i)) origin) (sym one)

    pub before-passes : (width j : ℕ) (entries : List F) →
        remaining k gen n s 0 (stored_column k.zero width j (2 ^ n) entries)
        ≡ map (k.mul (nth_power k (two k) 0)) (stored_column k.zero width j (2 ^ n) entries)
    before-passes width j entries =
        remaining-none k gen n s (stored_column k.zero width j (2 ^ n) entries)
        (length-stored_column k.zero width j (2 ^ n) entries)
        ∙ sym (map-one laws.ring (stored_column k.zero width j (2 ^ n) entries))

    -- the passes and the division by their number of points give coefficients with these values
    pub after-passes : (width j : ℕ) (entries origin : List F) (c : F) → 1 ≤ n →
        k.mul c (nth_power k (two k) n) ≡ k.one →
        remaining k gen n s n (stored_column k.zero width j (2 ^ n) entries)
        ≡ map (k.mul (nth_power k (two k) n)) origin →
        map (value k (stored_column k.zero width j (2 ^ n) (map (λ a. k.mul a c) entries)))
        (cfft_order k gen n s) ≡ origin
    after-passes width j entries origin c positive inverse e =
        let f = λ (a : F). k.mul a c in
        let x = stored_column k.zero width j (2 ^ n) entries in
        let scaled = stored_column k.zero width j (2 ^ n) (map f entries) in
        let flipped : scaled ≡ map (k.mul c) x =
        stored_column-map k.zero width j f (2 ^ n) entries (zero_mul laws.ring c)
        ∙ map-flipped x in
        ap (map (value k scaled)) (sym (points-cfft_order k gen n s positive))
        ∙ sym
        (finish-value laws.ring gens n s scaled
        (length-stored_column k.zero width j (2 ^ n) (map f entries)) (omega (arith, fits))
        on_circle)
        ∙ ap (finish k gen n s) flipped
        ∙ finish-scaled laws.ring c gen n s x
        ∙ ap (map (k.mul c))
        (sym (remaining-all k gen n s x (length-stored_column k.zero width j (2 ^ n) entries))
        ∙ e)
        ∙ map-mul laws.ring c (nth_power k (two k) n) origin
        ∙ ap (λ u. map (k.mul u) origin) inverse ∙ map-one laws.ring origin
      where
        map-flipped : (ys : List F) → map (λ a. k.mul a c) ys ≡ map (k.mul c) ys
        map-flipped [] = refl
        map-flipped (y ∷ ys) = ap (λ v. v ∷ map (λ a. k.mul a c) ys) (laws.ring.mul_comm y c)
            ∙ ap (λ rest. k.mul c y ∷ rest) (map-flipped ys)
