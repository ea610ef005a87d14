-- What all layers together make of the columns of stored entries.
use Rattle.std.specs.Prelude.{◌≡◌, ◌≢◌, ℕ, ◌+◌, ◌-◌, ◌*◌, ◌%◌, ◌^◌, ◌<◌, ◌≤◌, List, [], ◌∷◌, length}
use Rattle.std.specs.Prelude.{map, take, slice_index_or, Vec}
use Rattle.std.specs.declared.alloc.Global.{Global}
use Rattle.std.specs.List.{range_with_len}
use Rattle.std.proofs.Common.{zero, suc, sym, ◌∙◌, ap, refl, arith}
use Rattle.std.proofs.lemmas.List.{length-map, take-map, get_or-take}
use Rattle.std.proofs.lemmas.List.FromFn.{get_or-map-range_with_len}
use Rattle.circle_field.specs.Field.{FieldOps, FieldLaws, two, nth_power}
use Rattle.circle_field.specs.Circle.{Coordinates, IsOnCircle, AreGenerators, times, origin}
use Rattle.std.proofs.Math.Nat.{pow-suc}
use Rattle.std.proofs.lemmas.Nat.{pow-add}
use Rattle.circle_domain.specs.Layers.{layer_factors, copies}
use Rattle.circle_domain.proofs.Columns.{stored_column}
use Rattle.circle_domain.proofs.Layering.{length-copies}
use Rattle.circle_domain.proofs.Powers.{pow_within}
use Rattle.circle_domain.proofs.Twiddles.{length-layer_factors}
use Rattle.circle_domain.proofs.Undoing.{forward, backward}
use Rattle.circle_cfft.specs.Butterflies.{plus_multiple, minus_multiple, total, scaled_difference}
use Rattle.circle_cfft.specs.Passes.{factors_at, descending, ascending}
use Rattle.circle_cfft.proofs.PairLayers.{length-layer}
use Rattle.circle_plane.proofs.Passes.{remaining, blocks-entries, forward-pass, backward-pass}

-- a layer's factors, of a list of all layers' that was made
pub factors-made : {F : Type 0} (f : ℕ → List F) (twiddles : List (Vec F Global)) (n l : ℕ) →
    map (λ v. v.items) twiddles ≡ map f (range_with_len 0 n) → l < n → factors_at twiddles l ≡ f l
factors-made f twiddles n l made below = ap (λ all. slice_index_or all l []) made
    ∙ get_or-map-range_with_len f 0 n l l [] below (omega arith)

-- and of the first of them
pub factors-taken : {F : Type 0} (f : ℕ → List F) (twiddles : List (Vec F Global)) (n h l : ℕ) →
    map (λ v. v.items) twiddles ≡ map f (range_with_len 0 n) → h ≤ n → l < h →
    factors_at (take h twiddles) l ≡ f l
factors-taken f twiddles n h l made le below =
    ap (λ all. slice_index_or all l []) (sym (take-map (λ v. v.items) h twiddles))
    ∙ get_or-take h (map (λ v. v.items) twiddles) l [] below
    ∙ factors-made f twiddles n l made (omega (arith, le, below))

module _ {F : Type 0} (k : FieldOps F) (gen : ℕ → Coordinates F) (n : ℕ) (s : Coordinates F) where
  -- the blocks of a layer make up the entries
  pub layer-entries : (width l : ℕ) (ts : List F) → l < n → length ts ≡ 2 ^ (n - (l + 1)) →
      length ts * (2 ^ l * width + 2 ^ l * width) ≡ 2 ^ n * width
  layer-entries width l ts lt count = ap (λ m. m * (2 ^ l * width + 2 ^ l * width)) count
      ∙ blocks-entries n l width lt

  -- from coefficients to values
  pub forward-all : (width j : ℕ) → j < width → (fs : ℕ → List F) (m : ℕ) (entries : List F) →
      m ≤ n → ((l : ℕ) → l < m → fs l ≡ layer_factors k gen n s l) →
      length entries ≡ 2 ^ n * width →
      remaining k gen n s 0
      (stored_column k.zero width j (2 ^ n)
      (descending (plus_multiple k) (minus_multiple k) width fs m entries))
      ≡ remaining k gen n s m (stored_column k.zero width j (2 ^ n) entries)
  forward-all width j h fs zero entries le same long = refl
  forward-all width j h fs (suc m) entries le same long =
      let lt : m < n = omega (arith, le) in
      let half = 2 ^ m * width in
      let ts = fs m in
      let own : ts ≡ layer_factors k gen n s m = same m (omega arith) in
      let count : length ts ≡ 2 ^ (n - (m + 1)) =
      ap length own ∙ length-layer_factors k gen n m s in
      let made = forward k half ts entries in
      let kept : length made ≡ 2 ^ n * width =
      length-layer (plus_multiple k) (minus_multiple k) half ts entries
      (long ∙ sym (layer-entries width m ts lt count)) ∙ long in
      let one : m + 1 ≡ suc m = omega arith in
      forward-all width j h fs m made (omega (arith, le)) (λ l below. same l (omega (arith, below)))
      kept
      ∙ ap
      (λ us. remaining k gen n s m
      (stored_column k.zero width j (2 ^ n) (forward k half us entries))) own
      ∙ forward-pass k gen n s width j h m entries lt long
      ∙ ap (λ i. remaining k gen n s i (stored_column k.zero width j (2 ^ n) entries)) one

module _ {F : Type 0} {k : FieldOps F} (laws : FieldLaws k) {gen : ℕ → Coordinates F} {bits : ℕ}
    (gens : AreGenerators k bits gen) (n : ℕ) (s : Coordinates F)
    (fits : n ≤ bits) (on_circle : IsOnCircle k s) (genuine : times k (2 ^ n) s ≢ origin k) where
  -- layers from values to coefficients make no entry more or less
  pub length-ascending : (width : ℕ) (fs : ℕ → List F) (m : ℕ) (entries : List F) → m ≤ n →
      ((l : ℕ) → l < m → fs l ≡ map k.inv (layer_factors k gen n s l)) →
      length entries ≡ 2 ^ n * width →
      length (ascending (total k) (scaled_difference k) width fs m entries) ≡ 2 ^ n * width
  length-ascending width fs zero entries le same long = long
  length-ascending width fs (suc m) entries le same long =
      let made = ascending (total k) (scaled_difference k) width fs m entries in
      let before : length made ≡ 2 ^ n * width =
      length-ascending width fs m entries (omega (arith, le))
      (λ l below. same l (omega (arith, below))) long in
      let count : length (fs m) ≡ 2 ^ (n - (m + 1)) = ap length (same m (omega arith))
      ∙ length-map (layer_factors k gen n s m) k.inv ∙ length-layer_factors k gen n m s in
      length-layer (total k) (scaled_difference k) (2 ^ m * width) (fs m) made
      (before ∙ sym (layer-entries k gen n s width m (fs m) (omega (arith, le)) count)) ∙ before

  -- from values to multiples of the coefficients
  pub backward-all : (width j : ℕ) → j < width →
      (fs : ℕ → List F) (m : ℕ) (entries given : List F) → m ≤ n →
      ((l : ℕ) → l < m → fs l ≡ map k.inv (layer_factors k gen n s l)) →
      length entries ≡ 2 ^ n * width →
      remaining k gen n s 0 (stored_column k.zero width j (2 ^ n) entries)
      ≡ map (k.mul (nth_power k (two k) 0)) given →
      remaining k gen n s m
      (stored_column k.zero width j (2 ^ n)
      (ascending (total k) (scaled_difference k) width fs m entries))
      ≡ map (k.mul (nth_power k (two k) m)) given
  backward-all width j h fs zero entries given le same long e = e
  backward-all width j h fs (suc m) entries given le same long e =
      let made = ascending (total k) (scaled_difference k) width fs m entries in
      let fewer = λ (l : ℕ) (below : l < m). same l (omega (arith, below)) in
      let before = backward-all width j h fs m entries given (omega (arith, le)) fewer long e in
      let long' = length-ascending width fs m entries (omega (arith, le)) fewer long in
      let one : suc m ≡ m + 1 = omega arith in
      ap
      (λ us. remaining k gen n s (suc m)
      (stored_column k.zero width j (2 ^ n) (backward k (2 ^ m * width) us made)))
      (same m (omega arith))
      ∙ ap
      (λ i. remaining k gen n s i
      (stored_column k.zero width j (2 ^ n)
      (backward k (2 ^ m * width) (map k.inv (layer_factors k gen n s m)) made))) one
      ∙ backward-pass laws gens n s fits on_circle genuine width j h m made given
      (omega (arith, le)) long' before
      ∙ ap (λ i. map (k.mul (nth_power k (two k) i)) given) (sym one)

-- the number of copies, as a word's shift makes it
pub shifted : (log_n n h : ℕ) → log_n ≡ n → n ≤ 62 → 1 * 2 ^ (log_n - h) % 2 ^ 64 ≡ 2 ^ (n - h)
shifted log_n n h e small =
    let bound : 2 ^ (n - h) ≤ 2 ^ 62 = pow_within (n - h) 62 (omega (arith, small)) in
    ap (λ l. 1 * 2 ^ (l - h) % 2 ^ 64) e ∙ omega (arith, bound)

-- copies of the coefficients fill the domain
pub copied-long : {F : Type 0} (n h width : ℕ) (stored : List F) → h ≤ n →
    length stored ≡ 2 ^ h * width → length (copies (2 ^ (n - h)) stored) ≡ 2 ^ n * width
copied-long n h width stored le long =
    let sum : n - h + h ≡ n = omega (arith, le) in
    let size : 2 ^ (n - h) * 2 ^ h ≡ 2 ^ n = sym (pow-add 2 (n - h) h) ∙ ap (λ i. 2 ^ i) sum in
    length-copies (2 ^ (n - h)) stored ∙ ap (λ l. 2 ^ (n - h) * l) long
    ∙ (let e : 2 ^ (n - h) * (2 ^ h * width) ≡ 2 ^ (n - h) * 2 ^ h * width = omega arith in e)
    ∙ ap (λ t. t * width) size

-- half of a domain's points
pub halved : (n : ℕ) → 1 ≤ n → 2 ^ n ≡ 2 ^ (n - 1) + 2 ^ (n - 1)
halved n positive = let e : n ≡ suc (n - 1) = omega (arith, positive) in ap (λ i. 2 ^ i) e
    ∙ omega (arith, pow-suc 2 (n - 1))

pub length-take-at-most : {T : Type 0} (n : ℕ) (xs : List T) → length (take n xs) ≤ n
length-take-at-most zero xs = omega arith
length-take-at-most (suc n) [] = omega arith
length-take-at-most (suc n) (x ∷ xs) = omega (arith, length-take-at-most n xs)
