-- A layer from values to coefficients, undone by the layer of the same factors from coefficients to
-- values.
use Rattle.std.specs.Prelude.{◌≡◌, ◌≢◌, ℕ, ◌+◌, ◌*◌, ◌≤◌, List, [], ◌∷◌, ◌++◌, length, map, take}
use Rattle.std.specs.Prelude.{drop}
use Rattle.std.specs.List.{AllByRecursion}
use Rattle.std.proofs.Common.{sym, ◌∙◌, ap, refl, arith, append_assoc, length-append, length-drop}
use Rattle.std.proofs.lemmas.List.{map-append, take_at, drop_at, take-append-drop, length-take-le}
use Rattle.std.proofs.lemmas.List.{drop-drop}
use Rattle.circle_field.specs.Field.{FieldOps, FieldLaws, two, sub}
use Rattle.circle_field.specs.Ring.{var, unit, plus as sum, times as prod, minus}
use Rattle.circle_field.specs.RingCombine.{given, combine}
use Rattle.circle_commit.specs.DotProduct.{pairwise}
use Rattle.circle_domain.specs.Layers.{layer}
use Rattle.circle_commit.proofs.Written.{length-pairwise}
use Rattle.circle_domain.proofs.Transform.{lower, upper}

module _ {F : Type 0} (k : FieldOps F) where
  -- from coefficients to values, and from values to twice the coefficients
  abbrev pub forward : ℕ → List F → List F → List F
  forward = layer (λ t a b. k.add a (k.mul b t)) (λ t a b. sub k a (k.mul b t))

  abbrev pub backward : ℕ → List F → List F → List F
  backward = layer (λ t a b. k.add a b) (λ t a b. k.mul (sub k a b) t)

  -- the halves of a block, made anew on the way from values to coefficients
  abbrev sums : List F → List F → List F
  sums = pairwise (λ a b. k.add a b)

  abbrev differences : F → List F → List F → List F
  differences t = pairwise (λ a b. k.mul (sub k a b) t)

module _ {F : Type 0} {k : FieldOps F} (laws : FieldLaws k) where
  lower-undone : (t : F) (xs ys : List F) → t ≢ k.zero → length xs ≡ length ys →
      lower k t (sums k xs ys) (differences k (k.inv t) xs ys) ≡ map (k.mul (two k)) xs
  lower-undone t [] ys h e = refl
  lower-undone t (x ∷ xs) [] h e = absurd (omega (arith, e))
  lower-undone t (x ∷ xs) (y ∷ ys) h e =
      ap (λ v. v ∷ lower k t (sums k xs ys) (differences k (k.inv t) xs ys))
      (combine laws.ring (x ∷ y ∷ t ∷ k.inv t ∷ [])
      (sum (sum (var 0) (var 1)) (prod (prod (sum (var 0) (minus (var 1))) (var 3)) (var 2)))
      (prod (sum unit unit) (var 0))
      (given (sum (var 0) (minus (var 1))) (prod (var 2) (var 3)) unit ∷ []) refl (
        laws.mul_inv t h,
        tt,
      ))
      ∙ ap (λ rest. k.mul (two k) x ∷ rest) (lower-undone t xs ys h (omega (arith, e)))

  upper-undone : (t : F) (xs ys : List F) → t ≢ k.zero → length xs ≡ length ys →
      upper k t (sums k xs ys) (differences k (k.inv t) xs ys) ≡ map (k.mul (two k)) ys
  upper-undone t [] [] h e = refl
  upper-undone t [] (y ∷ ys) h e = absurd (omega (arith, e))
  upper-undone t (x ∷ xs) [] h e = absurd (omega (arith, e))
  upper-undone t (x ∷ xs) (y ∷ ys) h e =
      ap (λ v. v ∷ upper k t (sums k xs ys) (differences k (k.inv t) xs ys))
      (combine laws.ring (x ∷ y ∷ t ∷ k.inv t ∷ [])
      (sum (sum (var 0) (var 1))
      (minus (prod (prod (sum (var 0) (minus (var 1))) (var 3)) (var 2))))
      (prod (sum unit unit) (var 1))
      (given (minus (sum (var 0) (minus (var 1)))) (prod (var 2) (var 3)) unit ∷ []) refl
      (laws.mul_inv t h, tt))
      ∙ ap (λ rest. k.mul (two k) y ∷ rest) (upper-undone t xs ys h (omega (arith, e)))

  -- both layers double each entry
  pub layer-undone : (half : ℕ) (ts xs : List F) → AllByRecursion (λ t. t ≢ k.zero) ts →
      length xs ≡ length ts * (half + half) →
      forward k half ts (backward k half (map k.inv ts) xs) ≡ map (k.mul (two k)) xs
  layer-undone half [] [] h long = refl
  layer-undone half [] (x ∷ xs) h long = absurd (omega (arith, long))
  layer-undone half (t ∷ ts) xs h long =
      let a = take half xs in
      let b = take half (drop half xs) in
      let rest = drop (half + half) xs in
      let enough : half + half ≤ length xs = omega (arith, long) in
      let la : length a ≡ half = length-take-le half xs (omega (arith, enough)) in
      let lb : length b ≡ half =
      length-take-le half (drop half xs) (omega (arith, enough, length-drop half xs)) in
      let s = sums k a b in
      let d = differences k (k.inv t) a b in
      let ls : length s ≡ half = length-pairwise (λ x y. k.add x y) a b (la ∙ sym lb) ∙ la in
      let ld : length d ≡ half =
      length-pairwise (λ x y. k.mul (sub k x y) (k.inv t)) a b (la ∙ sym lb) ∙ la in
      let z = backward k half (map k.inv ts) rest in
      let made = (s ++ d) ++ z in
      let first : take half made ≡ s = ap (take half) (append_assoc s d z)
      ∙ take_at s (d ++ z) half ls in
      let after : drop half made ≡ d ++ z = ap (drop half) (append_assoc s d z)
      ∙ drop_at s (d ++ z) half ls in
      let second : take half (drop half made) ≡ d = ap (take half) after ∙ take_at d z half ld in
      let others : drop (half + half) made ≡ z =
      drop_at (s ++ d) z (half + half) (length-append s d ∙ omega (arith, ls, ld)) in
      let twice = k.mul (two k) in
      ap
      (λ u. (lower k t u (take half (drop half made))
      ++ upper k t u (take half (drop half made)))
      ++ forward k half ts (drop (half + half) made)) first
      ∙ ap (λ v. (lower k t s v ++ upper k t s v) ++ forward k half ts (drop (half + half) made))
      second
      ∙ ap (λ w. (lower k t s d ++ upper k t s d) ++ forward k half ts w) others
      ∙ ap (λ u. (u ++ upper k t s d) ++ forward k half ts z) (lower-undone t a b h.0 (la ∙ sym lb))
      ∙ ap (λ u. (map twice a ++ u) ++ forward k half ts z) (upper-undone t a b h.0 (la ∙ sym lb))
      ∙ ap (λ u. (map twice a ++ map twice b) ++ u)
      (layer-undone half ts rest h.1 (length-drop (half + half) xs ∙ omega (arith, long)))
      ∙ ap (λ u. u ++ map twice rest) (sym (map-append twice a b))
      ∙ sym (map-append twice (a ++ b) rest)
      ∙ ap (map twice)
      (append_assoc a b rest ∙ ap (λ w. a ++ (b ++ w)) (sym (drop-drop half half xs))
      ∙ ap (λ w. a ++ w) (take-append-drop half (drop half xs)) ∙ take-append-drop half xs)
