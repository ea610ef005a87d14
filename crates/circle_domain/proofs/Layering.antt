-- A layer of blocks, one block after another.
use Rattle.std.specs.Prelude.{◌≡◌, ◌≢◌, ℕ, ◌+◌, ◌*◌, ◌^◌, ◌≤◌, List, [], ◌∷◌, ◌++◌, length, map}
use Rattle.std.specs.Prelude.{take, drop}
use Rattle.std.specs.List.{AllByRecursion}
use Rattle.std.proofs.Common.{zero, suc, sym, ◌∙◌, ap, refl, arith, append_assoc, append-nil}
use Rattle.std.proofs.Common.{length-append, length-drop, subst}
use Rattle.std.proofs.Math.Nat.{pow-suc}
use Rattle.std.proofs.lemmas.List.{map-append, take-take, drop-take, take_at, drop_at, take_all}
use Rattle.std.proofs.lemmas.List.{take-map, take-append-le, drop-append-le, length-take-le}
use Rattle.circle_field.specs.Field.{FieldOps, RingLaws, FieldLaws, sub}
use Rattle.circle_field.specs.Circle.{Coordinates, IsOnCircle, AreGenerators, times, origin}
use Rattle.circle_point.specs.Basis.{value}
use Rattle.circle_domain.specs.Layers.{layer, factor, second_half, block_starts, copies}
use Rattle.circle_commit.proofs.Written.{length-pairwise}
use Rattle.circle_domain.proofs.Columns.{drop-map}
use Rattle.circle_domain.proofs.Blocks.{points, all-append, second_half-on_circle}
use Rattle.circle_domain.proofs.Inversion.{finish-scaled, factor-nonzero, first-genuine}
use Rattle.circle_domain.proofs.Inversion.{second-genuine}
use Rattle.circle_domain.proofs.Transform.{lower, upper, finish, finish-value}

module _ {F : Type 0} (k : FieldOps F) (gen : ℕ → Coordinates F) where
  -- the first points of the halves of blocks of 2 * 2^m points
  abbrev pub halves : ℕ → List (Coordinates F) → List (Coordinates F)
  halves m [] = []
  halves m (q ∷ qs) = q ∷ second_half k gen m q ∷ halves m qs

  halves-append : (m : ℕ) (xs ys : List (Coordinates F)) → halves m (xs ++ ys) ≡ halves m xs
      ++ halves m ys
  halves-append m [] ys = refl
  halves-append m (x ∷ xs) ys =
      ap (λ rest. x ∷ second_half k gen m x ∷ rest) (halves-append m xs ys)

  -- the blocks of one layer are the halves of those of the layer before
  pub block_starts-halves : (a m : ℕ) (q : Coordinates F) → block_starts k gen (suc a) m q
      ≡ halves m (block_starts k gen a (m + 1) q)
  block_starts-halves zero m q = let e : 0 + m ≡ m = omega arith in
      ap (λ n. q ∷ second_half k gen n q ∷ []) e
  block_starts-halves (suc a) m q =
      let e : suc a + m ≡ a + (m + 1) = omega arith in
      let q' = second_half k gen (suc a + m) q in
      ap (λ xs. xs ++ block_starts k gen (suc a) m q') (block_starts-halves a m q)
      ∙ ap (λ ys. halves m (block_starts k gen a (m + 1) q) ++ ys) (block_starts-halves a m q')
      ∙ sym (halves-append m (block_starts k gen a (m + 1) q) (block_starts k gen a (m + 1) q'))
      ∙ ap
      (λ n. halves m (block_starts k gen a (m + 1) q
      ++ block_starts k gen a (m + 1) (second_half k gen n q))) e

  -- what the remaining m layers make of blocks of this size
  abbrev pub finish_all : ℕ → ℕ → List (Coordinates F) → List F → List F
  finish_all m size [] xs = []
  finish_all m size (q ∷ qs) xs = finish k gen m q (take size xs)
      ++ finish_all m size qs (drop size xs)

  -- one layer, and what remains of the others
  pub finish_all-layer : (m : ℕ) (qs : List (Coordinates F)) (xs : List F) (half : ℕ) →
      half ≡ 2 ^ m → length xs ≡ length qs * (half + half) →
      finish_all (suc m) (half + half) qs xs
      ≡ finish_all m half (halves m qs)
      (layer (λ t a b. k.add a (k.mul b t)) (λ t a b. sub k a (k.mul b t)) half
      (map (factor k m) qs) xs)
  finish_all-layer m [] xs half is_half long = refl
  finish_all-layer m (q ∷ qs) xs half is_half long =
      let t = factor k m q in
      let low = λ (t a b : F). k.add a (k.mul b t) in
      let high = λ (t a b : F). sub k a (k.mul b t) in
      let q' = second_half k gen m q in
      let a = take half xs in
      let b = take half (drop half xs) in
      let rest = drop (half + half) xs in
      let z = layer low high half (map (factor k m) qs) rest in
      let at_least : half + half ≤ length xs = omega (arith, long) in
      let la : length a ≡ half = length-take-le half xs (omega (arith, at_least)) in
      let lb : length b ≡ half =
      length-take-le half (drop half xs) (omega (arith, at_least, length-drop half xs)) in
      let ll : length (lower k t a b) ≡ half = length-pairwise (low t) a b (la ∙ sym lb) ∙ la in
      let lu : length (upper k t a b) ≡ half = length-pairwise (high t) a b (la ∙ sym lb) ∙ la in
      let block = take (half + half) xs in
      let first : take half block ≡ a = take-take half (half + half) xs (omega arith) in
      let second : take half (drop half block) ≡ b = ap (take half) (drop-take half half xs)
      ∙ take-take half half (drop half xs) (omega arith) in
      let start : take half ((lower k t a b ++ upper k t a b) ++ z) ≡ lower k t a b =
      ap (take half) (append_assoc (lower k t a b) (upper k t a b) z)
      ∙ take_at (lower k t a b) (upper k t a b ++ z) half ll in
      let after : drop half ((lower k t a b ++ upper k t a b) ++ z) ≡ upper k t a b ++ z =
      ap (drop half) (append_assoc (lower k t a b) (upper k t a b) z)
      ∙ drop_at (lower k t a b) (upper k t a b ++ z) half ll in
      ap
      (λ h. (finish k gen m q (lower k t (take h block) (take h (drop h block)))
      ++ finish k gen m q' (upper k t (take h block) (take h (drop h block))))
      ++ finish_all (suc m) (half + half) qs rest) (sym is_half)
      ∙ ap
      (λ x. (finish k gen m q (lower k t x (take half (drop half block)))
      ++ finish k gen m q' (upper k t x (take half (drop half block))))
      ++ finish_all (suc m) (half + half) qs rest) first
      ∙ ap (λ y. (finish k gen m q (lower k t a y) ++ finish k gen m q' (upper k t a y))
      ++ finish_all (suc m) (half + half) qs rest) second
      ∙ ap (λ more. (finish k gen m q (lower k t a b) ++ finish k gen m q' (upper k t a b)) ++ more)
      (finish_all-layer m qs rest half is_half
      (length-drop (half + half) xs ∙ omega (arith, long)))
      ∙ append_assoc (finish k gen m q (lower k t a b)) (finish k gen m q' (upper k t a b))
      (finish_all m half (halves m qs) z)
      ∙ ap (λ x. finish k gen m q (lower k t a b)
      ++ (finish k gen m q' x ++ finish_all m half (halves m qs) z))
      (sym (take_at (upper k t a b) z half lu))
      ∙ ap (λ y. finish k gen m q (lower k t a b)
      ++ (finish k gen m q' (take half (upper k t a b ++ z))
      ++ finish_all m half (halves m qs) y)) (sym (drop_at (upper k t a b) z half lu))
      ∙ ap
      (λ x. finish k gen m q x
      ++ (finish k gen m q' (take half (upper k t a b ++ z))
      ++ finish_all m half (halves m qs) (drop half (upper k t a b ++ z)))) (sym start)
      ∙ ap (λ y. finish k gen m q (take half ((lower k t a b ++ upper k t a b) ++ z))
      ++ (finish k gen m q' (take half y) ++ finish_all m half (halves m qs) (drop half y)))
      (sym after)

  -- what a list of blocks becomes, in two parts
  finish_all-append : (m size : ℕ) (ps qs : List (Coordinates F)) (xs ys : List F) →
      length xs ≡ length ps * size →
      finish_all m size (ps ++ qs) (xs ++ ys) ≡ finish_all m size ps xs ++ finish_all m size qs ys
  finish_all-append m size [] qs [] ys e = refl
  finish_all-append m size [] qs (x ∷ xs) ys e = absurd (omega (arith, e))
  finish_all-append m size (p ∷ ps) qs xs ys e =
      let enough : size ≤ length xs = omega (arith, e) in
      ap (λ b. finish k gen m p b ++ finish_all m size (ps ++ qs) (drop size (xs ++ ys)))
      (take-append-le size xs ys enough)
      ∙ ap (λ b. finish k gen m p (take size xs) ++ finish_all m size (ps ++ qs) b)
      (drop-append-le size xs ys enough)
      ∙ ap (λ b. finish k gen m p (take size xs) ++ b)
      (finish_all-append m size ps qs (drop size xs) ys
      (length-drop size xs ∙ omega (arith, e)))
      ∙ sym (append_assoc (finish k gen m p (take size xs)) (finish_all m size ps (drop size xs))
      (finish_all m size qs ys))

  pub length-block_starts : (a m : ℕ) (q : Coordinates F) → length (block_starts k gen a m q)
      ≡ 2 ^ a
  length-block_starts zero m q = refl
  length-block_starts (suc a) m q =
      let q' = second_half k gen (a + m) q in
      length-append (block_starts k gen a m q) (block_starts k gen a m q')
      ∙ omega (arith, length-block_starts a m q, length-block_starts a m q', pow-suc 2 a)

  -- no layer is left
  pub finish_all-none : (qs : List (Coordinates F)) (xs : List F) → length xs ≡ length qs →
      finish_all 0 1 qs xs ≡ xs
  finish_all-none [] [] e = refl
  finish_all-none [] (x ∷ xs) e = absurd (omega (arith, e))
  finish_all-none (q ∷ qs) [] e = absurd (omega (arith, e))
  finish_all-none (q ∷ qs) (x ∷ xs) e =
      ap (λ rest. x ∷ rest) (finish_all-none qs xs (omega (arith, e)))

  -- one block alone
  pub finish_all-one : (m size : ℕ) (q : Coordinates F) (xs : List F) → length xs ≤ size →
      finish_all m size (q ∷ []) xs ≡ finish k gen m q xs
  finish_all-one m size q xs e = append-nil (finish k gen m q (take size xs))
      ∙ ap (finish k gen m q) (take_all size xs e)

copies-more : {T : Type 0} (a b : ℕ) (xs : List T) → copies (a + b) xs ≡ copies a xs ++ copies b xs
copies-more zero b xs = let e : 0 + b ≡ b = omega arith in ap (λ n. copies n xs) e
copies-more (suc a) b xs =
    let e : suc a + b ≡ suc (a + b) = omega arith in
    ap (λ n. copies n xs) e ∙ ap (λ rest. xs ++ rest) (copies-more a b xs)
    ∙ sym (append_assoc xs (copies a xs) (copies b xs))

pub length-copies : {T : Type 0} (n : ℕ) (xs : List T) → length (copies n xs) ≡ n * length xs
length-copies zero xs = omega arith
length-copies (suc n) xs = length-append xs (copies n xs) ∙ omega (arith, length-copies n xs)

module _ {F : Type 0} {k : FieldOps F} (laws : RingLaws k) {gen : ℕ → Coordinates F} {bits : ℕ}
    (gens : AreGenerators k bits gen) where
  -- the remaining layers of copies of coefficients give their values at all points
  pub finish_all-copies : (a h : ℕ) (q : Coordinates F) (c : List F) → length c ≡ 2 ^ h →
      a + h ≤ suc bits → IsOnCircle k q →
      finish_all k gen h (2 ^ h) (block_starts k gen a h q) (copies (2 ^ a) c)
      ≡ map (value k c) (points k gen (a + h) q)
  finish_all-copies zero h q c long fits on_circle =
      let e : 0 + h ≡ h = omega arith in
      ap (finish_all k gen h (2 ^ h) (q ∷ [])) (append-nil c)
      ∙ finish_all-one k gen h (2 ^ h) q c (omega (arith, long))
      ∙ finish-value laws gens h q c long (omega (arith, fits)) on_circle
      ∙ ap (λ n. map (value k c) (points k gen n q)) (sym e)
  finish_all-copies (suc a) h q c long fits on_circle =
      let e : suc (a + h) ≡ suc a + h = omega arith in
      let q' = second_half k gen (a + h) q in
      let twice : 2 ^ suc a ≡ 2 ^ a + 2 ^ a = omega (arith, pow-suc 2 a) in
      let first = block_starts k gen a h q in
      let second = block_starts k gen a h q' in
      ap (λ n. finish_all k gen h (2 ^ h) (first ++ second) (copies n c)) twice
      ∙ ap (finish_all k gen h (2 ^ h) (first ++ second)) (copies-more (2 ^ a) (2 ^ a) c)
      ∙ finish_all-append k gen h (2 ^ h) first second (copies (2 ^ a) c) (copies (2 ^ a) c)
      (length-copies (2 ^ a) c ∙ ap (λ n. 2 ^ a * n) long
      ∙ ap (λ n. n * 2 ^ h) (sym (length-block_starts k gen a h q)))
      ∙ ap (λ x. x ++ finish_all k gen h (2 ^ h) second (copies (2 ^ a) c))
      (finish_all-copies a h q c long (omega arith) on_circle)
      ∙ ap (λ x. map (value k c) (points k gen (a + h) q) ++ x)
      (finish_all-copies a h q' c long (omega arith)
      (second_half-on_circle laws gens (a + h) q (omega arith) on_circle))
      ∙ sym (map-append (value k c) (points k gen (a + h) q) (points k gen (a + h) q'))
      ∙ ap (λ n. map (value k c) (points k gen n q)) e

  -- what the remaining layers make of a multiple
  pub finish_all-scaled : (m size : ℕ) (a : F) (qs : List (Coordinates F)) (xs : List F) →
      finish_all k gen m size qs (map (k.mul a) xs) ≡ map (k.mul a) (finish_all k gen m size qs xs)
  finish_all-scaled m size a [] xs = refl
  finish_all-scaled m size a (q ∷ qs) xs =
      ap (λ b. finish k gen m q b ++ finish_all k gen m size qs (drop size (map (k.mul a) xs)))
      (take-map (k.mul a) size xs)
      ∙ ap (λ b. finish k gen m q (map (k.mul a) (take size xs)) ++ finish_all k gen m size qs b)
      (drop-map (k.mul a) size xs)
      ∙ ap (λ b. b ++ finish_all k gen m size qs (map (k.mul a) (drop size xs)))
      (finish-scaled laws a gen m q (take size xs))
      ∙ ap (λ b. map (k.mul a) (finish k gen m q (take size xs)) ++ b)
      (finish_all-scaled m size a qs (drop size xs))
      ∙ sym
      (map-append (k.mul a) (finish k gen m q (take size xs))
      (finish_all k gen m size qs (drop size xs)))

module _ {F : Type 0} {k : FieldOps F} (laws : FieldLaws k) {gen : ℕ → Coordinates F} {bits : ℕ}
    (gens : AreGenerators k bits gen) where
  -- no factor of a genuine domain is 0
  pub factors-nonzero : (a m : ℕ) (q : Coordinates F) → a + m ≤ bits → IsOnCircle k q →
      times k (2 ^ suc (a + m)) q ≢ origin k →
      AllByRecursion (λ t. t ≢ k.zero) (map (factor k m) (block_starts k gen a (m + 1) q))
  factors-nonzero zero m q fits on_circle genuine =
      let e : suc (0 + m) ≡ suc m = omega arith in
      (factor-nonzero laws m q on_circle (subst (λ n. times k (2 ^ n) q ≢ origin k) e genuine), tt)
  factors-nonzero (suc a) m q fits on_circle genuine =
      let q' = second_half k gen (a + (m + 1)) q in
      let n : suc a + m ≡ suc (a + m) = omega arith in
      let there : suc (a + m) ≡ a + (m + 1) = omega arith in
      let larger : times k (2 ^ suc (suc (a + m))) q ≢ origin k =
      subst (λ i. times k (2 ^ suc i) q ≢ origin k) n genuine in
      let second : times k (2 ^ suc (a + m)) q' ≢ origin k =
      subst (λ i. times k (2 ^ suc (a + m)) (second_half k gen i q) ≢ origin k) there
      (second-genuine laws gens (suc (a + m)) q (omega arith) on_circle larger) in
      subst (AllByRecursion (λ t. t ≢ k.zero))
      (sym
      (map-append (factor k m) (block_starts k gen a (m + 1) q)
      (block_starts k gen a (m + 1) q')))
      (all-append (λ t. t ≢ k.zero) (map (factor k m) (block_starts k gen a (m + 1) q))
      (map (factor k m) (block_starts k gen a (m + 1) q'))
      (factors-nonzero a m q (omega arith) on_circle (first-genuine laws (suc (a + m)) q larger))
      (factors-nonzero a m q' (omega arith)
      (second_half-on_circle laws.ring gens (a + (m + 1)) q (omega arith) on_circle) second))
