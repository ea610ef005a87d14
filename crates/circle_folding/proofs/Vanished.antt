-- The values of a vanishing polynomial at the points of a domain in the transform's order: one for
-- each block.
use Rattle.std.specs.Prelude.{◌≡◌, ℕ, ◌+◌, ◌-◌, ◌*◌, ◌%◌, ◌^◌, ◌≤◌, ◌<◌, List, [], ◌∷◌, ◌++◌}
use Rattle.std.specs.Prelude.{length, map, replicate}
use Rattle.std.specs.List.{AllByRecursion}
use Rattle.std.proofs.Common.{zero, suc, refl, sym, ◌∙◌, ap, arith, length-append, append_assoc}
use Rattle.std.proofs.Common.{append-nil}
use Rattle.std.proofs.Math.Nat.{pow-suc, mod-eq_of_lt}
use Rattle.std.proofs.lemmas.List.{map-append}
use Rattle.circle_field.specs.Field.{FieldOps, FieldLaws, RingLaws, two, nth_power}
use Rattle.circle_field.specs.Circle.{Coordinates, IsOnCircle, AreGenerators, plus, times}
use Rattle.circle_field.specs.CircleGroup.{plus_assoc, plus_comm, plus-on_circle}
use Rattle.circle_point.specs.Basis.{iterated_x, vanishing}
use Rattle.circle_point.proofs.Multiples.{times-one, doubled_x-plus}
use Rattle.circle_domain.specs.Order.{coset, cfft_order}
use Rattle.circle_domain.specs.Layers.{factor, second_half, block_starts}
use Rattle.circle_domain.proofs.Blocks.{points, points-cfft_order, factor-points}
use Rattle.circle_domain.proofs.Blocks.{second_half-on_circle, all-append, times-pow-suc}
use Rattle.circle_domain.proofs.Blocks.{times-generator}
use Rattle.circle_domain.proofs.Powers.{pow_within}
use Rattle.circle_domain.proofs.Transform.{map-same}
use Rattle.circle_domain.proofs.Twiddles.{block_starts-coset, length-coset, map-map}
use Rattle.circle_domain.proofs.LagrangeShares.{power-nonzero}
use Rattle.circle_field.proofs.Inverses.{inverse_unique}
use Rattle.circle_domain.proofs.TwoPowers.{inverse_power}
use Rattle.std.proofs.lemmas.Nat.{pow-add}
use Rattle.circle_folding.specs.Blocks.{spread}
use Rattle.circle_folding.specs.Lambda.{vanishing_values}

map-constant : {X Y : Type 0} (f : X → Y) (t : Y) (xs : List X) → AllByRecursion (λ x. f x ≡ t) xs →
    map f xs ≡ replicate (length xs) t
map-constant f t [] h = refl
map-constant f t (x ∷ xs) h = ap (λ y. y ∷ map f xs) h.0
    ∙ ap (λ ys. t ∷ ys) (map-constant f t xs h.1)

pub spread-append : {T : Type 0} (n : ℕ) (xs ys : List T) → spread n (xs ++ ys) ≡ spread n xs
    ++ spread n ys
spread-append n [] ys = refl
spread-append n (x ∷ xs) ys = ap (λ rest. replicate n x ++ rest) (spread-append n xs ys)
    ∙ sym (append_assoc (replicate n x) (spread n xs) (spread n ys))

pub spread-map : {S T : Type 0} (f : S → T) (n : ℕ) (xs : List S) → map f (spread n xs)
    ≡ spread n (map f xs)
spread-map f n [] = refl
spread-map f n (x ∷ xs) = map-append f (replicate n x) (spread n xs)
    ∙ ap (λ ys. ys ++ map f (spread n xs)) (map-replicate n x)
    ∙ ap (λ ys. replicate n (f x) ++ ys) (spread-map f n xs)
  where
    map-replicate : (m : ℕ) (y : _) → map f (replicate m y) ≡ replicate m (f y)
    map-replicate zero y = refl
    map-replicate (suc m) y = ap (λ ys. f y ∷ ys) (map-replicate m y)

module _ {F : Type 0} {k : FieldOps F} (laws : RingLaws k) {gen : ℕ → Coordinates F} {bits : ℕ}
    (gens : AreGenerators k bits gen) where
  pub length-points : (m : ℕ) (q : Coordinates F) → length (points k gen m q) ≡ 2 ^ m
  length-points zero q = refl
  length-points (suc m) q =
      let q' = second_half k gen m q in
      length-append (points k gen m q) (points k gen m q')
      ∙ omega (arith, length-points m q, length-points m q', pow-suc 2 m)

  -- the factor is one for each block
  pub factors-spread : (a n : ℕ) (q : Coordinates F) → a + n ≤ suc bits → IsOnCircle k q →
      map (factor k n) (points k gen (a + n) q)
      ≡ spread (2 ^ n) (map (factor k n) (block_starts k gen a n q))
  factors-spread zero n q fits c =
      let e : 0 + n ≡ n = omega arith in
      ap (λ m. map (factor k n) (points k gen m q)) e
      ∙ map-constant (factor k n) (factor k n q) (points k gen n q)
      (factor-points laws gens n n q (factor k n q) (omega arith) (omega (arith, fits)) c refl)
      ∙ ap (λ m. replicate m (factor k n q)) (length-points n q)
      ∙ sym (append-nil (replicate (2 ^ n) (factor k n q)))
  factors-spread (suc a) n q fits c =
      let e : suc a + n ≡ suc (a + n) = omega arith in
      let f = factor k n in
      let q' = second_half k gen (a + n) q in
      ap (λ m. map f (points k gen m q)) e
      ∙ map-append f (points k gen (a + n) q) (points k gen (a + n) q')
      ∙ ap (λ xs. xs ++ map f (points k gen (a + n) q'))
      (factors-spread a n q (omega (arith, fits)) c)
      ∙ ap (λ xs. spread (2 ^ n) (map f (block_starts k gen a n q)) ++ xs)
      (factors-spread a n q' (omega (arith, fits))
      (second_half-on_circle laws gens (a + n) q (omega (arith, fits)) c))
      ∙ sym
      (spread-append (2 ^ n) (map f (block_starts k gen a n q))
      (map f (block_starts k gen a n q')))
      ∙ ap (spread (2 ^ n))
      (sym (map-append f (block_starts k gen a n q) (block_starts k gen a n q')))

  pub starts-on_circle : (a m : ℕ) (q : Coordinates F) → a + m ≤ suc bits → IsOnCircle k q →
      AllByRecursion (IsOnCircle k) (block_starts k gen a m q)
  starts-on_circle zero m q fits c = (c, tt)
  starts-on_circle (suc a) m q fits c =
      let q' = second_half k gen (a + m) q in
      all-append (IsOnCircle k) (block_starts k gen a m q) (block_starts k gen a m q')
      (starts-on_circle a m q (omega (arith, fits)) c)
      (starts-on_circle a m q' (omega (arith, fits))
      (second_half-on_circle laws gens (a + m) q (omega (arith, fits)) c))

  -- the doubles of the first points of blocks are those of blocks of half as many points
  pub starts-doubled : (a j : ℕ) (q : Coordinates F) → a + suc (suc j) ≤ suc bits →
      map (λ p. plus k p p) (block_starts k gen a (suc (suc j)) q)
      ≡ block_starts k gen a (suc j) (plus k q q)
  starts-doubled zero j q fits = refl
  starts-doubled (suc a) j q fits =
      let double = λ (p : Coordinates F). plus k p p in
      let m = suc (suc j) in
      let e : a + suc (suc j) ≡ suc (suc (a + j)) = omega arith in
      let e' : a + suc j ≡ suc (a + j) = omega arith in
      let g = gen (suc (suc (a + j))) in
      let q' = second_half k gen (a + m) q in
      let is : q' ≡ plus k q g = ap (λ n. second_half k gen n q) e in
      let swapped : plus k (plus k q g) (plus k q g) ≡ plus k (plus k q q) (plus k g g) =
      plus_assoc laws q g (plus k q g)
      ∙ ap (plus k q) (sym (plus_assoc laws g q g) ∙ ap (λ r. plus k r g) (plus_comm laws g q)
      ∙ plus_assoc laws q g g) ∙ sym (plus_assoc laws q q (plus k g g)) in
      let there : double q' ≡ second_half k gen (a + suc j) (double q) =
      ap double is ∙ swapped
      ∙ ap (plus k (double q)) (gens.doubled (suc (a + j)) (omega (arith, fits)))
      ∙ ap (λ n. second_half k gen n (double q)) (sym e') in
      map-append double (block_starts k gen a m q) (block_starts k gen a m q')
      ∙ ap (λ xs. xs ++ map double (block_starts k gen a m q'))
      (starts-doubled a j q (omega (arith, fits)))
      ∙ ap (λ xs. block_starts k gen a (suc j) (double q) ++ xs)
      (starts-doubled a j q' (omega (arith, fits)) ∙ ap (block_starts k gen a (suc j)) there)

  -- their factors are the x coordinates of a coset
  starts-x : (j a : ℕ) (q : Coordinates F) → a + suc j ≤ suc bits → IsOnCircle k q →
      map (factor k (suc j)) (block_starts k gen a (suc j) q)
      ≡ map (λ p. p.x) (coset k gen a (times k (2 ^ j) q))
  starts-x zero a q fits c =
      ap (map (λ p. p.x))
      (block_starts-coset k gen a q ∙ ap (coset k gen a) (sym (times-one laws q)))
  starts-x (suc j) a q fits c =
      let double = λ (p : Coordinates F). plus k p p in
      let starts = block_starts k gen a (suc (suc j)) q in
      map-same (factor k (suc (suc j))) (λ p. factor k (suc j) (double p)) (IsOnCircle k) starts
      (starts-on_circle a (suc (suc j)) q fits c)
      (λ p h. ap (iterated_x k j) (doubled_x-plus laws p h))
      ∙ sym (map-map (factor k (suc j)) double starts)
      ∙ ap (map (factor k (suc j))) (starts-doubled a j q fits)
      ∙ starts-x j a (double q) (omega (arith, fits)) (plus-on_circle laws q q c c)
      ∙ ap (λ p. map (λ r. r.x) (coset k gen a p)) (sym (times-pow-suc laws j q))

  -- v_n on the standard domain of 2^(b + n) points
  pub vanishing-spread : (b n : ℕ) → 1 ≤ n → b + n + 1 ≤ bits →
      map (vanishing k n) (cfft_order k gen (b + n) (gen (b + n + 1)))
      ≡ spread (2 ^ n) (map (λ p. p.x) (coset k gen b (gen (b + 2))))
  vanishing-spread b zero positive fits = absurd (omega arith)
  vanishing-spread b (suc j) positive fits =
      let s = gen (b + suc j + 1) in
      let e : suc j - 1 ≡ j = omega arith in
      let order : b + suc j + 1 ≡ j + (b + 2) = omega arith in
      let c = gens.on_circle (b + suc j + 1) fits in
      ap (λ i. map (λ p. iterated_x k i p.x) (cfft_order k gen (b + suc j) s)) e
      ∙ ap (map (factor k (suc j))) (sym (points-cfft_order k gen (b + suc j) s (omega arith)))
      ∙ factors-spread b (suc j) s (omega (arith, fits)) c
      ∙ ap (spread (2 ^ suc j)) (starts-x j b s (omega (arith, fits)) c
      ∙ ap (λ q. map (λ p. p.x) (coset k gen b q)) (ap (λ i. times k (2 ^ j) (gen i)) order
      ∙ times-generator laws gens j (b + 2) (omega (arith, fits))))

-- 1 shifted by a number of bits
pub block-size : (r m b bits : ℕ) → r ≡ m → m + 1 ≤ bits → bits ≤ 62 → 1 * 2 ^ (r - b) % 2 ^ 64
    ≡ 2 ^ (m - b)
block-size r m b bits same fits small =
    let one : 1 * 2 ^ (r - b) ≡ 2 ^ (r - b) = omega arith in
    let room : 2 ^ (r - b) ≤ 2 ^ 62 = pow_within (r - b) 62 (omega (arith, same, fits, small)) in
    ap (λ n. n % 2 ^ 64) one ∙ mod-eq_of_lt (omega (arith, room)) ∙ ap (λ i. 2 ^ (i - b)) same

module _ {F E : Type 0} {k : FieldOps F} (l : FieldOps E) (embed : F → E) (laws : RingLaws k)
    {gen : ℕ → Coordinates F} {bits : ℕ} (gens : AreGenerators k bits gen) where
  -- the x coordinates of a smaller coset, each for a block, are the values of the vanishing
  -- polynomial
  pub blocks-vanishing : (m b : ℕ) (ps : List (Coordinates F)) → b < m → m + 1 ≤ bits →
      ps ≡ coset k gen b (gen (b + 2)) →
      spread (2 ^ (m - b)) (map (λ p. embed p.x) ps) ≡ vanishing_values k gen l embed b m
  blocks-vanishing m b ps below fits are =
      let n = m - b in
      let x = λ (p : Coordinates F). p.x in
      let v = vanishing k n in
      let e : b + n ≡ m = omega (arith, below) in
      let points = cfft_order k gen m (gen (m + 1)) in
      let spread_is : map v points ≡ spread (2 ^ n) (map x (coset k gen b (gen (b + 2)))) =
      ap (λ i. map v (cfft_order k gen i (gen (i + 1)))) (sym e)
      ∙ vanishing-spread laws gens b n (omega (arith, below)) (omega (arith, e, fits)) in
      ap (spread (2 ^ n)) (sym (map-map embed x ps) ∙ ap (λ qs. map embed (map x qs)) are)
      ∙ sym (spread-map embed (2 ^ n) (map x (coset k gen b (gen (b + 2)))))
      ∙ ap (map embed) (sym spread_is)
      ∙ map-map embed v points

  -- the points of the smaller domain, as they are computed
  coset-of : (b n : ℕ) (s : Coordinates F) (ps : List (Coordinates F)) → n ≡ b + 1 →
      s ≡ gen (b + 1 + 1) → ps ≡ coset k gen (n - 1) s → ps ≡ coset k gen b (gen (b + 2))
  coset-of b n s ps size shift are =
      let first : n - 1 ≡ b = omega (arith, size) in
      let order : b + 1 + 1 ≡ b + 2 = omega arith in
      are ∙ ap (λ i. coset k gen i s) first ∙ ap (coset k gen b) (shift ∙ ap gen order)

  pub word-blocks : (r m b n : ℕ) (s : Coordinates F) (ps : List (Coordinates F)) → r ≡ m → b < m →
      m + 1 ≤ bits → bits ≤ 62 → n ≡ b + 1 → s ≡ gen (b + 1 + 1) → ps ≡ coset k gen (n - 1) s →
      spread (1 * 2 ^ (r - b) % 2 ^ 64) (map (λ p. embed p.x) ps)
      ≡ vanishing_values k gen l embed b m
  word-blocks r m b n s ps same below fits small size shift are =
      ap (λ i. spread i (map (λ p. embed p.x) ps)) (block-size r m b bits same fits small)
      ∙ blocks-vanishing m b ps below fits (coset-of b n s ps size shift are)

  pub word-length : (r m b n : ℕ) (s : Coordinates F) (ps : List (Coordinates F)) → r ≡ m → b < m →
      m + 1 ≤ bits → bits ≤ 62 → n ≡ b + 1 → s ≡ gen (b + 1 + 1) → ps ≡ coset k gen (n - 1) s →
      2 ^ m ≡ length ps * (1 * 2 ^ (r - b) % 2 ^ 64)
  word-length r m b n s ps same below fits small size shift are =
      let sum : b + (m - b) ≡ m = omega (arith, below) in
      ap (λ i. 2 ^ i) (sym sum) ∙ pow-add 2 b (m - b)
      ∙ ap (λ i. i * 2 ^ (m - b))
      (sym (ap length (coset-of b n s ps size shift are) ∙ length-coset k gen b (gen (b + 2))))
      ∙ ap (λ i. length ps * i) (sym (block-size r m b bits same fits small))

-- the inverse of a power of 2
pub halved_power : {E : Type 0} {l : FieldOps E} (laws : FieldLaws l) (n : ℕ) →
    nth_power l (l.inv (two l)) n ≡ l.inv (nth_power l (two l) n)
halved_power {l = l} laws n =
    inverse_unique laws (nth_power l (two l) n) (nth_power l (l.inv (two l)) n)
    (power-nonzero laws n) (inverse_power laws n)
