-- Lists made of consecutive places, a block after another.
use Rattle.std.specs.Prelude.{◌≡◌, ℕ, ◌+◌, ◌-◌, ◌*◌, ◌%◌, ◌^◌, ◌<◌, ◌≤◌, List, ◌∷◌, ◌++◌, map}
use Rattle.std.specs.Prelude.{drop, length, take}
use Rattle.std.specs.List.{range_with_len}
use Rattle.std.proofs.Common.{zero, suc, sym, ◌∙◌, ap, refl, subst, arith, length-drop, pow-add}
use Rattle.std.proofs.Math.Nat.{mod-add-mod, mul-le-mul_right, pow-le-pow_right}
use Rattle.std.proofs.lemmas.List.{get_or-drop, get_or-take, length-take-le}
use Rattle.std.proofs.lemmas.Nat.{pow_pos}
use Rattle.circle_field.specs.Field.{FieldOps}
use Rattle.circle_commit.proofs.Powers.{shifted}
use Rattle.circle_air.specs.Values.{entry, window}

module _ {X : Type 0} where
  -- what agrees place by place
  pub ranges-agree : (f h : ℕ → X) (a b n : ℕ) → ((r : ℕ) → r < n → f (a + r) ≡ h (b + r)) →
      map f (range_with_len a n) ≡ map h (range_with_len b n)
  ranges-agree f h a b zero each = refl
  ranges-agree f h a b (suc n) each =
      let at_a : a ≡ a + 0 = omega arith in
      let at_b : b + 0 ≡ b = omega arith in
      let first : f a ≡ h b = ap f at_a ∙ each 0 (omega arith) ∙ ap h at_b in
      ap (λ x. x ∷ map f (range_with_len (a + 1) n)) first
      ∙ ap (λ xs. h b ∷ xs)
      (ranges-agree f h (a + 1) (b + 1) n
      (λ r lt.
      let on_a : a + 1 + r ≡ a + suc r = omega arith in
      let on_b : b + suc r ≡ b + 1 + r = omega arith in
      ap f on_a ∙ each (suc r) (omega (arith, lt)) ∙ ap h on_b))

  -- one block more
  pub range-append : (f : ℕ → X) (a m n : ℕ) →
      map f (range_with_len a (m + n))
      ≡ map f (range_with_len a m) ++ map f (range_with_len (a + m) n)
  range-append f a zero n =
      let none : 0 + n ≡ n = omega arith in
      let here : a ≡ a + 0 = omega arith in
      ap (λ c. map f (range_with_len a c)) none ∙ ap (λ c. map f (range_with_len c n)) here
  range-append f a (suc m) n =
      let more : suc m + n ≡ suc (m + n) = omega arith in
      let on : a + 1 + m ≡ a + suc m = omega arith in
      ap (λ c. map f (range_with_len a c)) more
      ∙ ap (λ xs. f a ∷ xs) (range-append f (a + 1) m n)
      ∙ ap (λ c. f a ∷ (map f (range_with_len (a + 1) m) ++ map f (range_with_len c n))) on

-- the place of a lane of the next rows
pub next-lane : (start step r count : ℕ) →
    ((start + step) % count + r) % count ≡ (start + r + step) % count
next-lane start step r count =
    mod-add-mod (start + step) count r
    ∙ ap (λ n. n % count) (let same : start + step + r ≡ start + r + step = omega arith in same)

pub same-window : {F : Type 0} (a a' b b' c c' d : List F) → a ≡ a' → b ≡ b' → c ≡ c' →
    window a b c d ≡ window a' b' c' d
same-window a a' b b' c c' d ea eb ec =
    ap (λ x. window x b c d) ea ∙ ap (λ x. window a' x c d) eb ∙ ap (λ x. window a' b' x d) ec

-- so many consecutive places among others
pub record IsBlock (size start lanes : ℕ) : Type 0 where
  pub within : start + lanes ≤ size
  pub small : size ≤ 2 ^ 61
  pub some : 1 ≤ lanes

pub block-of : (log b block : ℕ) → log ≤ 61 → b ≤ log →
    block < 1 * 2 ^ (log - b) % 2 ^ 64 →
    IsBlock (2 ^ log) (block * (1 * 2 ^ b % 2 ^ 64)) (1 * 2 ^ b % 2 ^ 64)
block-of log b block most le lt =
    let lanes : 1 * 2 ^ b % 2 ^ 64 ≡ 2 ^ b = shifted b (omega (arith, most, le)) in
    let count : 1 * 2 ^ (log - b) % 2 ^ 64 ≡ 2 ^ (log - b) =
    shifted (log - b) (omega (arith, most)) in
    let first : block + 1 ≤ 2 ^ (log - b) = omega (arith, lt, count) in
    let whole : 2 ^ (log - b) * 2 ^ b ≡ 2 ^ log =
    sym (pow-add 2 (log - b) b)
    ∙ ap (λ i. 2 ^ i) (let e : log - b + b ≡ log = omega (arith, le) in e) in
    let all : (block + 1) * 2 ^ b ≤ 2 ^ log =
    omega (arith, mul-le-mul_right (2 ^ b) first, whole) in
    let two : 0 < 2 = omega arith in record {
      within = subst (λ n. block * n + n ≤ 2 ^ log) (sym lanes) (omega (arith, all));
      small = pow-le-pow_right {n = 2} two most;
      some = omega (arith, lanes, pow_pos b);
    }

-- the places of all blocks
pub blocks-whole : (log b : ℕ) → log ≤ 61 → b ≤ log →
    1 * 2 ^ (log - b) % 2 ^ 64 * (1 * 2 ^ b % 2 ^ 64) ≡ 2 ^ log
blocks-whole log b most le =
    ap (λ m. m * (1 * 2 ^ b % 2 ^ 64)) (shifted (log - b) (omega (arith, most)))
    ∙ ap (λ m. 2 ^ (log - b) * m) (shifted b (omega (arith, most, le)))
    ∙ sym (pow-add 2 (log - b) b)
    ∙ ap (λ i. 2 ^ i) (let e : log - b + b ≡ log = omega (arith, le) in e)

-- the values of a node among those of all nodes
pub node-within : (count lanes node : ℕ) → node < count → (node + 1) * lanes ≤ count * lanes
node-within count lanes node lt =
    let next : node + 1 ≤ count = omega (arith, lt) in mul-le-mul_right lanes next

-- the length of a block of a list
pub slice-length : {X : Type 0} (xs : List X) (start lanes : ℕ) → start + lanes ≤ length xs →
    length (take (start + lanes - start) (drop start xs)) ≡ lanes
slice-length xs start lanes room =
    let count : start + lanes - start ≡ lanes = omega arith in
    length-take-le (start + lanes - start) (drop start xs)
    (omega (arith, room, length-drop start xs)) ∙ count

-- what is made of each place, with those of one block more
pub block-made : {F X : Type 0} (k : FieldOps F) (made : F → ℕ → X) (inverses : List F)
    (block lanes : ℕ) → block * lanes + lanes ≤ length inverses → (slice : List F) →
    slice ≡ take (block * lanes + lanes - block * lanes) (drop (block * lanes) inverses) →
    (old new : List X) →
    old ≡ map (λ i. made (entry k inverses i) i) (range_with_len 0 (block * lanes)) →
    new ≡ old ++ map (λ r. made (entry k slice r) (block * lanes + r))
    (range_with_len 0 (length slice)) →
    new ≡ map (λ i. made (entry k inverses i) i) (range_with_len 0 ((block + 1) * lanes))
block-made {X = X} k made inverses block lanes room slice is old new before pushed =
    let start = block * lanes in
    let f : ℕ → X = λ i. made (entry k inverses i) i in
    let h : ℕ → X = λ r. made (entry k slice r) (start + r) in
    let long : length slice ≡ lanes = ap length is ∙ slice-length inverses start lanes room in
    pushed
    ∙ ap (λ xs. xs ++ map h (range_with_len 0 (length slice))) before
    ∙ ap (λ n. map f (range_with_len 0 start) ++ map h (range_with_len 0 n)) long
    ∙ ap (λ ys. map f (range_with_len 0 start) ++ ys)
    (ranges-agree h f 0 (0 + start) lanes
    (λ r lt.
    let none : 0 + r ≡ r = omega arith in
    let there : start + r ≡ 0 + start + r = omega arith in
    ap h none
    ∙ ap (λ x. made x (start + r)) (ap (λ xs. entry k xs r) is
    ∙ get_or-take (start + lanes - start) (drop start inverses) r k.zero (omega (arith, lt))
    ∙ get_or-drop start inverses r k.zero)
    ∙ ap f there))
    ∙ sym (range-append f 0 start lanes)
    ∙ ap (λ n. map f (range_with_len 0 n))
    (let e : start + lanes ≡ (block + 1) * lanes = omega arith in e)
