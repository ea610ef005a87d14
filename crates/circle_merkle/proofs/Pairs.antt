-- Positions in pairs.
use Rattle.std.specs.Prelude.{◌≡◌, ℕ, ◌+◌, ◌-◌, ◌*◌, ◌/◌, ◌%◌, ◌^◌, ◌<◌, ◌≤◌, ◌==◌, ◌&&◌, ◌||◌}
use Rattle.std.specs.Prelude.{Bool, true, false, not, List, [], ◌∷◌, filter, if◌then◌else◌}
use Rattle.std.specs.List.{range_with_len}
use Rattle.std.specs.Int.Bits.{bit_xor, xor_zero_r}
use Rattle.std.proofs.Common.{zero, suc, refl, sym, ap, subst, ◌∙◌, arith, lit<, ⊎_elim}
use Rattle.std.proofs.lemmas.Bool.{eq-eqb, ne_eqb, cases_eq}
use Rattle.std.proofs.lemmas.Nat.{xor_block}
use Rattle.circle_merkle.specs.Tree.{sibling}
use Rattle.circle_merkle.specs.Walk.{parents_of, siblings_of}

pub sibling-even : (a : ℕ) → sibling (2 * a) ≡ 2 * a + 1
sibling-even a = let e : 2 * a % 2 ≡ 0 = omega arith in
    ap (λ r. if r == 0 then 2 * a + 1 else 2 * a - 1) e

pub sibling-odd : (a : ℕ) → sibling (2 * a + 1) ≡ 2 * a
sibling-odd a = let e : (2 * a + 1) % 2 ≡ 1 = omega arith in
    let less : 2 * a + 1 - 1 ≡ 2 * a = omega arith in
    ap (λ r. if r == 0 then 2 * a + 1 + 1 else 2 * a + 1 - 1) e ∙ less

-- the sibling is the number with its lowest bit changed
pub xor-sibling : (p : ℕ) → bit_xor p 1 ≡ sibling p
xor-sibling p =
    let a = p / 2 in
    ⊎_elim
    (λ e. ap (λ n. bit_xor n 1) (let s : p ≡ a * 2 ^ 1 + 0 = omega arith in s)
    ∙ xor_block 1 a 0 0 1 (lit< tt) (lit< tt)
    ∙ (let z : bit_xor a 0 * 2 ^ 1 + bit_xor 0 1 ≡ 2 * a + 1 = omega (arith, xor_zero_r a) in z)
    ∙ sym (sibling-even a) ∙ ap sibling (let s : 2 * a ≡ p = omega arith in s))
    (λ n. ap (λ n. bit_xor n 1) (let s : p ≡ a * 2 ^ 1 + 1 = omega (arith, n) in s)
    ∙ xor_block 1 a 0 1 1 (lit< tt) (lit< tt)
    ∙ (let z : bit_xor a 0 * 2 ^ 1 + bit_xor 1 1 ≡ 2 * a = omega (arith, xor_zero_r a) in z)
    ∙ sym (sibling-odd a) ∙ ap sibling (let s : 2 * a + 1 ≡ p = omega (arith, n) in s))
    (cases_eq (p % 2) 0)

pub half-even : (a : ℕ) → 2 * a / 2 ≡ a
half-even a = omega arith

pub half-odd : (a : ℕ) → (2 * a + 1) / 2 ≡ a
half-odd a = omega arith

-- a range of pairs
pub range-pair : (a n : ℕ) → range_with_len (2 * a) (2 * suc n) ≡ 2 * a ∷ (2 * a + 1)
    ∷ range_with_len (2 * (a + 1)) (2 * n)
range-pair a n =
    let count : 2 * suc n ≡ suc (suc (2 * n)) = omega arith in
    let next : 2 * a + 1 + 1 ≡ 2 * (a + 1) = omega arith in
    ap (range_with_len (2 * a)) count ∙ ap (λ b. 2 * a ∷ (2 * a + 1) ∷ range_with_len b (2 * n))
    next

-- the list is empty or begins with a number that isn't below this one
abbrev pub Starts : ℕ → List ℕ → Type 0
Starts low [] = Unit {0}
Starts low (x ∷ xs) = low ≤ x

starts-below : (b c : ℕ) (xs : List ℕ) → b ≤ c → Starts c xs → Starts b xs
starts-below b c [] le h = tt
starts-below b c (x ∷ xs) le h = omega arith

starts-cond : (b : ℕ) (t : Bool) (xs : List ℕ) → Starts (b + 1) xs →
    Starts b (if t then b ∷ xs else xs)
starts-cond b true xs h = omega arith
starts-cond b false xs h = starts-below b (b + 1) xs (omega arith) h

-- the elements of a range that pass begin no lower than the range
pub starts-filter : (k : ℕ → Bool) (b n : ℕ) → Starts b (filter k (range_with_len b n))
starts-filter k b zero = tt
starts-filter k b (suc n) =
    starts-cond b (k b) (filter k (range_with_len (b + 1) n)) (starts-filter k (b + 1) n)

pub apart : (q s low : ℕ) → low ≤ q → s < low → (q == s) ≡ false
apart q s low le lt = ne_eqb q s (λ e. absurd (omega arith))

module _ (p low : ℕ) where
  siblings-lone : (xs : List ℕ) → Starts low xs → sibling p < low → siblings_of (p ∷ xs) ≡ sibling p
      ∷ siblings_of xs
  siblings-lone [] h lt = refl
  siblings-lone (q ∷ rest) h lt =
      ap (λ b. if b then siblings_of rest else sibling p ∷ siblings_of (q ∷ rest))
      (apart q (sibling p) low h lt)

  parents-lone : (xs : List ℕ) → Starts low xs → sibling p < low → parents_of (p ∷ xs) ≡ p / 2
      ∷ parents_of xs
  parents-lone [] h lt = refl
  parents-lone (q ∷ rest) h lt =
      ap (λ b. p / 2 ∷ (if b then parents_of rest else parents_of (q ∷ rest)))
      (apart q (sibling p) low h lt)

module _ (a : ℕ) where
  both : (2 * a + 1 == sibling (2 * a)) ≡ true
  both = eq-eqb (2 * a + 1) (sibling (2 * a)) (sym (sibling-even a))

  pub low-even : sibling (2 * a) < 2 * (a + 1)
  low-even = subst (λ s. s < 2 * (a + 1)) (sym (sibling-even a)) (omega arith)

  pub low-odd : sibling (2 * a + 1) < 2 * (a + 1)
  low-odd = subst (λ s. s < 2 * (a + 1)) (sym (sibling-odd a)) (omega arith)

  siblings-step : (t u : Bool) (xs ys : List ℕ) → Starts (2 * (a + 1)) xs → siblings_of xs ≡ ys →
      siblings_of
      (if t then 2 * a
      ∷ (if u then (2 * a + 1) ∷ xs else xs) else (if u then (2 * a + 1) ∷ xs else xs))
      ≡
      (if u && not t then 2 * a ∷ (if t && not u then (2 * a + 1) ∷ ys else ys) else
      (if t && not u then (2 * a + 1) ∷ ys else ys))
  siblings-step true true xs ys h e =
      ap (λ b. if b then siblings_of xs else sibling (2 * a) ∷ siblings_of ((2 * a + 1) ∷ xs)) both
      ∙ e
  siblings-step true false xs ys h e =
      siblings-lone (2 * a) (2 * (a + 1)) xs h low-even
      ∙ ap (λ s. s ∷ siblings_of xs) (sibling-even a) ∙ ap (λ r. (2 * a + 1) ∷ r) e
  siblings-step false true xs ys h e =
      siblings-lone (2 * a + 1) (2 * (a + 1)) xs h low-odd
      ∙ ap (λ s. s ∷ siblings_of xs) (sibling-odd a) ∙ ap (λ r. 2 * a ∷ r) e
  siblings-step false false xs ys h e = e

  parents-step : (t u : Bool) (xs ys : List ℕ) → Starts (2 * (a + 1)) xs → parents_of xs ≡ ys →
      parents_of
      (if t then 2 * a
      ∷ (if u then (2 * a + 1) ∷ xs else xs) else (if u then (2 * a + 1) ∷ xs else xs))
      ≡ (if t || u then a ∷ ys else ys)
  parents-step true true xs ys h e =
      ap (λ b. 2 * a / 2 ∷ (if b then parents_of xs else parents_of ((2 * a + 1) ∷ xs))) both
      ∙ ap (λ p. p ∷ parents_of xs) (half-even a) ∙ ap (λ r. a ∷ r) e
  parents-step true false xs ys h e =
      parents-lone (2 * a) (2 * (a + 1)) xs h low-even ∙ ap (λ s. s ∷ parents_of xs) (half-even a)
      ∙ ap (λ r. a ∷ r) e
  parents-step false true xs ys h e =
      parents-lone (2 * a + 1) (2 * (a + 1)) xs h low-odd ∙ ap (λ s. s ∷ parents_of xs) (half-odd a)
      ∙ ap (λ r. a ∷ r) e
  parents-step false false xs ys h e = e

module _ (k : ℕ → Bool) where
  abbrev pub missing : ℕ → Bool
  missing q = k (sibling q) && not (k q)

  abbrev pub above : ℕ → Bool
  above p = k (2 * p) || k (2 * p + 1)

  pub missing-even : (a : ℕ) → missing (2 * a) ≡ (k (2 * a + 1) && not (k (2 * a)))
  missing-even a = ap (λ s. k s && not (k (2 * a))) (sibling-even a)

  pub missing-odd : (a : ℕ) → missing (2 * a + 1) ≡ (k (2 * a) && not (k (2 * a + 1)))
  missing-odd a = ap (λ s. k s && not (k (2 * a + 1))) (sibling-odd a)

  -- the siblings of the known positions of a range of pairs are the positions that are missing
  pub siblings-pairs : (a n : ℕ) → siblings_of (filter k (range_with_len (2 * a) (2 * n)))
      ≡ filter missing (range_with_len (2 * a) (2 * n))
  siblings-pairs a zero = refl
  siblings-pairs a (suc n) =
      let rest = range_with_len (2 * (a + 1)) (2 * n) in
      let ys = filter missing rest in
      ap (λ r. siblings_of (filter k r)) (range-pair a n)
      ∙ siblings-step a (k (2 * a)) (k (2 * a + 1)) (filter k rest) ys
      (starts-filter k (2 * (a + 1)) (2 * n)) (siblings-pairs (a + 1) n)
      ∙ ap
      (λ b. if b then 2 * a
      ∷ (if k (2 * a) && not (k (2 * a + 1)) then (2 * a + 1) ∷ ys else ys) else
      (if k (2 * a) && not (k (2 * a + 1)) then (2 * a + 1) ∷ ys else ys))
      (sym (missing-even a))
      ∙ ap (λ b. if missing (2 * a) then 2 * a
      ∷ (if b then (2 * a + 1) ∷ ys else ys) else (if b then (2 * a + 1) ∷ ys else ys))
      (sym (missing-odd a))
      ∙ ap (filter missing) (sym (range-pair a n))

  -- the parents of the known positions of a range of pairs
  pub parents-pairs : (a n : ℕ) → parents_of (filter k (range_with_len (2 * a) (2 * n)))
      ≡ filter above (range_with_len a n)
  parents-pairs a zero = refl
  parents-pairs a (suc n) =
      let rest = range_with_len (2 * (a + 1)) (2 * n) in
      ap (λ r. parents_of (filter k r)) (range-pair a n)
      ∙ parents-step a (k (2 * a)) (k (2 * a + 1)) (filter k rest)
      (filter above (range_with_len (a + 1) n)) (starts-filter k (2 * (a + 1)) (2 * n))
      (parents-pairs (a + 1) n)
