-- Four inverses at a time, by products with those of the layer above.
use Rattle.std.specs.Prelude.{◌≡◌, ◌≢◌, ℕ, ◌+◌, ◌-◌, ◌<◌, ◌≤◌, List, [], ◌∷◌, ◌++◌, length, map}
use Rattle.std.specs.Prelude.{take, drop, slice_index_or, slice_set}
use Rattle.std.proofs.Common.{zero, suc, sym, ◌∙◌, ap, refl, arith, append_assoc}
use Rattle.std.proofs.lemmas.List.{take_more, drop_more, length-take-le, get_or-append-add}
use Rattle.std.proofs.lemmas.List.{get_or-drop, length-drop}
use Rattle.circle_field.specs.Field.{FieldOps, FieldLaws}
use Rattle.circle_field.specs.Ring.{Expr, var, unit, plus as sum, times as prod, minus}
use Rattle.circle_field.specs.RingCombine.{given, combine}
use Rattle.circle_field.proofs.Inverses.{inverse_unique, nonzero_factor}
use Rattle.circle_cfft.specs.Twiddles.{twice}

-- four entries in place of four
set_four : {T : Type 0} (front : List T) (i : ℕ) (a b c d p q r s : T) (rest : List T) →
    length front ≡ i →
    slice_set (slice_set (slice_set (slice_set (front ++ (a ∷ b ∷ c ∷ d ∷ rest)) i p) (suc i) q)
    (suc (suc i)) r) (suc (suc (suc i))) s ≡ front ++ (p ∷ q ∷ r ∷ s ∷ rest)
set_four [] zero a b c d p q r s rest e = refl
set_four [] (suc i) a b c d p q r s rest e = absurd (omega arith)
set_four (x ∷ front) zero a b c d p q r s rest e = absurd (omega arith)
set_four (x ∷ front) (suc i) a b c d p q r s rest e =
    ap (λ ys. x ∷ ys) (set_four front i a b c d p q r s rest (omega arith))

module _ {T : Type 0} (xs : List T) (i : ℕ) (d : T) (h : i + 3 < length xs) where
  -- the four entries from i on, before others
  abbrev four : List T → List T
  four rest = slice_index_or xs i d ∷ slice_index_or xs (i + 1) d ∷ slice_index_or xs (i + 2) d
      ∷ slice_index_or xs (i + 3) d ∷ rest

  -- a list from i on begins with them
  drop_four : drop i xs ≡ four (drop (i + 4) xs)
  drop_four =
      let one : i + 1 + 1 ≡ i + 2 = omega arith in
      let two : i + 2 + 1 ≡ i + 3 = omega arith in
      let three : i + 3 + 1 ≡ i + 4 = omega arith in
      let a = slice_index_or xs i d in
      let b = slice_index_or xs (i + 1) d in
      let c = slice_index_or xs (i + 2) d in
      drop_more xs i d (omega (arith, h))
      ∙ ap (λ ys. a ∷ ys) (drop_more xs (i + 1) d (omega (arith, h))
      ∙ ap (λ n. b ∷ drop n xs) one)
      ∙ ap (λ ys. a ∷ b ∷ ys) (drop_more xs (i + 2) d (omega (arith, h))
      ∙ ap (λ n. c ∷ drop n xs) two)
      ∙ ap (λ ys. a ∷ b ∷ c ∷ ys)
      (drop_more xs (i + 3) d h ∙ ap (λ n. slice_index_or xs (i + 3) d ∷ drop n xs) three)

  -- and its first i + 4 entries end with them
  take_four : take (i + 4) xs ≡ take i xs ++ four []
  take_four =
      let one : i + 2 ≡ i + 1 + 1 = omega arith in
      let two : i + 3 ≡ i + 2 + 1 = omega arith in
      let three : i + 4 ≡ i + 3 + 1 = omega arith in
      let front = take i xs in
      let a = slice_index_or xs i d in
      let b = slice_index_or xs (i + 1) d in
      let c = slice_index_or xs (i + 2) d in
      let e = slice_index_or xs (i + 3) d in
      ap (λ n. take n xs) three ∙ take_more xs (i + 3) d h
      ∙ ap (λ ys. ys ++ e ∷ [])
      (ap (λ n. take n xs) two ∙ take_more xs (i + 2) d (omega (arith, h)))
      ∙ ap (λ ys. (ys ++ c ∷ []) ++ e ∷ [])
      (ap (λ n. take n xs) one ∙ take_more xs (i + 1) d (omega (arith, h)))
      ∙ ap (λ ys. ((ys ++ b ∷ []) ++ c ∷ []) ++ e ∷ []) (take_more xs i d (omega (arith, h)))
      ∙ ap (λ ys. (ys ++ c ∷ []) ++ e ∷ []) (append_assoc front (a ∷ []) (b ∷ []))
      ∙ ap (λ ys. ys ++ e ∷ []) (append_assoc front (a ∷ b ∷ []) (c ∷ []))
      ∙ append_assoc front (a ∷ b ∷ c ∷ []) (e ∷ [])

-- lists that differ in no entry of four
same_four_values : {T : Type 0} (front rest : List T) {a b c d p q r s : T} → a ≡ p → b ≡ q →
    c ≡ r → d ≡ s → front ++ (a ∷ b ∷ c ∷ d ∷ rest) ≡ front ++ (p ∷ q ∷ r ∷ s ∷ rest)
same_four_values front rest e f g h = cc

-- four entries more of a list that is mapped from its end on
pub mapped_four : {T : Type 0} (f : T → T) (xs old : List T) (i j : ℕ) (d p q r s : T) →
    i + 3 < length xs → j ≡ i + 4 → old ≡ take j xs ++ map f (drop j xs) →
    p ≡ f (slice_index_or xs i d) → q ≡ f (slice_index_or xs (i + 1) d) →
    r ≡ f (slice_index_or xs (i + 2) d) → s ≡ f (slice_index_or xs (i + 3) d) →
    slice_set (slice_set (slice_set (slice_set old i p) (i + 1) q) (i + 2) r) (i + 3) s ≡ take i xs
    ++ map f (drop i xs)
mapped_four f xs old i j d p q r s h next so_far pp qq rr ss =
    let one : i + 1 ≡ suc i = omega arith in
    let two : i + 2 ≡ suc (suc i) = omega arith in
    let three : i + 3 ≡ suc (suc (suc i)) = omega arith in
    let front = take i xs in
    let rest = map f (drop (i + 4) xs) in
    let a = slice_index_or xs i d in
    let b = slice_index_or xs (i + 1) d in
    let c = slice_index_or xs (i + 2) d in
    let e = slice_index_or xs (i + 3) d in
    let split : old ≡ front ++ (a ∷ b ∷ c ∷ e ∷ rest) =
    so_far ∙ ap (λ n. take n xs ++ map f (drop n xs)) next
    ∙ ap (λ ys. ys ++ rest) (take_four xs i d h)
    ∙ append_assoc front (a ∷ b ∷ c ∷ e ∷ []) rest in
    ap (λ ys. slice_set (slice_set (slice_set (slice_set ys i p) (i + 1) q) (i + 2) r) (i + 3) s)
    split
    ∙ ap
    (λ n. slice_set
    (slice_set (slice_set (slice_set (front ++ (a ∷ b ∷ c ∷ e ∷ rest)) i p) n q) (i + 2) r)
    (i + 3) s) one
    ∙ ap
    (λ n. slice_set
    (slice_set (slice_set (slice_set (front ++ (a ∷ b ∷ c ∷ e ∷ rest)) i p) (suc i) q) n r)
    (i + 3) s) two
    ∙ ap
    (λ n. slice_set
    (slice_set (slice_set (slice_set (front ++ (a ∷ b ∷ c ∷ e ∷ rest)) i p) (suc i) q)
    (suc (suc i)) r) n s) three
    ∙ set_four front i a b c e p q r s rest (length-take-le i xs (omega (arith, h)))
    ∙ same_four_values front rest pp qq rr ss
    ∙ ap (λ ys. front ++ map f ys) (sym (drop_four xs i d h))

-- an entry that is mapped already
pub mapped_read : {T : Type 0} (f : T → T) (xs old : List T) (j m : ℕ) (d e : T) → j ≤ length xs →
    j ≤ m → m < length xs → old ≡ take j xs ++ map f (drop j xs) →
    slice_index_or old m d ≡ f (slice_index_or xs m e)
mapped_read f xs old j m d e whole from within so_far =
    let front = take j xs in
    let r = m - j in
    let long : length front ≡ j = length-take-le j xs whole in
    let place : length front + r ≡ m = omega (arith, long, from) in
    let back : j + r ≡ m = omega (arith, from) in
    ap (λ ys. slice_index_or ys m d) so_far
    ∙ ap (λ n. slice_index_or (front ++ map f (drop j xs)) n d) (sym place)
    ∙ get_or-append-add front (map f (drop j xs)) r d
    ∙ mapped (drop j xs) r d e (omega (arith, length-drop j xs, within, from))
    ∙ ap f (get_or-drop j xs r e ∙ ap (λ n. slice_index_or xs n e) back)
  where
    mapped : (ys : List _) (n : ℕ) (d e : _) → n < length ys → slice_index_or (map f ys) n d
        ≡ f (slice_index_or ys n e)
    mapped [] n d e h = absurd (omega arith)
    mapped (y ∷ ys) zero d e h = refl
    mapped (y ∷ ys) (suc n) d e h = mapped ys n d e (omega arith)

module _ {F : Type 0} {k : FieldOps F} (laws : FieldLaws k) where
  -- the variables of the identities below
  abbrev a : Expr
  a = var 0

  abbrev b : Expr
  b = var 1

  abbrev v : Expr
  v = var 2

  abbrev w : Expr
  w = var 3

  -- from 2ab = v and the inverse of v, that of a
  pub first-inverse : (s t u : F) → u ≢ k.zero → twice k s t ≡ u →
      k.mul t (k.add (k.inv u) (k.inv u)) ≡ k.inv s
  first-inverse s t u some e =
      let one : k.mul (k.mul t (k.add (k.inv u) (k.inv u))) s ≡ k.one =
      combine laws.ring (s ∷ t ∷ u ∷ k.inv u ∷ []) (prod (prod b (sum w w)) a) unit
      (given w (sum (prod a b) (prod a b)) v ∷ given unit (prod v w) unit ∷ []) refl
      (e, (laws.mul_inv u some, tt)) in
      inverse_unique laws s (k.mul t (k.add (k.inv u) (k.inv u)))
      (nonzero_factor laws s (k.mul t (k.add (k.inv u) (k.inv u))) one) one

  -- from 2ab = -v and the inverse of v
  pub second-inverse : (s t u : F) → u ≢ k.zero → twice k s t ≡ k.neg u →
      k.mul t (k.neg (k.add (k.inv u) (k.inv u))) ≡ k.inv s
  second-inverse s t u some e =
      let one : k.mul (k.mul t (k.neg (k.add (k.inv u) (k.inv u)))) s ≡ k.one =
      combine laws.ring (s ∷ t ∷ u ∷ k.inv u ∷ []) (prod (prod b (minus (sum w w))) a) unit
      (given (minus w) (sum (prod a b) (prod a b)) (minus v) ∷ given unit (prod v w) unit ∷ []) refl
      (e, (laws.mul_inv u some, tt)) in
      inverse_unique laws s (k.mul t (k.neg (k.add (k.inv u) (k.inv u))))
      (nonzero_factor laws s (k.mul t (k.neg (k.add (k.inv u) (k.inv u)))) one) one

  -- the order of the factors does not matter
  pub twice-comm : (s t : F) → twice k s t ≡ twice k t s
  twice-comm s t = let e = laws.ring.mul_comm s t in cc
