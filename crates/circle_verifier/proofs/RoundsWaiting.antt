-- The codewords that wait for the rounds where they join.
use Rattle.std.specs.Prelude.{◌≡◌, ◌≢◌, ℕ, ◌+◌, ◌-◌, ◌<◌, Bool, true, false, cond, List, [], ◌∷◌}
use Rattle.std.specs.Prelude.{◌++◌, length, map, All, slice_index_or}
use Rattle.std.specs.List.{filter, range_with_len}
use Rattle.std.proofs.Common.{zero, suc, refl, sym, ◌∙◌, ap, subst, ⊎_elim, arith, length-append}
use Rattle.std.proofs.lemmas.Bool.{cases_Bool}
use Rattle.std.proofs.lemmas.List.{map-append, append-nil, get_or-append_right}
use Rattle.std.proofs.lemmas.List.FromFn.{length-range_with_len, get_or-range_with_len}
use Rattle.std.proofs.lemmas.List.Elements.{All-filter, All-map, filter-append}

-- lists with the same entries before their last
pub last-same : {T : Type 0} (xs ys : List T) (x y : T) → xs ++ x ∷ [] ≡ ys ++ y ∷ [] →
    (xs ≡ ys) × (x ≡ y)
last-same [] [] x y e = (refl, cc)
last-same [] (z ∷ zs) x y e = absurd (omega (arith, ap length e, length-append zs (y ∷ [])))
last-same (w ∷ ws) [] x y e = absurd (omega (arith, ap length e, length-append ws (x ∷ [])))
last-same (w ∷ ws) (z ∷ zs) x y e =
    let first : w ≡ z = cc in
    let rest : ws ++ x ∷ [] ≡ zs ++ y ∷ [] = cc in
    let same = last-same ws zs x y rest in
    (ap (λ h. h ∷ ws) first ∙ ap (λ t. z ∷ t) same.0, same.1)

pub range-more : (a n : ℕ) → range_with_len a (suc n) ≡ range_with_len a n ++ (a + n) ∷ []
range-more a zero = let same : a ≡ a + zero = omega arith in ap (λ m. m ∷ []) same
range-more a (suc n) =
    let same : a + 1 + n ≡ a + suc n = omega arith in
    ap (λ t. a ∷ t) (range-more (a + 1) n ∙ ap (λ m. range_with_len (a + 1) n ++ m ∷ []) same)

-- the codewords of the heights below a bound that pass a test
module _ {T : Type 0} (p : ℕ → Bool) (word : ℕ → T) where
  abbrev pub below : ℕ → List (ℕ × T)
  below b = map (λ h. (h, word h)) (filter p (range_with_len 0 b))

  one-more : (b : ℕ) → below (suc b) ≡ below b ++ map (λ h. (h, word h)) (filter p (b ∷ []))
  one-more b =
      let none : 0 + b ≡ b = omega arith in
      let pair : ℕ → ℕ × T = λ h. (h, word h) in
      ap (λ hs. map pair (filter p hs))
      (range-more 0 b ∙ ap (λ m. range_with_len 0 b ++ m ∷ []) none)
      ∙ ap (map pair) (filter-append p (range_with_len 0 b) (b ∷ []))
      ∙ map-append pair (filter p (range_with_len 0 b)) (filter p (b ∷ []))

  pub claimed-more : (b : ℕ) → p b ≡ true → below (suc b) ≡ below b ++ (b, word b) ∷ []
  claimed-more b is = one-more b ∙ ap (λ c. below b ++ map (λ h. (h, word h)) (cond c (b ∷ []) []))
      is

  pub unclaimed-more : (b : ℕ) → p b ≡ false → below (suc b) ≡ below b
  unclaimed-more b isnt =
      one-more b ∙ ap (λ c. below b ++ map (λ h. (h, word h)) (cond c (b ∷ []) [])) isnt
      ∙ append-nil (below b)

  all-below : (b : ℕ) → All (λ w. w.0 < b) (below b)
  all-below b =
      All-map (λ w. w.0 < b) (λ h. (h, word h)) (filter p (range_with_len 0 b))
      (All-filter p (λ h. h < b) (range_with_len 0 b)
      (λ i d lt. let within : i < b = omega (arith, lt, length-range_with_len 0 b) in
      omega (arith, within, get_or-range_with_len 0 b i d within)))

  last-below : (b : ℕ) (front : List (ℕ × T)) (w : ℕ × T) → front ++ w ∷ [] ≡ below b → w.0 < b
  last-below b front w e =
      let all = subst (All (λ w. w.0 < b)) (sym e) (all-below b) in
      subst (λ v. v.0 < b)
      (get_or-append_right front (w ∷ []) (length front) (length front) w refl (omega arith)
      ∙ (let z : length front - length front ≡ 0 = omega arith in
      ap (λ i. slice_index_or (w ∷ []) i w) z))
      (all (length front) w (omega (arith, length-append front (w ∷ []))))

  -- the last codeword is that of the next height below, where there is one
  pub last-due : (b : ℕ) (front : List (ℕ × T)) (w : ℕ × T) → front ++ w ∷ [] ≡ below (suc b) →
      w.0 ≡ b → (p b ≡ true) × (front ≡ below b) × (w.1 ≡ word b)
  last-due b front w e due =
      ⊎_elim
      (λ is. let same = last-same front (below b) w (b, word b) (e ∙ claimed-more b is) in
      (is, same.0, ap (λ (v : ℕ × T). v.1) same.1))
      (λ isnt. let lt = last-below b front w (e ∙ unclaimed-more b isnt) in
      absurd (omega (arith, lt, due)))
      (cases_Bool (p b))

  pub last-later : (b : ℕ) (front : List (ℕ × T)) (w : ℕ × T) → front ++ w ∷ [] ≡ below (suc b) →
      w.0 ≢ b → (p b ≡ false) × (front ++ w ∷ [] ≡ below b)
  last-later b front w e later =
      ⊎_elim
      (λ is. let same = last-same front (below b) w (b, word b) (e ∙ claimed-more b is) in
      absurd (later (ap (λ (v : ℕ × T). v.0) same.1)))
      (λ isnt. (isnt, e ∙ unclaimed-more b isnt))
      (cases_Bool (p b))

  pub none-left : (b : ℕ) → [] ≡ below (suc b) → (p b ≡ false) × ([] ≡ below b)
  none-left b e =
      ⊎_elim
      (λ is. absurd
      (omega (
        arith,
        ap length (e ∙ claimed-more b is),
        length-append (below b) ((b, word b) ∷ []),
      )))
      (λ isnt. (isnt, e ∙ unclaimed-more b isnt))
      (cases_Bool (p b))
