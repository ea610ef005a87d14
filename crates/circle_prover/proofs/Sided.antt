-- Lists that are made of two others, place by place, and places without their lowest bits.
use Rattle.std.specs.Prelude.{◌≡◌, ℕ, ◌+◌, ◌*◌, ◌/◌, ◌^◌, ◌<◌, List, [], ◌∷◌, ◌++◌, length, map}
use Rattle.std.specs.Prelude.{take, All, Some, slice_get, slice_index_or, min}
use Rattle.std.proofs.Common.{refl, sym, ◌∙◌, ap, subst, arith, ⊎_elim}
use Rattle.std.proofs.Math.Nat.{div-lt_iff_lt-mul}
use Rattle.std.proofs.lemmas.Nat.{pow_pos}
use Rattle.std.proofs.lemmas.List.{take_all, take_more, length-map, length-append, get_or-map}
use Rattle.std.proofs.lemmas.List.{get_or_push, get_or_append_left}
use Rattle.std.proofs.lemmas.Bool.{cases_eq}
use Rattle.std.proofs.lemmas.Option.{get_or_from_slice_get, slice_get_read, slice_get_within}
use Rattle.std.proofs.lemmas.List.Elements.{All-map}
use Rattle.circle_commit.proofs.Written.{length-pairwise, pairwise-read}
use Rattle.circle_commit.specs.DotProduct.{pairwise}
use Rattle.circle_codewords.specs.Openings.{places_of}

module _ {A B C W : Type 0} (f : A → B → C) (view : W → B) (xs : List A) (ws : List W)
    (same : length ws ≡ length xs) where
  -- as many as of each
  made-length : length (pairwise f xs (map view ws)) ≡ length xs
  made-length = length-pairwise f xs (map view ws) (sym (length-map ws view ∙ same))

  -- the value of the next two is pushed
  pub pair-pushed : (n m : ℕ) (x : A) (w : W) (c : C) (old new : List C) → n < length xs →
      x ≡ slice_index_or xs n x → w ≡ slice_index_or ws n w →
      new ≡ old ++ c ∷ [] → old ≡ take n (pairwise f xs (map view ws)) → c ≡ f x (view w) →
      m ≡ n + 1 → new ≡ take m (pairwise f xs (map view ws))
  pair-pushed n m x w c old new below is_x is_w pushed before value next =
      let all = pairwise f xs (map view ws) in
      let inside : n < length ws = omega (arith, below, same) in
      let is : c ≡ slice_index_or all n c =
      value ∙ ap (λ a. f a (view w)) is_x ∙ ap (λ v. f (slice_index_or xs n x) (view v)) is_w
      ∙ ap (f (slice_index_or xs n x)) (sym (get_or-map view ws n w (view w) inside))
      ∙ sym
      (pairwise-read f xs (map view ws) n x (view w) c below
      (omega (arith, inside, length-map ws view))) in
      pushed ∙ ap (λ ys. ys ++ c ∷ []) before ∙ ap (λ v. take n all ++ v ∷ []) is
      ∙ sym (take_more all n c (omega (arith, below, made-length)))
      ∙ ap (λ i. take i all) (sym next)

  -- all of them
  pub pair-all : (n : ℕ) → n ≡ min (length xs) (length ws) → take n (pairwise f xs (map view ws))
      ≡ pairwise f xs (map view ws)
  pair-all n all = take_all n (pairwise f xs (map view ws)) (omega (arith, all, same, made-length))

-- places without their lowest `bits` bits are below what is left
pub places-below : (top bits : ℕ) (queries : List ℕ) → All (λ q. q < top * 2 ^ bits) queries →
    All (λ i. i < top) (places_of bits queries)
places-below top bits queries low =
    All-map (λ i. i < top) (λ q. q / 2 ^ bits) queries
    (λ n d lt. (div-lt_iff_lt-mul (pow_pos bits)).1 (low n d lt))

-- one more of a list that is made beside another: the same holds of all that stand at one place
pub step-more : {D S : Type 0} (P : ℕ → D → S → Type 0) (kept : List D) (old new : List S) (i : ℕ)
    (d : D) (s : S) → length old ≡ i → d ≡ slice_index_or kept i d → new ≡ old ++ s ∷ [] →
    ((n : ℕ) (x : D) (y : S) → slice_get kept n ≡ Some x → slice_get old n ≡ Some y → P n x y) →
    P i d s →
    (n : ℕ) (x : D) (y : S) → slice_get kept n ≡ Some x → slice_get new n ≡ Some y → P n x y
step-more {D = D} {S = S} P kept old new i d s count is_d pushed before here = λ n x y at_x at_y.
    let read : slice_index_or new n y ≡ y = get_or_from_slice_get new n y y at_y in
    let within : n < length new = slice_get_within new n y at_y in
    let long : length new ≡ length old + 1 = ap length pushed ∙ length-append old (s ∷ []) in
    ⊎_elim
    (λ same.
    let is_x : d ≡ x = is_d ∙ ap (λ m. slice_index_or kept m d) (sym same)
    ∙ get_or_from_slice_get kept n x d at_x in
    let is_y : s ≡ y = sym (get_or_push old s y n (count ∙ sym same))
    ∙ ap (λ ys. slice_index_or ys n y) (sym pushed) ∙ read in
    subst (λ (b : S). P n x b) is_y
    (subst (λ (a : D). P n a s) is_x (subst (λ m. P m d s) (sym same) here)))
    (λ other.
    let low : n < length old = omega (arith, within, long, count, other) in
    let at : slice_get old n ≡ Some y =
    slice_get_read old (length old) n y refl low
    (sym read ∙ ap (λ ys. slice_index_or ys n y) pushed
    ∙ get_or_append_left old (s ∷ []) y n low) in
    before n x y at_x at)
    (cases_eq n i)
