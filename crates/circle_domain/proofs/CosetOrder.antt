-- The order of the transform as a permutation of the natural order.
use Rattle.std.specs.Prelude.{◌≡◌, ℕ, ◌+◌, ◌-◌, ◌*◌, ◌/◌, ◌%◌, ◌^◌, ◌<◌, ◌≤◌, List, [], ◌∷◌, length}
use Rattle.std.specs.Prelude.{map, slice_index_or}
use Rattle.std.specs.List.{range_with_len}
use Rattle.std.proofs.Common.{zero, suc, sym, ◌∙◌, ap, refl, arith, ⊎_elim}
use Rattle.std.proofs.Math.Nat.{pow-suc, div-eq_of_lt}
use Rattle.std.proofs.Math.ListN.{get_or-map}
use Rattle.std.proofs.lemmas.Bool.{cases_lt, cases_eq}
use Rattle.std.proofs.lemmas.List.{get_or_append_left, get_or-append_right, length-map}
use Rattle.std.proofs.lemmas.List.FromFn.{fill_by_all}
use Rattle.std.proofs.lemmas.Nat.{shr_high}
use Rattle.std.proofs.lemmas.Option.{get_or_from_slice_get}
use Rattle.circle_field.specs.Field.{FieldOps, RingLaws}
use Rattle.circle_field.specs.Ring.{Expr, var, plus as sum, times as prod, minus}
use Rattle.circle_field.specs.RingSound.{ring}
use Rattle.circle_field.specs.Circle.{Coordinates, IsOnCircle, AreGenerators, plus, opposite}
use Rattle.circle_field.specs.Circle.{origin, times}
use Rattle.circle_field.specs.CircleGroup.{plus_comm, plus_assoc, plus-origin, plus-opposite}
use Rattle.circle_field.specs.CircleGroup.{same_coordinates}
use Rattle.circle_domain.specs.Order.{coset, cfft_order, natural_order, natural_from}
use Rattle.circle_domain.specs.Order.{with_opposites}
use Rattle.circle_domain.specs.Ordering.{reversed, cfft_index, other_order}
use Rattle.circle_point.proofs.Multiples.{times-+, times-double, times-on_circle}
use Rattle.circle_domain.proofs.Blocks.{times-generator-past}
use Rattle.circle_domain.proofs.Twiddles.{length-coset}
use Rattle.circle_domain.proofs.Orders.{natural_from-even, natural_from-odd, length-natural_from}
use Rattle.circle_domain.proofs.Orders.{two_halves}
use Rattle.circle_domain.proofs.OtherOrder.{other_order-indexed}
use Rattle.circle_domain.proofs.Reversal.{reversed-last, reversed-high, reversed-below}
use Rattle.circle_domain.proofs.Reversal.{reversed-low, reversed-top, reversed-complement}
use Rattle.circle_domain.proofs.Reversal.{cfft_index-even, cfft_index-odd, cfft_index-own_inverse}

module _ {F : Type 0} (k : FieldOps F) where
  length-with_opposites : (qs : List (Coordinates F)) → length (with_opposites k qs) ≡ length qs
      + length qs
  length-with_opposites [] = refl
  length-with_opposites (q ∷ qs) = let e = length-with_opposites qs in omega (arith, e)

  pub with_opposites-even : (qs : List (Coordinates F)) (h i : ℕ) (d : Coordinates F) → i ≡ h + h →
      h < length qs → slice_index_or (with_opposites k qs) i d ≡ slice_index_or qs h d
  with_opposites-even [] h i d e lt = absurd (omega arith)
  with_opposites-even (q ∷ qs) zero i d e lt =
      ap (λ j. slice_index_or (with_opposites k (q ∷ qs)) j d) e
  with_opposites-even (q ∷ qs) (suc h) i d e lt =
      let two : suc h + suc h ≡ suc (suc (h + h)) = omega arith in
      ap (λ j. slice_index_or (with_opposites k (q ∷ qs)) j d) (e ∙ two)
      ∙ with_opposites-even qs h (h + h) d refl (omega arith)

  pub with_opposites-odd : (qs : List (Coordinates F)) (h i : ℕ) (d : Coordinates F) →
      i ≡ suc (h + h) → h < length qs → slice_index_or (with_opposites k qs) i d
      ≡ opposite k (slice_index_or qs h d)
  with_opposites-odd [] h i d e lt = absurd (omega arith)
  with_opposites-odd (q ∷ qs) zero i d e lt =
      ap (λ j. slice_index_or (with_opposites k (q ∷ qs)) j d) e
  with_opposites-odd (q ∷ qs) (suc h) i d e lt =
      let two : suc (suc h + suc h) ≡ suc (suc (suc (h + h))) = omega arith in
      ap (λ j. slice_index_or (with_opposites k (q ∷ qs)) j d) (e ∙ two)
      ∙ with_opposites-odd qs h (suc (h + h)) d refl (omega arith)

module _ {F : Type 0} {k : FieldOps F} (laws : RingLaws k) where
  -- what is opposite to a point
  opposite-unique : (p q : Coordinates F) → IsOnCircle k p → plus k p q ≡ origin k →
      opposite k p ≡ q
  opposite-unique p q c e =
      let o = opposite k p in
      sym (plus-origin laws o) ∙ ap (plus k o) (sym e) ∙ sym (plus_assoc laws o p q)
      ∙ ap (λ r. plus k r q) (plus_comm laws o p ∙ plus-opposite laws p c)
      ∙ plus_comm laws (origin k) q ∙ plus-origin laws q

  pub opposite-plus : (p q : Coordinates F) → opposite k (plus k p q)
      ≡ plus k (opposite k p) (opposite k q)
  opposite-plus p q =
      let a : Expr = var 0 in let b : Expr = var 1 in let c : Expr = var 2 in let d : Expr =
      var 3 in
      let env : List F = p.x ∷ p.y ∷ q.x ∷ q.y ∷ [] in
      same_coordinates
      (ring laws env (sum (prod a c) (minus (prod b d)))
      (sum (prod a c) (minus (prod (minus b) (minus d)))) refl)
      (ring laws env (minus (sum (prod a d) (prod b c))) (sum (prod a (minus d)) (prod (minus b) c))
      refl)

  module _ {gen : ℕ → Coordinates F} {bits : ℕ} (gens : AreGenerators k bits gen) where
    -- the point at a place of a coset
    coset-place : (m h : ℕ) (s d : Coordinates F) → h < 2 ^ m → m ≤ bits →
        slice_index_or (coset k gen m s) h d ≡ plus k s (times k (reversed m h) (gen m))
    coset-place zero zero s d lt fits = sym (plus-origin laws s)
    coset-place zero (suc h) s d lt fits = absurd (omega arith)
    coset-place (suc m) h s d lt fits =
        let g' = gen (suc m) in
        let first = coset k gen m s in
        let second = coset k gen m (plus k s g') in
        let long : length first ≡ 2 ^ m = length-coset k gen m s in
        let last = reversed-last m h in
        let halved : (r : ℕ) → times k r (gen m) ≡ times k (r + r) g' =
        λ r. ap (times k r) (sym (gens.doubled m (omega arith))) ∙ times-double laws r g' in
        ⊎_elim
        (λ low.
        let none : h / 2 ^ m ≡ 0 = div-eq_of_lt low in
        let r : reversed m h + reversed m h ≡ reversed (suc m) h = omega (arith, last, none) in
        get_or_append_left first second d h (omega (arith, long, low))
        ∙ coset-place m h s d low (omega arith)
        ∙ ap (plus k s) (halved (reversed m h) ∙ ap (λ n. times k n g') r))
        (λ high.
        let h' = h - 2 ^ m in
        let below : h' < 2 ^ m = omega (arith, lt, high, pow-suc 2 m) in
        let split : h ≡ 2 ^ m * 1 + h' = omega (arith, high) in
        let same : reversed m h ≡ reversed m h' = ap (reversed m) split ∙ reversed-high m 1 h' in
        let one : h / 2 ^ m ≡ 1 =
        ap (λ n. n / 2 ^ m) (let e : h ≡ 1 * 2 ^ m + h' = omega (arith, high) in e)
        ∙ shr_high 1 m h' below in
        let r = reversed m h' in
        let e : suc (r + r) ≡ reversed (suc m) h = omega (arith, last, one, same) in
        get_or-append_right first second (2 ^ m) h d long high
        ∙ coset-place m h' (plus k s g') d below (omega arith)
        ∙ ap (plus k (plus k s g')) (halved r) ∙ plus_assoc laws s g' (times k (r + r) g')
        ∙ ap (λ n. plus k s (times k n g')) e)
        (cases_lt h (2 ^ m))

    -- the point at a place of the transform's order
    pub cfft-place : (m i : ℕ) (s d : Coordinates F) → i < 2 ^ suc m → m ≤ bits →
        slice_index_or (with_opposites k (coset k gen m s)) i d
        ≡ slice_index_or (natural_from k (2 ^ m) (gen m) s 0) (cfft_index (suc m) i) d
    cfft-place m i s d lt fits =
        let h = i / 2 in
        let g = gen m in
        let pow = pow-suc 2 m in
        let low : h < 2 ^ m = omega (arith, lt, pow) in
        let long : length (coset k gen m s) ≡ 2 ^ m = length-coset k gen m s in
        let natural = natural_from k (2 ^ m) g s 0 in
        let r = reversed m h in
        let r_low : r < 2 ^ m = reversed-below m h in
        ⊎_elim
        (λ even.
        let place : cfft_index (suc m) i ≡ r + r = cfft_index-even (suc m) i even
        ∙ reversed-low m h low ∙ omega arith in
        let z : 0 + r ≡ r = omega arith in
        with_opposites-even k (coset k gen m s) h i d (omega (arith, even))
        (omega (arith, long, low))
        ∙ coset-place m h s d low fits
        ∙ sym (ap (λ j. slice_index_or natural j d) place
        ∙ get_or_from_slice_get natural (r + r) (plus k s (times k (0 + r) g)) d
        (natural_from-even k (2 ^ m) r g s 0 (r + r) r_low refl)
        ∙ ap (λ n. plus k s (times k n g)) z))
        (λ not_even.
        let odd : i % 2 ≡ 1 = omega (arith, not_even) in
        let j = 2 ^ m - 1 - r in
        let c = 2 ^ m - 1 - h in
        let split : 2 ^ suc m - 1 - h ≡ 2 ^ m + c = omega (arith, low, pow) in
        let place : cfft_index (suc m) i ≡ suc (j + j) =
        cfft_index-odd (suc m) i odd ∙ ap (reversed (suc m)) split
        ∙ reversed-top m c (omega (arith, low))
        ∙ ap (λ n. n * 2 + 1) (reversed-complement m h low) ∙ omega arith in
        let p = times k r g in
        let q = times k (suc (0 + j)) g in
        let whole : r + suc (0 + j) ≡ 2 ^ m = omega (arith, r_low) in
        let turned : opposite k p ≡ q =
        opposite-unique p q (times-on_circle laws r g (gens.on_circle m fits))
        (sym (times-+ laws r (suc (0 + j)) g) ∙ ap (λ n. times k n g) whole
        ∙ times-generator-past laws gens m m (omega arith) fits) in
        with_opposites-odd k (coset k gen m s) h i d (omega (arith, odd)) (omega (arith, long, low))
        ∙ ap (opposite k) (coset-place m h s d low fits)
        ∙ opposite-plus s p ∙ ap (plus k (opposite k s)) turned
        ∙ sym (ap (λ n. slice_index_or natural n d) place
        ∙ get_or_from_slice_get natural (suc (j + j)) (plus k (opposite k s) q) d
        (natural_from-odd k (2 ^ m) j g s 0 (suc (j + j)) (omega (arith, r_low)) refl)))
        (cases_eq (i % 2) 0)

    pub length-cfft_order : (n : ℕ) (s : Coordinates F) → 1 ≤ n → length (cfft_order k gen n s)
        ≡ 2 ^ n
    length-cfft_order n s h = length-with_opposites k (coset k gen (n - 1) s)
        ∙ omega (arith, length-coset k gen (n - 1) s, two_halves n h)

    -- what stands at the points in the transform's order stands at them in natural order once it is
    -- reordered
    pub other_order-points : {T : Type 0} (f : Coordinates F → List T) (n : ℕ) (s : Coordinates F) →
        1 ≤ n → n ≤ suc bits →
        other_order n (map f (cfft_order k gen n s)) ≡ map f (natural_order k gen n s)
    other_order-points f n s h fits =
        let e : suc (n - 1) ≡ n = omega arith in
        let o = origin k in
        let points = natural_order k gen n s in
        let there = cfft_order k gen n s in
        let row = λ (i : ℕ). f (slice_index_or points (cfft_index n i) o) in
        let long : length (map f points) ≡ 2 ^ n = length-map points f
        ∙ length-natural_from k (2 ^ (n - 1)) (gen (n - 1)) s 0 ∙ two_halves n h in
        let indexed : map f there ≡ map row (range_with_len 0 (2 ^ n)) =
        fill_by_all row (map f there) (2 ^ n) (f o) (length-map there f ∙ length-cfft_order n s h)
        (λ i lt. get_or-map f there i o
        ∙ ap f
        (cfft-place (n - 1) i s o (let l : i < 2 ^ suc (n - 1) =
        omega (arith, lt, ap (λ m. 2 ^ m) e) in l) (omega (arith, fits))
        ∙ ap (λ m. slice_index_or points (cfft_index m i) o) e)) in
        ap (other_order n) indexed
        ∙ other_order-indexed n row
        ∙ sym (fill_by_all (λ i. row (cfft_index n i)) (map f points) (2 ^ n) (f o) long
        (λ i lt. get_or-map f points i o
        ∙ ap (λ j. f (slice_index_or points j o)) (sym (cfft_index-own_inverse n i lt))))
