-- Values in natural order and in the transform's order.
use Rattle.std.specs.Prelude.{◌≡◌, ℕ, ◌-◌, ◌^◌, ◌<◌, ◌≤◌, List, length, map, slice_index_or}
use Rattle.std.proofs.Common.{suc, sym, ◌∙◌, ap, arith}
use Rattle.std.proofs.lemmas.List.{length-map, get_or-map}
use Rattle.std.proofs.lemmas.List.FromFn.{fill_by_all, length-map-range_with_len}
use Rattle.std.proofs.lemmas.List.FromFn.{get_or-map-range_with_len}
use Rattle.circle_field.specs.Field.{FieldOps, RingLaws, FieldLaws}
use Rattle.circle_field.specs.Circle.{Coordinates, IsOnCircle, AreGenerators, origin}
use Rattle.circle_point.specs.Basis.{value}
use Rattle.circle_domain.specs.Order.{IsGenuine, cfft_order, natural_order}
use Rattle.circle_domain.specs.Ordering.{cfft_index, reordered}
use Rattle.circle_domain.proofs.Coefficients.{column-told}
use Rattle.circle_domain.proofs.CosetOrder.{cfft-place, length-cfft_order}
use Rattle.circle_domain.proofs.Orders.{length-natural_from, two_halves}
use Rattle.circle_domain.proofs.Reversal.{cfft_index-below, cfft_index-own_inverse}

pub reordered-twice : {T : Type 0} (d : T) (n : ℕ) (xs : List T) → length xs ≡ 2 ^ n →
    reordered d n (reordered d n xs) ≡ xs
reordered-twice d n xs long =
    sym (fill_by_all (λ i. slice_index_or (reordered d n xs) (cfft_index n i) d) xs (2 ^ n) d long
    (λ i lt.
    ap (λ j. slice_index_or xs j d) (sym (cfft_index-own_inverse n i lt))
    ∙ sym (get_or-map-range_with_len (λ i. slice_index_or xs (cfft_index n i) d) 0 (2 ^ n)
    (cfft_index n i) (cfft_index n i) d (cfft_index-below n i) (omega arith))))

module _ {F : Type 0} {k : FieldOps F} (laws : RingLaws k) {gen : ℕ → Coordinates F} {bits : ℕ}
    (gens : AreGenerators k bits gen) where
  pub length-natural : (n : ℕ) (s : Coordinates F) → 1 ≤ n → length (natural_order k gen n s)
      ≡ 2 ^ n
  length-natural n s h = length-natural_from k (2 ^ (n - 1)) (gen (n - 1)) s 0 ∙ two_halves n h

  -- the points
  pub reordered-points : {T : Type 0} (d : T) (f : Coordinates F → T) (n : ℕ) (s : Coordinates F) →
      1 ≤ n → n ≤ suc bits →
      reordered d n (map f (natural_order k gen n s)) ≡ map f (cfft_order k gen n s)
  reordered-points d f n s h fits =
      let o = origin k in
      let e : suc (n - 1) ≡ n = omega arith in
      let natural = natural_order k gen n s in
      let there = cfft_order k gen n s in
      let long = length-natural n s h in
      sym (fill_by_all (λ i. slice_index_or (map f natural) (cfft_index n i) d) (map f there)
      (2 ^ n) d (length-map there f ∙ length-cfft_order laws gens n s h)
      (λ i lt.
      let below = cfft_index-below n i in
      get_or-map f there i o d (omega (arith, lt, length-cfft_order laws gens n s h))
      ∙ ap f
      (cfft-place laws gens (n - 1) i s o (let l : i < 2 ^ suc (n - 1) =
      omega (arith, lt, ap (λ m. 2 ^ m) e) in l) (omega (arith, fits))
      ∙ ap (λ m. slice_index_or natural (cfft_index m i) o) e)
      ∙ sym (get_or-map f natural (cfft_index n i) o d (omega (arith, below, long)))))

module _ {F : Type 0} {k : FieldOps F} (laws : FieldLaws k) {gen : ℕ → Coordinates F} {bits : ℕ}
    (gens : AreGenerators k bits gen)
    (n : ℕ) (s : Coordinates F) (fits : n ≤ suc bits) (on_circle : IsOnCircle k s)
    (genuine : IsGenuine k n s) where
  -- values in natural order have coefficients
  pub natural-told : (ws : List F) → length ws ≡ 2 ^ n → (c : List F) × (length c ≡ 2 ^ n)
      × (map (value k c) (natural_order k gen n s) ≡ ws)
  natural-told ws e =
      let h = genuine.0 in
      let there = reordered k.zero n ws in
      let told =
      column-told laws gens n s fits on_circle genuine there
      (length-map-range_with_len (λ i. slice_index_or ws (cfft_index n i) k.zero) 0 (2 ^ n)) in
      let values = map (value k told.0) (natural_order k gen n s) in
      let long : length values ≡ 2 ^ n = length-map (natural_order k gen n s) (value k told.0)
      ∙ length-natural laws.ring gens n s h in (
        told.0,
        told.1,
        sym (reordered-twice k.zero n values long)
            ∙ ap (reordered k.zero n)
            (reordered-points laws.ring gens k.zero (value k told.0) n s h fits ∙ told.2)
            ∙ reordered-twice k.zero n ws e,
      )
