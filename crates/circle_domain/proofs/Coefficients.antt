-- Values on a genuine domain have coefficients.
use Rattle.std.specs.Prelude.{◌≡◌, ◌≢◌, ℕ, ◌^◌, ◌<◌, ◌≤◌, List, [], ◌∷◌, ◌++◌, length, map, take}
use Rattle.std.specs.Prelude.{drop, slice_index_or, All}
use Rattle.std.specs.List.{range_with_len}
use Rattle.std.proofs.Common.{zero, suc, sym, ◌∙◌, ap, refl, arith, length-append}
use Rattle.std.proofs.Math.Nat.{pow-suc}
use Rattle.std.proofs.lemmas.List.{take_at, drop_at, take_all, length-map}
use Rattle.std.proofs.lemmas.List.FromFn.{fill_by_all, length-map-range_with_len}
use Rattle.std.proofs.lemmas.List.FromFn.{get_or-map-range_with_len}
use Rattle.circle_field.specs.Field.{FieldOps, FieldLaws, sub}
use Rattle.circle_field.specs.Ring.{Expr, var, unit, plus as sum, times as prod, minus}
use Rattle.circle_field.specs.RingCombine.{given, combine}
use Rattle.circle_field.specs.Circle.{Coordinates, IsOnCircle, AreGenerators, origin, times}
use Rattle.circle_commit.specs.Matrix.{column}
use Rattle.circle_point.specs.Basis.{value}
use Rattle.circle_commit.specs.DotProduct.{pairwise}
use Rattle.circle_domain.specs.Layers.{factor, second_half}
use Rattle.circle_domain.specs.Order.{IsGenuine, cfft_order}
use Rattle.circle_domain.specs.Values.{HasValues}
use Rattle.circle_domain.proofs.Blocks.{points-cfft_order, second_half-on_circle}
use Rattle.circle_domain.proofs.Columns.{column-made}
use Rattle.circle_domain.proofs.Inversion.{factor-nonzero, first-genuine, second-genuine}
use Rattle.circle_domain.proofs.LagrangePolynomials.{twice-nonzero}
use Rattle.circle_domain.proofs.Stored.{rows-values}
use Rattle.circle_domain.proofs.Transform.{lower, upper, finish, finish-value, halves_of}
use Rattle.circle_commit.proofs.Written.{length-pairwise}

module _ {F : Type 0} {k : FieldOps F} (laws : FieldLaws k) where
  -- the halves of coefficients from their sums and differences
  abbrev half_sum : F → F → F
  half_sum x y = k.mul (k.add x y) (k.inv (k.add k.one k.one))

  abbrev half_difference : F → F → F → F
  half_difference t x y = k.mul (sub k x y) (k.inv (k.add t t))

  recovered : (t : F) (xs ys : List F) → t ≢ k.zero → length xs ≡ length ys →
      (lower k t (pairwise half_sum xs ys) (pairwise (half_difference t) xs ys) ≡ xs)
      × (upper k t (pairwise half_sum xs ys) (pairwise (half_difference t) xs ys) ≡ ys)
  recovered t [] [] h e = (refl, refl)
  recovered t [] (y ∷ ys) h e = absurd (omega (arith, e))
  recovered t (x ∷ xs) [] h e = absurd (omega (arith, e))
  recovered t (x ∷ xs) (y ∷ ys) h e =
      let rest = recovered t xs ys h (omega (arith, e)) in
      let i = k.inv (k.add k.one k.one) in
      let j = k.inv (k.add t t) in
      let env : List F = x ∷ y ∷ t ∷ i ∷ j ∷ [] in
      let ex : Expr = var 0 in let ey : Expr = var 1 in let et : Expr = var 2 in let ei : Expr =
      var 3 in let ej : Expr = var 4 in
      let s : Expr = prod (sum ex ey) ei in
      let d : Expr = prod (prod (sum ex (minus ey)) ej) et in
      let two_inverse : k.mul (k.add k.one k.one) i ≡ k.one =
      laws.mul_inv (k.add k.one k.one) laws.two_nonzero in
      let inverse : k.mul (k.add t t) j ≡ k.one =
      laws.mul_inv (k.add t t) (twice-nonzero laws t h) in
      -- (x - y) t / (2 t) is (x - y) / 2
      let half : k.mul t j ≡ i =
      combine laws.ring env (prod et ej) ei
      (given (minus (prod et ej)) (prod (sum unit unit) ei) unit
      ∷ given ei (prod (sum et et) ej) unit ∷ []) refl (two_inverse, (inverse, tt)) in
      let low : k.add (k.mul (k.add x y) i) (k.mul (k.mul (sub k x y) j) t) ≡ x =
      combine laws.ring env (sum s d) ex
      (given (sum ex (minus ey)) (prod et ej) ei ∷ given ex (prod (sum unit unit) ei) unit ∷ [])
      refl (half, (two_inverse, tt)) in
      let high : sub k (k.mul (k.add x y) i) (k.mul (k.mul (sub k x y) j) t) ≡ y =
      combine laws.ring env (sum s (minus d)) ey
      (given (minus (sum ex (minus ey))) (prod et ej) ei ∷ given ey (prod (sum unit unit) ei) unit
      ∷ []) refl (half, (two_inverse, tt)) in (
        ap (λ v. v ∷ lower k t (pairwise half_sum xs ys) (pairwise (half_difference t) xs ys)) low
            ∙ ap (λ vs. x ∷ vs) rest.0,
        ap (λ v. v ∷ upper k t (pairwise half_sum xs ys) (pairwise (half_difference t) xs ys)) high
            ∙ ap (λ vs. y ∷ vs) rest.1,
      )

  module _ {gen : ℕ → Coordinates F} {bits : ℕ} (gens : AreGenerators k bits gen) where
    -- the coefficients that the layers make into these entries
    pub told : (m : ℕ) (q : Coordinates F) (ws : List F) → length ws ≡ 2 ^ m → m ≤ suc bits →
        IsOnCircle k q → times k (2 ^ m) q ≢ origin k →
        (c : List F) × (length c ≡ 2 ^ m) × (finish k gen m q c ≡ ws)
    told zero q ws e h on_circle genuine = (ws, e, refl)
    told (suc m) q ws e h on_circle genuine =
        let half = 2 ^ m in
        let t = factor k m q in
        let q' = second_half k gen m q in
        let halves = halves_of k m t ws e in
        let first =
        told m q (take half ws) halves.low (omega arith) on_circle
        (first-genuine laws m q genuine) in
        let second = told m q' (take half (drop half ws)) halves.high (omega arith)
        (second_half-on_circle laws.ring gens m q (omega arith) on_circle)
        (second-genuine laws gens m q (omega arith) on_circle genuine) in
        let a = first.0 in
        let b = second.0 in
        let same : length a ≡ length b = first.1 ∙ sym second.1 in
        let lo = pairwise half_sum a b in
        let hi = pairwise (half_difference t) a b in
        let llo : length lo ≡ half = length-pairwise half_sum a b same ∙ first.1 in
        let lhi : length hi ≡ half = length-pairwise (half_difference t) a b same ∙ first.1 in
        let back = recovered t a b (factor-nonzero laws m q on_circle genuine) same in
        let take_lo : take half (lo ++ hi) ≡ lo = take_at lo hi half llo in
        let take_hi : take half (drop half (lo ++ hi)) ≡ hi =
        ap (take half) (drop_at lo hi half llo) ∙ take_all half hi (omega (arith, lhi)) in (
          lo ++ hi,
          length-append lo hi ∙ omega (arith, llo, lhi, pow-suc 2 m),
          ap (λ xs. finish k gen m q (lower k t xs (take half (drop half (lo ++ hi))))
              ++ finish k gen m q' (upper k t xs (take half (drop half (lo ++ hi))))) take_lo
              ∙ ap (λ xs. finish k gen m q (lower k t lo xs) ++ finish k gen m q' (upper k t lo xs))
              take_hi
              ∙ ap (λ xs. finish k gen m q xs ++ finish k gen m q' (upper k t lo hi)) back.0
              ∙ ap (λ xs. finish k gen m q a ++ finish k gen m q' xs) back.1
              ∙ ap (λ xs. xs ++ finish k gen m q' b) first.2
              ∙ ap (λ xs. take half ws ++ xs) second.2
              ∙ halves.joined,
        )

    module _ (n : ℕ) (s : Coordinates F) (fits : n ≤ suc bits) (on_circle : IsOnCircle k s)
        (genuine : IsGenuine k n s) where
      -- one column
      pub column-told : (ws : List F) → length ws ≡ 2 ^ n → (c : List F) × (length c ≡ 2 ^ n)
          × (map (value k c) (cfft_order k gen n s) ≡ ws)
      column-told ws e =
          let c = told n s ws e fits on_circle genuine.1 in (
            c.0,
            c.1,
            ap (map (value k c.0)) (sym (points-cfft_order k gen n s genuine.0))
                ∙ sym (finish-value laws.ring gens n s c.0 c.1 fits on_circle) ∙ c.2,
          )

      -- rows
      pub rows-told : (width : ℕ) (rows : List (List F)) → 1 ≤ width → length rows ≡ 2 ^ n →
          All (λ row. length row ≡ width) rows →
          (coeffs : List (List F)) × HasValues k gen n s width coeffs rows
      rows-told width rows positive tall wide =
          let read : ℕ → List F → F = λ j row. slice_index_or row j k.zero in
          let col =
          λ (j : ℕ). column-told (column k.zero rows j) (length-map rows (read j) ∙ tall) in
          let entry : ℕ → ℕ → F = λ j i. slice_index_or (col j).0 i k.zero in
          let made =
          map (λ i. map (λ j. entry j i) (range_with_len 0 width)) (range_with_len 0 (2 ^ n)) in (
            made,
            record {
              height =
                  length-map-range_with_len (λ i. map (λ j. entry j i) (range_with_len 0 width)) 0
                  (2 ^ n);
              widths = λ i d lt.
                  let below : i < 2 ^ n =
                  omega (
                    arith,
                    lt,
                    length-map-range_with_len (λ i. map (λ j. entry j i) (range_with_len 0 width))
                        0 (2 ^ n),
                  ) in
                  ap length
                  (get_or-map-range_with_len
                  (λ i. map (λ j. entry j i) (range_with_len 0 width)) 0 (2 ^ n) i i d below
                  (omega arith))
                  ∙ length-map-range_with_len (λ j. entry j i) 0 width;
              values =
                  sym (rows-values k width (2 ^ n) positive rows made (cfft_order k gen n s) wide
                  (λ j lt.
                  sym (ap (λ c. map (value k c) (cfft_order k gen n s))
                  (column-made k.zero width j entry (range_with_len 0 (2 ^ n)) lt
                  ∙ sym
                  (fill_by_all (entry j) (col j).0 (2 ^ n) k.zero (col j).1 (λ i below. refl)))
                  ∙ (col j).2)));
            },
          )
