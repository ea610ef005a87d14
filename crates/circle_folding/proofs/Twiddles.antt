-- The twiddles of a fold are the factors of the first two layers of the transform.
use Rattle.std.specs.Prelude.{◌≡◌, ◌≢◌, ℕ, ◌+◌, ◌-◌, ◌*◌, ◌%◌, ◌^◌, ◌≤◌, ◌<◌, List, [], ◌∷◌, Some}
use Rattle.std.specs.Prelude.{length, map, All, slice_get, slice_index_or}
use Rattle.std.proofs.Common.{zero, suc, refl, sym, ◌∙◌, ap, subst, arith}
use Rattle.std.proofs.Math.Nat.{pow-suc, mod-eq_of_lt}
use Rattle.std.proofs.lemmas.List.{length-map, get_or-map}
use Rattle.std.proofs.lemmas.Option.{get_or_from_slice_get}
use Rattle.std.proofs.lemmas.List.Elements.{All-from_recursion}
use Rattle.circle_field.specs.Field.{FieldOps, FieldLaws}
use Rattle.circle_field.specs.Circle.{Coordinates, AreGenerators}
use Rattle.circle_domain.specs.Order.{coset, natural_order, natural_from}
use Rattle.circle_domain.specs.Ordering.{cfft_index}
use Rattle.circle_domain.specs.Layers.{every_second, layer_factors}
use Rattle.circle_domain.proofs.Powers.{pow_within}
use Rattle.circle_domain.proofs.StandardDomain.{standard-genuine}
use Rattle.circle_domain.proofs.Twiddles.{first_factors, second_factors, length-layer_factors}
use Rattle.circle_domain.proofs.Twiddles.{length-coset}
use Rattle.circle_domain.proofs.CosetOrder.{cfft-place, with_opposites-even}
use Rattle.circle_domain.proofs.LayerFactors.{layer_factors-nonzero}
use Rattle.circle_folding.specs.Fold.{fold_y_twiddles, fold_x_twiddles}

module _ {F : Type 0} (k : FieldOps F) (gen : ℕ → Coordinates F) where
  y_factors : (r : ℕ) → layer_factors k gen (r + 1) (gen (r + 2)) 0 ≡ fold_y_twiddles k gen r
  y_factors r =
      let e : r + 1 - 1 ≡ r = omega arith in
      first_factors k gen (r + 1) (gen (r + 2))
      ∙ ap (λ m. map (λ p. p.y) (coset k gen m (gen (r + 2)))) e

  pub x_factors : (r : ℕ) → layer_factors k gen (r + 2) (gen (r + 3)) 1 ≡ fold_x_twiddles k gen r
  x_factors r =
      let e : r + 2 - 1 ≡ r + 1 = omega arith in
      second_factors k gen (r + 2) (gen (r + 3)) (omega arith)
      ∙ ap (λ m. map (λ p. p.x) (every_second (coset k gen m (gen (r + 3))))) e

  pub length-fold_y_twiddles : (r : ℕ) → length (fold_y_twiddles k gen r) ≡ 2 ^ r
  length-fold_y_twiddles r =
      let e : r + 1 - (0 + 1) ≡ r = omega arith in
      sym (ap length (y_factors r)) ∙ length-layer_factors k gen (r + 1) 0 (gen (r + 2))
      ∙ ap (λ n. 2 ^ n) e

  pub length-fold_x_twiddles : (r : ℕ) → length (fold_x_twiddles k gen r) ≡ 2 ^ r
  length-fold_x_twiddles r =
      let e : r + 2 - (1 + 1) ≡ r = omega arith in
      sym (ap length (x_factors r)) ∙ length-layer_factors k gen (r + 2) 1 (gen (r + 3))
      ∙ ap (λ n. 2 ^ n) e

  -- the twiddles of a standard domain, as they are computed
  pub fold_y_twiddles-of : (r n : ℕ) (s : Coordinates F) (ts : List F) → n ≡ r + 1 →
      s ≡ gen (r + 1 + 1) → ts ≡ map (λ p. p.y) (coset k gen (n - 1) s) →
      ts ≡ fold_y_twiddles k gen r
  fold_y_twiddles-of r n s ts size shift e =
      let m : n - 1 ≡ r = omega (arith, size) in
      let order : r + 1 + 1 ≡ r + 2 = omega arith in
      e ∙ ap (λ i. map (λ p. p.y) (coset k gen i s)) m
      ∙ ap (λ q. map (λ p. p.y) (coset k gen r q)) (shift ∙ ap gen order)

  pub fold_x_twiddles-of : (r arity n : ℕ) (s : Coordinates F) (ts : List F) → arity ≡ 1 →
      n ≡ r + arity + 1 → s ≡ gen (r + arity + 1 + 1) →
      ts ≡ map (λ p. p.x) (every_second (coset k gen (n - 1) s)) →
      ts ≡ fold_x_twiddles k gen r
  fold_x_twiddles-of r arity n s ts one size shift e =
      let m : n - 1 ≡ r + 1 = omega (arith, size, one) in
      let order : r + arity + 1 + 1 ≡ r + 3 = omega (arith, one) in
      e ∙ ap (λ i. map (λ p. p.x) (every_second (coset k gen i s))) m
      ∙ ap (λ q. map (λ p. p.x) (every_second (coset k gen (r + 1) q))) (shift ∙ ap gen order)

module _ {F : Type 0} {k : FieldOps F} (laws : FieldLaws k) {bits : ℕ} {gen : ℕ → Coordinates F}
    (gens : AreGenerators k bits gen) where
  nonzero : (n m : ℕ) → m < n → n + 1 ≤ bits →
      All (λ t. t ≢ k.zero) (layer_factors k gen n (gen (n + 1)) m)
  nonzero n m lt fits =
      let genuine = standard-genuine laws gens n (omega (arith, lt)) (omega (arith, fits)) in
      All-from_recursion (λ t. t ≢ k.zero) (layer_factors k gen n (gen (n + 1)) m)
      (layer_factors-nonzero laws gens n (gen (n + 1)) (omega (arith, fits))
      (gens.on_circle (n + 1) fits) genuine.1 m lt)

  pub fold_y_twiddles-nonzero : (r : ℕ) → r + 2 ≤ bits →
      All (λ t. t ≢ k.zero) (fold_y_twiddles k gen r)
  fold_y_twiddles-nonzero r fits =
      let order : r + 1 + 1 ≡ r + 2 = omega arith in
      subst (All (λ t. t ≢ k.zero)) (ap (λ i. layer_factors k gen (r + 1) (gen i) 0) order
      ∙ y_factors k gen r) (nonzero (r + 1) 0 (omega arith) (omega (arith, fits)))

  pub fold_x_twiddles-nonzero : (r : ℕ) → r + 3 ≤ bits →
      All (λ t. t ≢ k.zero) (fold_x_twiddles k gen r)
  fold_x_twiddles-nonzero r fits =
      let order : r + 2 + 1 ≡ r + 3 = omega arith in
      subst (All (λ t. t ≢ k.zero)) (ap (λ i. layer_factors k gen (r + 2) (gen i) 1) order
      ∙ x_factors k gen r) (nonzero (r + 2) 1 (omega arith) (omega (arith, fits)))

-- entry h of every second entry
every_second-read : {T : Type 0} (xs : List T) (h : ℕ) (d : T) →
    slice_index_or (every_second xs) h d ≡ slice_index_or xs (h + h) d
every_second-read [] h d = refl
every_second-read (x ∷ []) zero d = refl
every_second-read (x ∷ []) (suc h) d = let e : suc h + suc h ≡ suc (suc (h + h)) = omega arith in
    ap (λ i. slice_index_or (x ∷ []) i d) (sym e)
every_second-read (x ∷ y ∷ xs) zero d = refl
every_second-read (x ∷ y ∷ xs) (suc h) d =
    let e : suc h + suc h ≡ suc (suc (h + h)) = omega arith in
    every_second-read xs h d ∙ ap (λ i. slice_index_or (x ∷ y ∷ xs) i d) (sym e)

module _ {F : Type 0} {k : FieldOps F} (laws : FieldLaws k) {bits : ℕ} {gen : ℕ → Coordinates F}
    (gens : AreGenerators k bits gen) where
  x_twiddle : (r index : ℕ) (d : Coordinates F) → index < 2 ^ r → r + 3 ≤ bits →
      (slice_index_or (natural_order k gen (r + 2) (gen (r + 3))) (cfft_index (r + 2) (index * 4))
      d).x ≡ slice_index_or (fold_x_twiddles k gen r) index k.zero
  x_twiddle r index d lt fits =
      let s = gen (r + 3) in
      let points = coset k gen (r + 1) s in
      let x = λ (p : Coordinates F). p.x in
      let before : r + 1 ≡ r + 2 - 1 = omega arith in
      let size : suc (r + 1) ≡ r + 2 = omega arith in
      let first : r + 1 ≡ suc r = omega arith in
      let low : index + index < 2 ^ (r + 1) =
      omega (arith, lt, ap (λ n. 2 ^ n) first, pow-suc 2 r) in
      let within : index * 4 < 2 ^ suc (r + 1) = omega (arith, low, pow-suc 2 (r + 1)) in
      let counted : index < length (every_second points) =
      omega (arith, lt, length-fold_x_twiddles k gen r, length-map (every_second points) x) in
      ap
      (λ m. x
      (slice_index_or (natural_from k (2 ^ m) (gen m) s 0) (cfft_index (r + 2) (index * 4)) d))
      (sym before)
      ∙ ap
      (λ n. x
      (slice_index_or (natural_from k (2 ^ (r + 1)) (gen (r + 1)) s 0)
      (cfft_index n (index * 4)) d)) (sym size)
      ∙ ap x (sym (cfft-place laws.ring gens (r + 1) (index * 4) s d within (omega (arith, fits)))
      ∙ with_opposites-even k points (index + index) (index * 4) d (omega arith)
      (omega (arith, low, length-coset k gen (r + 1) s))
      ∙ sym (every_second-read points index d))
      ∙ sym (get_or-map x (every_second points) index d k.zero counted)

  -- the x coordinate of the point that is computed for a row
  pub x_twiddle-of : (r arity n index place : ℕ) (s p : Coordinates F) → index < 2 ^ r →
      r + 3 ≤ bits → bits ≤ 62 → arity ≡ 1 → n ≡ r + arity + 1 → s ≡ gen (r + arity + 1 + 1) →
      place ≡ cfft_index (r + arity + 1) (index * 4 % 2 ^ 64) →
      slice_get (natural_order k gen n s) place ≡ Some p →
      p.x ≡ slice_index_or (fold_x_twiddles k gen r) index k.zero
  x_twiddle-of r arity n index place s p lt fits small one size shift is_place here =
      let two : r + arity + 1 ≡ r + 2 = omega (arith, one) in
      let three : r + arity + 1 + 1 ≡ r + 3 = omega (arith, one) in
      let room : 2 ^ suc (suc r) ≤ 2 ^ 64 = pow_within
      (suc (suc r)) 64 (omega (arith, fits, small)) in
      let below : index * 4 < 2 ^ 64 = omega (arith, lt, room, pow-suc 2 (suc r), pow-suc 2 r) in
      let at : place ≡ cfft_index (r + 2) (index * 4) =
      is_place ∙ ap (cfft_index (r + arity + 1)) (mod-eq_of_lt below)
      ∙ ap (λ m. cfft_index m (index * 4)) two in
      ap (λ (q : Coordinates F). q.x)
      (sym (get_or_from_slice_get (natural_order k gen n s) place p p here)
      ∙ ap (λ i. slice_index_or (natural_order k gen n s) i p) at
      ∙ ap (λ m. slice_index_or (natural_order k gen m s) (cfft_index (r + 2) (index * 4)) p)
      (size ∙ two)
      ∙ ap (λ q. slice_index_or (natural_order k gen (r + 2) q) (cfft_index (r + 2) (index * 4)) p)
      (shift ∙ ap gen three))
      ∙ x_twiddle r index p lt fits
