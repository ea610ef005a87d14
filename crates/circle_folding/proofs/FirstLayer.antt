-- The values at queries in the first layer.
use Rattle.std.specs.Prelude.{◌≡◌, ◌≢◌, ℕ, ◌+◌, ◌-◌, ◌/◌, ◌%◌, ◌^◌, ◌≤◌, ◌<◌, List, [], ◌∷◌, ◌++◌}
use Rattle.std.specs.Prelude.{length, map, All, slice_index_or}
use Rattle.std.proofs.Common.{suc, refl, sym, ◌∙◌, ap, ⊎_elim, arith}
use Rattle.std.proofs.Math.Nat.{pow-suc}
use Rattle.std.proofs.lemmas.Bool.{cases_eq}
use Rattle.std.proofs.lemmas.List.{get_or-map}
use Rattle.std.proofs.lemmas.List.Elements.{All-head, All-tail, All-map, All-weaker}
use Rattle.circle_field.specs.Field.{FieldOps, RingLaws, FieldLaws}
use Rattle.circle_field.specs.RingFacts.{neg_neg}
use Rattle.circle_field.specs.Circle.{Coordinates, AreGenerators, origin}
use Rattle.circle_domain.specs.Order.{coset, with_opposites}
use Rattle.circle_commit.specs.DotProduct.{pairwise}
use Rattle.circle_domain.proofs.CosetOrder.{with_opposites-even, with_opposites-odd}
use Rattle.circle_domain.proofs.Twiddles.{length-coset}
use Rattle.circle_folding.specs.Fold.{fold_y_twiddles}
use Rattle.circle_folding.specs.Queries.{query_point}
use Rattle.circle_folding.specs.Chain.{first_layer_twiddle}
use Rattle.circle_folding.proofs.Places.{place-below}
use Rattle.circle_folding.proofs.Queries.{signed, signed-even, signed-odd}
use Rattle.circle_folding.proofs.Twiddles.{length-fold_y_twiddles, fold_y_twiddles-nonzero}

-- what is pushed onto nothing
pub pushed-onto_nothing : {A B : Type 0} (qs : List A) (pairs : List B) → length pairs ≡ length qs →
    pairwise (λ rs pair. rs ++ pair ∷ []) (map (λ _. []) qs) pairs ≡ map (λ pair. pair ∷ []) pairs
pushed-onto_nothing [] [] e = refl
pushed-onto_nothing [] (p ∷ pairs) e = absurd (omega (arith, e))
pushed-onto_nothing (q ∷ qs) [] e = absurd (omega (arith, e))
pushed-onto_nothing (q ∷ qs) (p ∷ pairs) e =
    ap (λ rest. (p ∷ []) ∷ rest) (pushed-onto_nothing qs pairs (omega (arith, e)))

module _ {F : Type 0} {k : FieldOps F} (laws : RingLaws k) where
  -- the y coordinate of the first of two opposite points, from that of either
  signed-y : (qs : List (Coordinates F)) (j : ℕ) (d : Coordinates F) → j < length qs + length qs →
      signed k j (slice_index_or (with_opposites k qs) j d).y
      ≡ slice_index_or (map (λ p. p.y) qs) (j / 2) k.zero
  signed-y qs j d lt =
      let y = λ (p : Coordinates F). p.y in
      let p = slice_index_or qs (j / 2) d in
      let half : j / 2 < length qs = omega (arith, lt) in
      ⊎_elim
      (λ even. signed-even k j (y (slice_index_or (with_opposites k qs) j d)) even
      ∙ ap y (with_opposites-even k qs (j / 2) j d (omega (arith, even)) half))
      (λ odd. ap (λ (o : Coordinates F). signed k j o.y)
      (with_opposites-odd k qs (j / 2) j d (omega (arith, odd)) half)
      ∙ signed-odd k j (k.neg p.y) odd ∙ neg_neg laws p.y)
      (cases_eq (j % 2) 0)
      ∙ sym (get_or-map y qs (j / 2) d k.zero half)

  -- the twiddle of a query, from its own point
  first_layer-twiddle : (gen : ℕ → Coordinates F) (h high q : ℕ) → 1 ≤ h → h ≤ high → q < 2 ^ high →
      signed k (q / 2 ^ (high - h)) (query_point k gen h high q).y
      ≡ first_layer_twiddle k gen h high q
  first_layer-twiddle gen h high q positive within below =
      let m = h - 1 in
      let j = q / 2 ^ (high - h) in
      let points = coset k gen m (gen (h + 1)) in
      let top : h ≡ suc m = omega (arith, positive) in
      let order : m + 2 ≡ h + 1 = omega (arith, positive) in
      let low : j < 2 ^ h = place-below q h high within below in
      let inside : j < length points + length points =
      omega (
        arith,
        low,
        length-coset k gen m (gen (h + 1)),
        ap (λ n. 2 ^ n) top,
        pow-suc 2 m,
      ) in
      signed-y points j (origin k) inside
      ∙ sym (ap (λ n. slice_index_or (map (λ p. p.y) (coset k gen m (gen n))) (j / 2) k.zero) order)

  -- the twiddles of queries, from their own points
  pub first_layer-twiddles : (gen : ℕ → Coordinates F) (bits h high : ℕ) (queries : List ℕ) →
      1 ≤ h → h ≤ high → bits ≡ high - h → All (λ q. q < 2 ^ high) queries →
      pairwise (λ q (p : Coordinates F). signed k (q / 2 ^ bits) p.y) queries
      (map (query_point k gen h high) queries) ≡ map (first_layer_twiddle k gen h high) queries
  first_layer-twiddles gen bits h high [] positive within lost all = refl
  first_layer-twiddles gen bits h high (q ∷ qs) positive within lost all =
      let f = λ (q : ℕ) (p : Coordinates F). signed k (q / 2 ^ bits) p.y in
      let points = map (query_point k gen h high) qs in
      ap (λ n. signed k (q / 2 ^ n) (query_point k gen h high q).y ∷ pairwise f qs points) lost
      ∙ ap (λ t. t ∷ pairwise f qs points) (first_layer-twiddle gen h high q positive within
      (All-head (λ q. q < 2 ^ high) q qs all))
      ∙ ap (λ rest. first_layer_twiddle k gen h high q ∷ rest)
      (first_layer-twiddles gen bits h high qs positive within
      lost (All-tail (λ q. q < 2 ^ high) q qs all))

module _ {F : Type 0} {k : FieldOps F} (laws : FieldLaws k) {bits : ℕ} {gen : ℕ → Coordinates F}
    (gens : AreGenerators k bits gen) where
  -- the twiddles of queries are not 0
  pub first_layer_twiddles-nonzero : (h high : ℕ) (queries : List ℕ) → 1 ≤ h → h ≤ high →
      h + 1 ≤ bits → All (λ q. q < 2 ^ high) queries →
      All (λ t. t ≢ k.zero) (map (first_layer_twiddle k gen h high) queries)
  first_layer_twiddles-nonzero h high queries positive within fits all =
      let m = h - 1 in
      let top : h ≡ suc m = omega (arith, positive) in
      All-map (λ t. t ≢ k.zero) (first_layer_twiddle k gen h high) queries
      (All-weaker (λ q. q < 2 ^ high) (λ q. first_layer_twiddle k gen h high q ≢ k.zero)
      (λ q below.
      let low : q / 2 ^ (high - h) < 2 ^ h = place-below q h high within below in
      let inside : q / 2 ^ (high - h) / 2 < length (fold_y_twiddles k gen m) =
      omega (arith, low, ap (λ n. 2 ^ n) top, pow-suc 2 m, length-fold_y_twiddles k gen m) in
      fold_y_twiddles-nonzero laws gens m (omega (arith, positive, fits)) (q / 2 ^ (high - h) / 2)
      k.zero inside)
      queries all)
