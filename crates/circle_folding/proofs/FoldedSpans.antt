-- Codewords that are the values of polynomials with few coefficients fold to those of polynomials
-- in x with half as many, and only they do so by two challenges.
use Rattle.std.specs.Prelude.{◌≡◌, ◌≢◌, ℕ, ◌+◌, ◌-◌, ◌^◌, ◌≤◌, List, [], ◌∷◌, length, map, All}
use Rattle.std.specs.List.{AllByRecursion}
use Rattle.std.proofs.Common.{suc, refl, sym, ◌∙◌, ap, subst, arith}
use Rattle.std.proofs.Math.Nat.{pow-suc}
use Rattle.std.proofs.lemmas.List.Elements.{All-head, All-tail}
use Rattle.circle_field.specs.Field.{FieldOps, FieldLaws, IsEmbedding}
use Rattle.circle_field.specs.Ring.{var, con, unit, plus as sum, times as prod, minus}
use Rattle.circle_field.specs.RingSound.{ring}
use Rattle.circle_field.specs.Circle.{Coordinates, IsOnCircle, AreGenerators, lifted, plus}
use Rattle.circle_field.specs.Circle.{opposite}
use Rattle.circle_point.specs.Basis.{doubled_x, value, x_value}
use Rattle.circle_point.proofs.Multiples.{doubled_x-plus}
use Rattle.circle_domain.specs.Layers.{block_starts}
use Rattle.circle_domain.specs.Order.{coset, cfft_order, with_opposites}
use Rattle.circle_domain.proofs.Layering.{halves, block_starts-halves, length-block_starts}
use Rattle.circle_domain.proofs.Lifted.{lifted-doubled_x}
use Rattle.circle_domain.proofs.Transform.{map-same}
use Rattle.circle_domain.proofs.Twiddles.{map-map, length-coset, block_starts-coset}
use Rattle.circle_commit.proofs.Written.{length-pairwise}
use Rattle.circle_folding.specs.Fold.{folds, fold_y_twiddles, fold_x_twiddles, y_folds, x_folds}
use Rattle.circle_folding.specs.Spans.{HalvesSpan, HalvesXSpan, ShowsSpan, ShowsXSpan}
use Rattle.circle_folding.proofs.Sides.{in_turn, length-in_turn, taken_in_turn, value-in_turn}
use Rattle.circle_folding.proofs.Sides.{x_value-in_turn, combination, sides, polynomial-folds}
use Rattle.circle_folding.proofs.Sides.{odd_told, even_told, length-odd_told, length-even_told}
use Rattle.circle_folding.proofs.Sides.{polynomial-told}
use Rattle.circle_folding.proofs.Twiddles.{x_factors, fold_y_twiddles-nonzero}
use Rattle.circle_folding.proofs.Twiddles.{fold_x_twiddles-nonzero}
use Rattle.circle_folding.proofs.Vanished.{starts-doubled, starts-on_circle}

module _ {F E : Type 0} {k : FieldOps F} {l : FieldOps E} {embed : F → E} (base : FieldLaws k)
    (laws : FieldLaws l) (e : IsEmbedding k l embed)
    {gen : ℕ → Coordinates F} {bits : ℕ} (gens : AreGenerators k bits gen) where
  -- values at points and their opposites
  opposite-sides : (es os : List E) (ps : List (Coordinates F)) → length es ≡ length os →
      map (λ p. value l (in_turn es os) (lifted embed p)) (with_opposites k ps)
      ≡ sides l (λ p. x_value l es (embed p.x)) (λ p. x_value l os (embed p.x)) (λ p. embed p.y) ps
  opposite-sides es os [] same = refl
  opposite-sides es os (p ∷ ps) same =
      let v = λ (q : Coordinates F). value l (in_turn es os) (lifted embed q) in
      let a = x_value l es (embed p.x) in
      let b = x_value l os (embed p.x) in
      ap (λ w. w ∷ v (opposite k p) ∷ map v (with_opposites k ps))
      (value-in_turn laws.ring es os (lifted embed p) same)
      ∙ ap (λ w. l.add a (l.mul b (embed p.y)) ∷ w ∷ map v (with_opposites k ps))
      (value-in_turn laws.ring es os (lifted embed (opposite k p)) same
      ∙ ap (λ y. l.add a (l.mul b y)) (e.neg p.y))
      ∙ ap (λ ws. l.add a (l.mul b (embed p.y)) ∷ l.add a (l.mul b (l.neg (embed p.y))) ∷ ws)
      (opposite-sides es os ps same)

  -- and at points and those half a turn on
  turned-sides : (es os : List E) (ps : List (Coordinates F)) → length es ≡ length os →
      map (λ p. x_value l (in_turn es os) (embed p.x)) (halves k gen 1 ps)
      ≡ sides l (λ p. x_value l es (doubled_x l (embed p.x)))
      (λ p. x_value l os (doubled_x l (embed p.x))) (λ p. embed p.x) ps
  turned-sides es os [] same = refl
  turned-sides es os (p ∷ ps) same =
      let v = λ (x : E). x_value l (in_turn es os) x in
      let x = embed p.x in
      let q = plus k p (gen 1) in
      let a = λ (y : E). x_value l es (doubled_x l y) in
      let b = λ (y : E). x_value l os (doubled_x l y) in
      let turned : embed q.x ≡ l.neg x =
      ap (λ (g : Coordinates F). embed (plus k p g).x) gens.half_turn
      ∙ ap embed
      (ring base.ring (p.x ∷ p.y ∷ [])
      (sum (prod (var 0) (minus unit)) (minus (prod (var 1) (con 0)))) (minus (var 0)) refl)
      ∙ e.neg p.x in
      let same_double : doubled_x l (l.neg x) ≡ doubled_x l x =
      ring laws.ring (x ∷ [])
      (sum (sum (prod (minus (var 0)) (minus (var 0))) (prod (minus (var 0)) (minus (var 0))))
      (minus unit)) (sum (sum (prod (var 0) (var 0)) (prod (var 0) (var 0))) (minus unit))
      refl in
      let others = map (λ (p : Coordinates F). v (embed p.x)) (halves k gen 1 ps) in
      ap (λ w. w ∷ v (embed q.x) ∷ others) (x_value-in_turn laws.ring es os x same)
      ∙ ap (λ y. l.add (a x) (l.mul (b x) x) ∷ v y ∷ others) turned
      ∙ ap (λ w. l.add (a x) (l.mul (b x) x) ∷ w ∷ others)
      (x_value-in_turn laws.ring es os (l.neg x) same
      ∙ ap (λ y. l.add (x_value l es y) (l.mul (x_value l os y) (l.neg x))) same_double)
      ∙ ap (λ ws. l.add (a x) (l.mul (b x) x) ∷ l.add (a x) (l.mul (b x) (l.neg x)) ∷ ws)
      (turned-sides es os ps same)

  nonzero-lifted : {X : Type 0} (f : X → F) (xs : List X) → All (λ t. t ≢ k.zero) (map f xs) →
      AllByRecursion (λ x. embed (f x) ≢ l.zero) xs
  nonzero-lifted f [] h = tt
  nonzero-lifted f (x ∷ xs) h = (
    λ z. All-head (λ t. t ≢ k.zero) (f x) (map f xs) h (e.injective (f x) k.zero (z ∙ sym e.zero)),
    nonzero-lifted f xs (All-tail (λ t. t ≢ k.zero) (f x) (map f xs) h),
  )

  two-halves : (b : ℕ) → 2 ^ (b + 1) ≡ 2 ^ b + 2 ^ b
  two-halves b = let order : b + 1 ≡ suc b = omega arith in ap (λ n. 2 ^ n) order
      ∙ omega (arith, pow-suc 2 b)

  module _ (m : ℕ) (beta : E) (rows : List (List E)) (wide : All (λ row. length row ≡ 2) rows)
      (tall : length rows ≡ 2 ^ m) where
    -- a first codeword
    module _ (fits : m + 2 ≤ bits) where
      abbrev ps : List (Coordinates F)
      ps = coset k gen m (gen (m + 2))

      y_twiddles : map embed (fold_y_twiddles k gen m) ≡ map (λ p. embed p.y) ps
      y_twiddles = map-map embed (λ p. p.y) ps

      y-nonzero : AllByRecursion (λ p. embed p.y ≢ l.zero) ps
      y-nonzero = nonzero-lifted (λ p. p.y) ps (fold_y_twiddles-nonzero base gens m fits)

      y-tall : length rows ≡ length ps
      y-tall = tall ∙ sym (length-coset k gen m (gen (m + 2)))

      y-order : cfft_order k gen (m + 1) (gen (m + 2)) ≡ with_opposites k ps
      y-order = let first : m + 1 - 1 ≡ m = omega arith in
          ap (λ i. with_opposites k (coset k gen i (gen (m + 2)))) first

      pub y-halves : (folded : List E) → folded ≡ y_folds k gen l embed m beta rows →
          HalvesSpan k gen l embed m rows folded
      y-halves folded is_folded b span =
          let c = span.0 in
          let has = span.1 in
          let turns = taken_in_turn (2 ^ b) c (has.count ∙ two-halves b) in
          let es = turns.even in
          let os = turns.odd in
          let same : length es ≡ length os = turns.even_long ∙ sym turns.odd_long in
          let are = sym has.values ∙ ap (map (λ p. value l c (lifted embed p))) y-order
          ∙ ap (λ c. map (λ p. value l c (lifted embed p)) (with_opposites k ps)) (sym turns.whole)
          ∙ opposite-sides es os ps same in
          let d = combination l l.one beta es os in (
            d,
            record {
              count = length-pairwise (λ a b. l.add (l.mul l.one a) (l.mul beta b)) es os same
                  ∙ turns.even_long;
              values = sym (is_folded ∙ ap (λ ts. folds l beta ts rows) y_twiddles
                  ∙ polynomial-folds laws (λ p. embed p.x) (λ p. embed p.y) ps rows y-nonzero wide
                  y-tall beta es os same are);
            },
          )

      pub y-shows : (folded : List E) → folded ≡ y_folds k gen l embed m beta rows →
          ShowsSpan k gen l embed m beta rows folded
      y-shows folded is_folded b gamma other first second =
          let ds = first.0 in
          let gs = second.0 in
          let same : length ds ≡ length gs = first.1.count ∙ sym second.1.count in
          let at = λ (p : Coordinates F). embed p.x in
          let t = λ (p : Coordinates F). embed p.y in
          let es = even_told laws at t ps rows y-nonzero wide y-tall beta gamma ds gs other same in
          let os = odd_told laws at t ps rows y-nonzero wide y-tall beta gamma ds gs other same in
          let even_long : length es ≡ length ds =
          length-even_told laws at t ps rows y-nonzero wide y-tall beta gamma ds gs other
          same in
          let odd_long : length os ≡ length ds =
          length-odd_told laws at t ps rows y-nonzero wide y-tall beta gamma ds gs other same in
          let told = polynomial-told laws at t ps rows y-nonzero wide y-tall beta gamma ds gs other
          same
          (ap (λ ts. folds l beta ts rows) (sym y_twiddles) ∙ sym is_folded ∙ sym first.1.values)
          (ap (λ ts. folds l gamma ts rows) (sym y_twiddles) ∙ sym second.1.values) in (
            in_turn es os,
            record {
              count = length-in_turn es os (even_long ∙ sym odd_long)
                  ∙ ap (λ n. n + n) (even_long ∙ first.1.count) ∙ sym (two-halves b);
              values = ap (map (λ p. value l (in_turn es os) (lifted embed p))) y-order
                  ∙ opposite-sides es os ps (even_long ∙ sym odd_long) ∙ sym told;
            },
          )

    -- a later codeword
    module _ (fits : m + 3 ≤ bits) where
      abbrev starts : List (Coordinates F)
      starts = block_starts k gen m 2 (gen (m + 3))

      x-starts : fold_x_twiddles k gen m ≡ map (λ p. p.x) starts
      x-starts =
          let less : m + 2 - (1 + 1) ≡ m = omega arith in
          sym (x_factors k gen m) ∙ ap (λ i. map (λ p. p.x) (block_starts k gen i 2 (gen (m + 3))))
          less

      x_twiddles : map embed (fold_x_twiddles k gen m) ≡ map (λ p. embed p.x) starts
      x_twiddles = ap (map embed) x-starts ∙ map-map embed (λ p. p.x) starts

      x-nonzero : AllByRecursion (λ p. embed p.x ≢ l.zero) starts
      x-nonzero =
          nonzero-lifted (λ p. p.x) starts
          (subst (All (λ t. t ≢ k.zero)) x-starts (fold_x_twiddles-nonzero base gens m fits))

      x-tall : length rows ≡ length starts
      x-tall = tall ∙ sym (length-block_starts k gen m 2 (gen (m + 3)))

      x-order : coset k gen (m + 1) (gen (m + 1 + 2)) ≡ halves k gen 1 starts
      x-order =
          let next : m + 1 ≡ suc m = omega arith in
          let order : m + 1 + 2 ≡ m + 3 = omega arith in
          ap (λ i. coset k gen i (gen (m + 1 + 2))) next
          ∙ ap (λ i. coset k gen (suc m) (gen i)) order
          ∙ sym (block_starts-coset k gen (suc m) (gen (m + 3)))
          ∙ block_starts-halves k gen m 1 (gen (m + 3))

      -- the doubles of the first points of pairs
      x-doubles : (g : E → E) → map (λ p. g (doubled_x l (embed p.x))) starts
          ≡ map (λ p. g (embed p.x)) (coset k gen m (gen (m + 2)))
      x-doubles g =
          let s = gen (m + 3) in
          let next : m + 3 ≡ suc (m + 2) = omega arith in
          let double : plus k s s ≡ gen (m + 2) = ap (λ i. plus k (gen i) (gen i)) next
          ∙ gens.doubled (m + 2) (omega (arith, fits)) in
          map-same (λ p. g (doubled_x l (embed p.x))) (λ p. g (embed (plus k p p).x)) (IsOnCircle k)
          starts
          (starts-on_circle base.ring gens m 2 s (omega (arith, fits))
          (gens.on_circle (m + 3) fits))
          (λ p c. ap g (sym (lifted-doubled_x e p.x) ∙ ap embed (doubled_x-plus base.ring p c)))
          ∙ sym (map-map (λ p. g (embed p.x)) (λ p. plus k p p) starts)
          ∙ ap (map (λ p. g (embed p.x))) (starts-doubled base.ring gens m 0 s (omega (arith, fits))
          ∙ block_starts-coset k gen m (plus k s s) ∙ ap (coset k gen m) double)

      pub x-halves : (folded : List E) → folded ≡ x_folds k gen l embed m beta rows →
          HalvesXSpan k gen l embed m rows folded
      x-halves folded is_folded b span =
          let c = span.0 in
          let has = span.1 in
          let turns = taken_in_turn (2 ^ b) c (has.count ∙ two-halves b) in
          let es = turns.even in
          let os = turns.odd in
          let same : length es ≡ length os = turns.even_long ∙ sym turns.odd_long in
          let are = sym has.values ∙ ap (map (λ p. x_value l c (embed p.x))) x-order
          ∙ ap (λ c. map (λ p. x_value l c (embed p.x)) (halves k gen 1 starts)) (sym turns.whole)
          ∙ turned-sides es os starts same in
          let d = combination l l.one beta es os in (
            d,
            record {
              count = length-pairwise (λ a b. l.add (l.mul l.one a) (l.mul beta b)) es os same
                  ∙ turns.even_long;
              values = sym (is_folded ∙ ap (λ ts. folds l beta ts rows) x_twiddles
                  ∙ polynomial-folds laws (λ p. doubled_x l (embed p.x)) (λ p. embed p.x) starts
                  rows x-nonzero wide x-tall beta es os same are ∙ x-doubles (x_value l d));
            },
          )

      pub x-shows : (folded : List E) → folded ≡ x_folds k gen l embed m beta rows →
          ShowsXSpan k gen l embed m beta rows folded
      x-shows folded is_folded b gamma other first second =
          let ds = first.0 in
          let gs = second.0 in
          let same : length ds ≡ length gs = first.1.count ∙ sym second.1.count in
          let at = λ (p : Coordinates F). doubled_x l (embed p.x) in
          let t = λ (p : Coordinates F). embed p.x in
          let es = even_told laws at t starts rows x-nonzero wide x-tall beta gamma ds gs other
          same in
          let os = odd_told laws at t starts rows x-nonzero wide x-tall beta gamma ds gs other
          same in
          let even_long : length es ≡ length ds =
          length-even_told laws at t starts rows x-nonzero wide x-tall beta gamma ds gs other
          same in
          let odd_long : length os ≡ length ds =
          length-odd_told laws at t starts rows x-nonzero wide x-tall beta gamma ds gs other
          same in
          let told = polynomial-told laws at t starts rows x-nonzero wide x-tall beta gamma ds gs
          other same
          (ap (λ ts. folds l beta ts rows) (sym x_twiddles) ∙ sym is_folded ∙ sym first.1.values
          ∙ sym (x-doubles (x_value l ds)))
          (ap (λ ts. folds l gamma ts rows) (sym x_twiddles) ∙ sym second.1.values
          ∙ sym (x-doubles (x_value l gs))) in (
            in_turn es os,
            record {
              count = length-in_turn es os (even_long ∙ sym odd_long)
                  ∙ ap (λ n. n + n) (even_long ∙ first.1.count) ∙ sym (two-halves b);
              values = ap (map (λ p. x_value l (in_turn es os) (embed p.x))) x-order
                  ∙ turned-sides es os starts (even_long ∙ sym odd_long) ∙ sym told;
            },
          )
