-- A codeword less its multiple of the vanishing polynomial.
use Rattle.std.specs.Prelude.{◌≡◌, ◌↔◌, ℕ, ◌+◌, ◌-◌, ◌^◌, ◌<◌, ◌≤◌, Bool, true, List, [], ◌∷◌}
use Rattle.std.specs.Prelude.{length, map}
use Rattle.std.proofs.Common.{suc, refl, sym, ◌∙◌, ap, arith}
use Rattle.std.proofs.Math.Path.{fun_ext}
use Rattle.std.proofs.lemmas.List.{length-map}
use Rattle.circle_field.specs.Field.{FieldOps, RingLaws, FieldLaws, IsEmbedding, sub, two}
use Rattle.circle_field.specs.Field.{nth_power}
use Rattle.circle_field.specs.Ring.{var, con, unit, plus as sum, times as prod, minus}
use Rattle.circle_field.specs.RingSound.{ring}
use Rattle.circle_field.specs.RingCombine.{given, combine}
use Rattle.circle_field.specs.Circle.{Coordinates, AreGenerators, lifted, times}
use Rattle.circle_field.specs.RingFacts.{zero_mul}
use Rattle.circle_field.proofs.Halves.{half_unique}
use Rattle.circle_field.specs.CircleGroup.{lifted-on_circle}
use Rattle.circle_point.specs.Basis.{value}
use Rattle.circle_point.proofs.Multiples.{iterated_x-times}
use Rattle.circle_commit.specs.DotProduct.{dot, pairwise}
use Rattle.circle_domain.specs.Layers.{factor}
use Rattle.circle_domain.specs.Order.{cfft_order}
use Rattle.circle_domain.specs.Spans.{HasValues}
use Rattle.circle_domain.proofs.Blocks.{points, points-cfft_order, times-generator}
use Rattle.circle_domain.proofs.LagrangeShares.{power-nonzero}
use Rattle.circle_domain.proofs.Lifted.{lifted-points, lifted-generators, lifted-factor}
use Rattle.circle_domain.proofs.Lifted.{lifted-times}
use Rattle.circle_domain.proofs.Twiddles.{map-map}
use Rattle.circle_domain.proofs.Walking.{zero_square}
use Rattle.circle_commit.proofs.Written.{length-pairwise}
use Rattle.circle_folding.specs.Lambda.{vanishing_values, lambda_of, remainder_of}
use Rattle.circle_folding.specs.Spans.{Splits, IsOnlySplit, IsOrthogonal, HasNoMultiple}
use Rattle.circle_folding.proofs.Orthogonal.{factor-orthogonal, factor-squares}
use Rattle.circle_folding.proofs.Vanished.{length-points}

module _ {F : Type 0} {k : FieldOps F} (laws : RingLaws k) where
  -- products with entries plus or less a multiple of the others
  dot-plus : (a : F) (fs vs : List F) → length fs ≡ length vs →
      dot k (pairwise (λ f v. k.add f (k.mul a v)) fs vs) vs
      ≡ k.add (dot k fs vs) (k.mul a (dot k vs vs))
  dot-plus a [] [] e = ring laws (a ∷ []) (con 0) (sum (con 0) (prod (var 0) (con 0))) refl
  dot-plus a [] (v ∷ vs) e = absurd (omega (arith, e))
  dot-plus a (f ∷ fs) [] e = absurd (omega (arith, e))
  dot-plus a (f ∷ fs) (v ∷ vs) e =
      ap (k.add (k.mul (k.add f (k.mul a v)) v)) (dot-plus a fs vs (omega (arith, e)))
      ∙ ring laws (a ∷ f ∷ v ∷ dot k fs vs ∷ dot k vs vs ∷ [])
      (sum (prod (sum (var 1) (prod (var 0) (var 2))) (var 2)) (sum (var 3) (prod (var 0) (var 4))))
      (sum (sum (prod (var 1) (var 2)) (var 3)) (prod (var 0) (sum (prod (var 2) (var 2)) (var 4))))
      refl

  dot-less : (a : F) (fs vs : List F) → length fs ≡ length vs →
      dot k (pairwise (λ f v. sub k f (k.mul a v)) fs vs) vs
      ≡ sub k (dot k fs vs) (k.mul a (dot k vs vs))
  dot-less a [] [] e = ring laws (a ∷ []) (con 0) (sum (con 0) (minus (prod (var 0) (con 0)))) refl
  dot-less a [] (v ∷ vs) e = absurd (omega (arith, e))
  dot-less a (f ∷ fs) [] e = absurd (omega (arith, e))
  dot-less a (f ∷ fs) (v ∷ vs) e =
      ap (k.add (k.mul (sub k f (k.mul a v)) v)) (dot-less a fs vs (omega (arith, e)))
      ∙ ring laws (a ∷ f ∷ v ∷ dot k fs vs ∷ dot k vs vs ∷ [])
      (sum (prod (sum (var 1) (minus (prod (var 0) (var 2)))) (var 2))
      (sum (var 3) (minus (prod (var 0) (var 4)))))
      (sum (sum (prod (var 1) (var 2)) (var 3))
      (minus (prod (var 0) (sum (prod (var 2) (var 2)) (var 4))))) refl

  -- what was added is taken away again
  less-plus : (a : F) (fs vs : List F) → length fs ≡ length vs →
      pairwise (λ f v. sub k f (k.mul a v)) (pairwise (λ f v. k.add f (k.mul a v)) fs vs) vs ≡ fs
  less-plus a [] vs e = refl
  less-plus a (f ∷ fs) [] e = absurd (omega (arith, e))
  less-plus a (f ∷ fs) (v ∷ vs) e =
      ap
      (λ u. u
      ∷ pairwise (λ f v. sub k f (k.mul a v)) (pairwise (λ f v. k.add f (k.mul a v)) fs vs) vs)
      (ring laws (a ∷ f ∷ v ∷ [])
      (sum (sum (var 1) (prod (var 0) (var 2))) (minus (prod (var 0) (var 2)))) (var 1) refl)
      ∙ ap (λ rest. f ∷ rest) (less-plus a fs vs (omega (arith, e)))

  less-nothing : (fs vs : List F) → length fs ≡ length vs →
      pairwise (λ f v. sub k f (k.mul k.zero v)) fs vs ≡ fs
  less-nothing [] vs e = refl
  less-nothing (f ∷ fs) [] e = absurd (omega (arith, e))
  less-nothing (f ∷ fs) (v ∷ vs) e =
      ap (λ u. u ∷ pairwise (λ f v. sub k f (k.mul k.zero v)) fs vs)
      (ring laws (f ∷ v ∷ []) (sum (var 0) (minus (prod (con 0) (var 1)))) (var 0) refl)
      ∙ ap (λ rest. f ∷ rest) (less-nothing fs vs (omega (arith, e)))

module _ {F E : Type 0} {k : FieldOps F} {l : FieldOps E} {embed : F → E} (base : RingLaws k)
    (laws : FieldLaws l) (e : IsEmbedding k l embed)
    {gen : ℕ → Coordinates F} {bits : ℕ} (gens : AreGenerators k bits gen) where
  -- the points of the standard domain of 2^m points in the larger field
  abbrev lifted_points : ℕ → List (Coordinates E)
  lifted_points m = points l (λ i. lifted embed (gen i)) m (lifted embed (gen (m + 1)))

  lifted_points-are : (m : ℕ) → 1 ≤ m → map (lifted embed) (cfft_order k gen m (gen (m + 1)))
      ≡ lifted_points m
  lifted_points-are m positive =
      ap (map (lifted embed)) (sym (points-cfft_order k gen m (gen (m + 1)) positive))
      ∙ lifted-points e gen m (gen (m + 1))

  vanishing-factors : (blowup m : ℕ) → blowup < m → vanishing_values k gen l embed blowup m
      ≡ map (factor l (m - blowup)) (lifted_points m)
  vanishing-factors blowup m below =
      let n = m - blowup in
      let order : suc (n - 1) ≡ n = omega (arith, below) in
      let ps = cfft_order k gen m (gen (m + 1)) in
      ap (λ f. map f ps)
      (fun_ext (λ p. lifted-factor e (suc (n - 1)) p
      ∙ ap (λ i. factor l i (lifted embed p)) order))
      ∙ sym (map-map (factor l n) (lifted embed) ps)
      ∙ ap (map (factor l n)) (lifted_points-are m (omega (arith, below)))

  length-values : (blowup m : ℕ) → blowup < m → length (vanishing_values k gen l embed blowup m)
      ≡ 2 ^ m
  length-values blowup m below =
      ap length (vanishing-factors blowup m below)
      ∙ length-map (lifted_points m) (factor l (m - blowup))
      ∙ length-points laws.ring (lifted-generators e gens) m (lifted embed (gen (m + 1)))

  -- what a polynomial has for values
  span-values : (b m : ℕ) (word c : List E) → 1 ≤ m →
      HasValues k gen l embed b m (gen (m + 1)) word c → map (value l c) (lifted_points m) ≡ word
  span-values b m word c positive has =
      ap (map (value l c)) (sym (lifted_points-are m positive))
      ∙ map-map (value l c) (lifted embed) (cfft_order k gen m (gen (m + 1))) ∙ has.values

  span-length : (b m : ℕ) (word c : List E) → 1 ≤ m →
      HasValues k gen l embed b m (gen (m + 1)) word c → length word ≡ 2 ^ m
  span-length b m word c positive has =
      ap length (sym (span-values b m word c positive has))
      ∙ length-map (lifted_points m) (value l c)
      ∙ length-points laws.ring (lifted-generators e gens) m (lifted embed (gen (m + 1)))

  -- a polynomial with 2^n coefficients is orthogonal to v_n
  span-orthogonal : (blowup m : ℕ) (word c : List E) → 1 ≤ blowup → blowup < m → m + 1 ≤ bits →
      HasValues k gen l embed (m - blowup) m (gen (m + 1)) word c →
      dot l word (vanishing_values k gen l embed blowup m) ≡ l.zero
  span-orthogonal blowup m word c positive below fits has =
      let n = m - blowup in
      let a = blowup - 1 in
      let q = lifted embed (gen (m + 1)) in
      let order : suc a + n ≡ m = omega (arith, positive, below) in
      ap (λ w. dot l w (vanishing_values k gen l embed blowup m))
      (sym (span-values n m word c (omega (arith, below)) has))
      ∙ ap (dot l (map (value l c) (lifted_points m))) (vanishing-factors blowup m below)
      ∙ ap
      (λ i. dot l (map (value l c) (points l (λ i. lifted embed (gen i)) i q))
      (map (factor l n) (points l (λ i. lifted embed (gen i)) i q))) (sym order)
      ∙ factor-orthogonal laws.ring (lifted-generators e gens) a n q c has.count
      (omega (arith, order, fits))
      (lifted-on_circle e (gen (m + 1)) (gens.on_circle (m + 1) fits))

  -- the squares of v_n's values add up to half the number of points
  module _ (quarter : (gen 2).x ≡ k.zero) where
    vanishing-squares : (blowup m : ℕ) → 1 ≤ blowup → blowup < m → m + 1 ≤ bits →
        dot l (vanishing_values k gen l embed blowup m) (vanishing_values k gen l embed blowup m)
        ≡ nth_power l (two l) (m - 1)
    vanishing-squares blowup m positive below fits =
        let n = m - blowup in
        let a = blowup - 1 in
        let j = n - 1 in
        let s = gen (m + 1) in
        let q = lifted embed s in
        let lgen : ℕ → Coordinates E = λ i. lifted embed (gen i) in
        let succ : suc j ≡ n = omega (arith, below) in
        let order : suc a + suc j ≡ m = omega (arith, positive, below) in
        let last : a + suc j ≡ m - 1 = omega (arith, positive, below) in
        let on_circle = gens.on_circle (m + 1) fits in
        let flat : a ≡ 0 → factor l (suc (suc j)) q ≡ l.zero = λ one.
        let high : suc j + 2 ≡ m + 1 = omega (arith, order, one) in
        iterated_x-times laws.ring (suc j) q (lifted-on_circle e s on_circle)
        ∙ ap (λ (r : Coordinates E). r.x) (sym (lifted-times e (2 ^ suc j) s)
        ∙ ap (λ i. lifted embed (times k (2 ^ suc j) (gen i))) (sym high))
        ∙ ap (λ (r : Coordinates F). embed r.x)
        (times-generator base gens (suc j) 2 (omega (arith, high, fits)))
        ∙ ap embed quarter ∙ e.zero in
        ap (λ vs. dot l vs vs) (vanishing-factors blowup m below)
        ∙ ap (λ i. let vs = map (factor l i) (lifted_points m) in dot l vs vs) (sym succ)
        ∙ ap (λ i. let vs = map (factor l (suc j)) (points l lgen i q) in dot l vs vs) (sym order)
        ∙ factor-squares laws.ring (lifted-generators e gens) a j q (omega (arith, order, fits))
        (lifted-on_circle e s on_circle) flat
        ∙ ap (nth_power l (two l)) last

    module _ (blowup m : ℕ) (positive : 1 ≤ blowup) (below : blowup < m) (fits : m + 1 ≤ bits) where
      abbrev vs : List E
      vs = vanishing_values k gen l embed blowup m

      abbrev number : E
      number = nth_power l (two l) (m - 1)

      inverse : l.mul number (l.inv number) ≡ l.one
      inverse = laws.mul_inv number (power-nonzero laws (m - 1))

      -- the parts of a codeword that splits
      split-parts : (word low : List E) (a : E) → Splits k gen l embed blowup m word low a →
          (remainder_of k gen l embed blowup m (lambda_of k gen l embed blowup m word) word ≡ low)
          × (lambda_of k gen l embed blowup m word ≡ a)
      split-parts word low a split =
          let c = split.span.0 in
          let has = split.span.1 in
          let same : length low ≡ length vs =
          span-length (m - blowup) m low c (omega (arith, below)) has
          ∙ sym (length-values blowup m below) in
          let product : dot l word vs ≡ l.add l.zero (l.mul a number) =
          ap (λ w. dot l w vs) split.sum ∙ dot-plus laws.ring a low vs same
          ∙ ap (λ d. l.add d (l.mul a (dot l vs vs)))
          (span-orthogonal blowup m low c positive below fits has)
          ∙ ap (λ d. l.add l.zero (l.mul a d)) (vanishing-squares blowup m positive below fits) in
          let is_a : lambda_of k gen l embed blowup m word ≡ a =
          ap (λ d. l.mul d (l.inv number)) product
          ∙ combine laws.ring (a ∷ number ∷ l.inv number ∷ [])
          (prod (sum (con 0) (prod (var 0) (var 1))) (var 2)) (var 0)
          (given (var 0) (prod (var 1) (var 2)) unit ∷ []) refl (inverse, tt) in (
            ap (λ t. remainder_of k gen l embed blowup m t word) is_a
                ∙ ap (remainder_of k gen l embed blowup m a) split.sum
                ∙ less-plus laws.ring a low vs same,
            is_a,
          )

      module _ (word rest : List E) (lambda : E) (long : length word ≡ 2 ^ m)
          (is_lambda : lambda ≡ lambda_of k gen l embed blowup m word)
          (is_rest : rest ≡ remainder_of k gen l embed blowup m lambda word) where
        pub only-split : IsOnlySplit k gen l embed blowup m word rest lambda
        only-split = λ f a split.
            let parts = split-parts word f a split in (
              is_rest ∙ ap (λ t. remainder_of k gen l embed blowup m t word) is_lambda ∙ parts.0,
              is_lambda ∙ parts.1,
            )

        same-length : length word ≡ length vs
        same-length = long ∙ sym (length-values blowup m below)

        pub rest-orthogonal : IsOrthogonal k gen l embed blowup m rest
        rest-orthogonal =
            let d = dot l word vs in
            ap (λ w. dot l w vs) is_rest ∙ dot-less laws.ring lambda word vs same-length
            ∙ ap (λ s. sub l d (l.mul lambda s)) (vanishing-squares blowup m positive below fits)
            ∙ ap (λ t. sub l d (l.mul t number)) is_lambda
            ∙ combine laws.ring (d ∷ number ∷ l.inv number ∷ [])
            (sum (var 0) (minus (prod (prod (var 0) (var 2)) (var 1)))) (con 0)
            (given (minus (var 0)) (prod (var 1) (var 2)) unit ∷ []) refl (inverse, tt)

        pub rest-no_multiple : HasNoMultiple k gen l embed blowup m rest
        rest-no_multiple =
            let same : length rest ≡ length vs = ap length is_rest
            ∙ length-pairwise (λ a v. sub l a (l.mul lambda v)) word vs same-length
            ∙ same-length in (
              ap (λ d. l.mul d (l.inv number)) rest-orthogonal ∙ zero_mul laws.ring (l.inv number),
              less-nothing laws.ring rest vs same,
            )

-- the point of order 4 has x = 0
pub quarter_turn : {F : Type 0} {k : FieldOps F} (laws : FieldLaws k) (eq : F → F → Bool) →
    ((a b : F) → (eq a b ≡ true) ↔ (a ≡ b)) →
    {bits : ℕ} {gen : ℕ → Coordinates F} → AreGenerators k bits gen → 2 ≤ bits → (gen 2).x ≡ k.zero
quarter_turn {k = k} laws eq law {bits} {gen} gens fits =
    let q = gen 2 in
    let twice : k.add (k.mul q.x q.x) (k.neg (k.mul q.y q.y)) ≡ k.neg k.one =
    ap (λ (p : Coordinates _). p.x) (gens.doubled 1 fits ∙ gens.half_turn) in
    let square : k.add (k.mul q.x q.x) (k.mul q.x q.x) ≡ k.zero =
    combine laws.ring (q.x ∷ q.y ∷ []) (sum (prod (var 0) (var 0)) (prod (var 0) (var 0))) (con 0)
    (given unit (sum (prod (var 0) (var 0)) (minus (prod (var 1) (var 1)))) (minus unit)
    ∷ given unit (sum (prod (var 0) (var 0)) (prod (var 1) (var 1))) unit ∷ []) refl
    (twice, (gens.on_circle 2 fits, tt)) in
    zero_square laws eq law q.x (half_unique laws k.zero (k.mul q.x q.x) square
    ∙ zero_mul laws.ring (k.inv (two k)))
