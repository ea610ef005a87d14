-- Codewords on a standard domain by index, and what one quotient of a claim says of a codeword.
use Rattle.std.specs.Prelude.{◌≡◌, ◌≢◌, ◌↔◌, ℕ, ◌+◌, ◌^◌, ◌<◌, ◌≤◌, Bool, true, List, [], ◌∷◌}
use Rattle.std.specs.Prelude.{length, map, slice_index_or}
use Rattle.std.specs.List.{AllByRecursion}
use Rattle.std.proofs.Common.{suc, sym, ◌∙◌, ap, refl, subst, arith}
use Rattle.std.proofs.lemmas.List.{length-map, get_or-map}
use Rattle.std.proofs.lemmas.List.Elements.{All-from_recursion}
use Rattle.circle_field.specs.Field.{FieldOps, RingLaws, FieldLaws, IsEmbedding, sub}
use Rattle.circle_field.specs.Ring.{var, con, unit, plus as sum, times as prod, minus}
use Rattle.circle_field.specs.RingSound.{ring}
use Rattle.circle_field.specs.RingFacts.{neg_zero_cancel}
use Rattle.circle_field.specs.Circle.{Coordinates, IsOnCircle, AreGenerators, times, origin, lifted}
use Rattle.circle_field.specs.CircleGroup.{lifted-on_circle}
use Rattle.circle_point.specs.Basis.{value}
use Rattle.circle_commit.specs.DotProduct.{pairwise}
use Rattle.circle_commit.proofs.Written.{pairwise-read}
use Rattle.circle_domain.specs.Layers.{factor}
use Rattle.circle_domain.specs.Order.{cfft_order, natural_order}
use Rattle.circle_domain.specs.Spans.{HasValues, Span}
use Rattle.circle_domain.proofs.Blocks.{points, points-cfft_order}
use Rattle.circle_domain.proofs.ClearOf.{natural-all}
use Rattle.circle_domain.proofs.Lifted.{lifted-points, lifted-generators}
use Rattle.circle_domain.proofs.StandardDomain.{standard-genuine}
use Rattle.circle_domain.proofs.Twiddles.{map-map}
use Rattle.circle_folding.specs.Queries.{IsApart}
use Rattle.circle_folding.specs.Quotient.{real_part, imaginary_part, claim_quotient}
use Rattle.circle_folding.proofs.Vanished.{length-points}
use Rattle.circle_folding.proofs.Vanishing.{real_part-zero}
use Rattle.circle_folding.specs.Claims.{row_quotients, word_quotients, IsValueOfOnly}
use Rattle.circle_folding.specs.WideSpans.{wide_value, standard_points, HasWideValues, WideSpan}
use Rattle.circle_folding.proofs.Bound.{all-read, AreWide, vanishes-by}
use Rattle.circle_folding.proofs.Only.{of_coefficients, vanishing-factor, points-on_circle}
use Rattle.circle_folding.proofs.Only.{values-only}
use Rattle.circle_folding.proofs.Polynomials.{IsPolynomial, IsWide, same, constant, combined}

-- a point that is none of a domain's points in one order is none of them in the other
pub apart-in_order : {F E : Type 0} {k : FieldOps F} (embed : F → E) (laws : RingLaws k)
    {gen : ℕ → Coordinates F} {bits : ℕ} (gens : AreGenerators k bits gen)
    (n : ℕ) (s : Coordinates F) (z : Coordinates E) → 1 ≤ n → n ≤ suc bits →
    IsApart embed (natural_order k gen n s) z → IsApart embed (cfft_order k gen n s) z
apart-in_order {k = k} embed laws {gen} gens n s z positive fits apart =
    let P = λ (p : Coordinates _). lifted embed p ≢ z in
    All-from_recursion P (cfft_order k gen n s)
    (subst (AllByRecursion P) (points-cfft_order k gen n s positive)
    ((natural-all laws gens P n s positive fits).0 apart))

module _ {E : Type 0} {l : FieldOps E} (laws : FieldLaws l) where
  -- a polynomial and a multiple of v_n
  pub wide-is : (n : ℕ) (c : List E) (a : E) → 1 ≤ n → length c ≡ 2 ^ n →
      IsWide l n (wide_value l n c a)
  wide-is n c a positive long = (
    value l c,
    a,
    of_coefficients laws n c long,
    λ p on. ap (λ v. l.add (value l c p) (l.mul a v)) (vanishing-factor laws n p positive),
  )

  -- a polynomial less a value
  pub less-is : (n : ℕ) (c : List E) (v : E) → length c ≡ 2 ^ n →
      IsWide l n (λ p. sub l (value l c p) v)
  less-is n c v long =
      let f = λ (p : Coordinates E). sub l (value l c p) v in
      let is : IsPolynomial l n f =
      same laws n (λ p. l.add (l.mul l.one (value l c p)) (l.mul (l.neg l.one) v)) f
      (combined laws n l.one (l.neg l.one) (value l c) (λ p. v) (of_coefficients laws n c long)
      (constant laws n v))
      (λ p on. ring laws.ring (value l c p ∷ v ∷ []) (sum (var 0) (minus (var 1)))
      (sum (prod unit (var 0)) (prod (minus unit) (var 1))) refl) in (
        f,
        l.zero,
        is,
        λ p on. ring laws.ring (f p ∷ factor l n p ∷ []) (var 0)
            (sum (var 0) (prod (con 0) (var 1))) refl,
      )

module _ {F E : Type 0} {k : FieldOps F} {l : FieldOps E} {embed : F → E} (laws : FieldLaws l)
    (eq : E → E → Bool) (eq_law : (a b : E) → (eq a b ≡ true) ↔ (a ≡ b))
    (e : IsEmbedding k l embed) {gen : ℕ → Coordinates F} {bits : ℕ}
    (gens : AreGenerators k bits gen) (h : ℕ) (positive : 1 ≤ h) (fits : h + 1 ≤ bits) where
  abbrev pub lgen : ℕ → Coordinates E
  lgen i = lifted embed (gen i)

  -- the first point, and all
  abbrev pub first : Coordinates E
  first = lifted embed (gen (h + 1))

  abbrev pub ps : List (Coordinates E)
  ps = points l lgen h first

  pub lgens : AreGenerators l bits lgen
  lgens = lifted-generators e gens

  pub first-on_circle : IsOnCircle l first
  first-on_circle = lifted-on_circle e (gen (h + 1)) (gens.on_circle (h + 1) fits)

  pub first-genuine : times l (2 ^ h) first ≢ origin l
  first-genuine = (standard-genuine laws lgens h positive (omega (arith, fits))).1

  pub points-are : standard_points k gen l embed h ≡ ps
  points-are = ap (map (lifted embed)) (sym (points-cfft_order k gen h (gen (h + 1)) positive))
      ∙ lifted-points e gen h (gen (h + 1))

  pub count : length ps ≡ 2 ^ h
  count = length-points laws.ring lgens h first

  pub below : h ≤ suc bits
  below = omega (arith, fits)

  pub each-on_circle : (i : ℕ) → i < length ps → IsOnCircle l (slice_index_or ps i (origin l))
  each-on_circle =
      all-read (IsOnCircle l) ps (origin l)
      (points-on_circle laws lgens h first below first-on_circle)

  -- a polynomial's values as a codeword
  pub values-are : (n : ℕ) (word c : List E) → HasValues k gen l embed n h (gen (h + 1)) word c →
      map (value l c) ps ≡ word
  values-are n word c has = ap (map (value l c)) (sym points-are)
      ∙ map-map (value l c) (lifted embed) (cfft_order k gen h (gen (h + 1))) ∙ has.values

  pub values-read : (n : ℕ) (word c : List E) → HasValues k gen l embed n h (gen (h + 1)) word c →
      (i : ℕ) → i < length ps →
      slice_index_or word i l.zero ≡ value l c (slice_index_or ps i (origin l))
  values-read n word c has i lt =
      ap (λ w. slice_index_or w i l.zero) (sym (values-are n word c has))
      ∙ get_or-map (value l c) ps i (origin l) l.zero lt

  pub wide-read : (n : ℕ) (word c : List E) (a : E) → HasWideValues k gen l embed n h word c a →
      (i : ℕ) → i < length ps →
      slice_index_or word i l.zero ≡ wide_value l n c a (slice_index_or ps i (origin l))
  wide-read n word c a has i lt =
      ap (λ w. slice_index_or w i l.zero)
      (sym has.values ∙ ap (map (wide_value l n c a)) points-are)
      ∙ get_or-map (wide_value l n c a) ps i (origin l) l.zero lt

  module _ (z : Coordinates E) (on_z : IsOnCircle l z)
      (apart : IsApart embed (cfft_order k gen h (gen (h + 1))) z) where
    pub off : (i : ℕ) → i < length ps → let re =
        real_part l (λ r. r) (slice_index_or ps i (origin l)) z in l.add re re ≢ l.zero
    off i lt = λ twice.
        let order = cfft_order k gen h (gen (h + 1)) in
        let p = slice_index_or ps i (origin l) in
        let is_z : p ≡ z = real_part-zero laws eq eq_law p z (each-on_circle i lt) on_z twice in
        let within : i < length order =
        omega (arith, lt, ap length (sym points-are), length-map order (lifted embed)) in
        apart i (gen 0) within
        (sym (get_or-map (lifted embed) order i (gen 0) (origin l) within)
        ∙ ap (λ (qs : List (Coordinates E)). slice_index_or qs i (origin l)) points-are ∙ is_z)

    -- the quotient of a row
    pub quotient-read : (alpha : E) (rows : List (List E)) (values : List E) (i : ℕ) →
        i < length ps → i < length rows →
        slice_index_or (row_quotients k gen l embed h alpha z rows values) i l.zero
        ≡ claim_quotient l (λ r. r) alpha (slice_index_or ps i (origin l)) z
        (slice_index_or rows i []) values
    quotient-read alpha rows values i lt within =
        let f = λ (p : Coordinates E) (row : List E). claim_quotient l (λ r. r) alpha p z row
        values in
        ap (λ qs. slice_index_or (pairwise f qs rows) i l.zero) points-are
        ∙ pairwise-read f ps rows i (origin l) [] l.zero lt within

    module _ (j : ℕ) (room : suc (suc (suc j)) ≤ h) where
      abbrev n : ℕ
      n = suc (suc j)

      pub word-bound : (alpha v : E) (word : List E) → alpha ≢ l.zero →
          Span k gen l embed n h (gen (h + 1)) word →
          WideSpan k gen l embed n h (word_quotients k gen l embed h alpha z word v) →
          IsValueOfOnly k gen l embed n h word z v
      word-bound alpha v word nonzero span wide =
          let c = span.0 in
          let has = span.1 in
          let rows = map (λ w. w ∷ []) word in
          let f = λ (p : Coordinates E). sub l (value l c p) v in
          let at = λ (i : ℕ). slice_index_or ps i (origin l) in
          let re = λ (p : Coordinates E). real_part l (λ r. r) p z in
          let im = λ (p : Coordinates E). imaginary_part l (λ r. r) p z in
          let positive_n : 1 ≤ n = omega arith in
          let quotients : AreWide l n ps
          (λ i. l.mul
          (l.mul (sub l (re (at i)) (l.mul alpha (im (at i))))
          (l.inv (l.add (re (at i)) (re (at i))))) (f (at i))) = (
            wide_value l n wide.0 wide.1,
            wide-is laws n wide.0 wide.1 positive_n wide.2.count,
            λ i lt.
                let in_word : i < length word =
                omega (
                  arith,
                  lt,
                  ap length (values-are n word c has),
                  length-map ps (value l c),
                ) in
                let in_rows : i < length rows =
                omega (arith, in_word, length-map word (λ w. w ∷ [])) in
                sym
                (wide-read n (word_quotients k gen l embed h alpha z word v) wide.0 wide.1
                wide.2 i lt)
                ∙ quotient-read alpha rows (v ∷ []) i lt in_rows
                ∙ ap (λ row. claim_quotient l (λ r. r) alpha (at i) z row (v ∷ []))
                (get_or-map (λ w. w ∷ []) word i l.zero [] in_word
                ∙ ap (λ w. w ∷ []) (values-read n word c has i lt))
                ∙ ring laws.ring
                (re (at i) ∷ im (at i) ∷ alpha ∷ l.inv (l.add (re (at i)) (re (at i)))
                ∷ value l c (at i) ∷ v ∷ [])
                (prod (prod (sum (var 0) (minus (prod (prod (var 2) unit) (var 1)))) (var 3))
                (sum (prod unit (sum (var 4) (minus (var 5)))) (con 0)))
                (prod (prod (sum (var 0) (minus (prod (var 2) (var 1)))) (var 3))
                (sum (var 4) (minus (var 5)))) refl,
          ) in
          let none : f z ≡ l.zero =
          vanishes-by laws lgens h first below first-on_circle first-genuine j room z on_z off alpha
          f nonzero (less-is laws n c v has.count) quotients in (
            c,
            has,
            sym (neg_zero_cancel laws.ring (value l c z) v none),
            λ d has_d.
                values-only laws lgens h first below first-on_circle first-genuine d c n
                (omega (arith, room)) has_d.count has.count
                (values-are n word d has_d ∙ sym (values-are n word c has)),
          )
