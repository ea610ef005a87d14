-- What the quotients of a claim, under enough challenges, say of each column of a matrix.
use Rattle.std.specs.Prelude.{◌≡◌, ◌↔◌, ℕ, ◌+◌, ◌*◌, ◌^◌, ◌<◌, ◌≤◌, Bool, true, List, [], ◌∷◌, ◌++◌}
use Rattle.std.specs.Prelude.{length, map, slice_index_or, All}
use Rattle.std.specs.List.{AllByRecursion, range_with_len}
use Rattle.std.proofs.Common.{suc, sym, ◌∙◌, ap, refl, subst, arith, length-append}
use Rattle.std.proofs.lemmas.List.{length-map, get_or-map, ext_get_or}
use Rattle.std.proofs.lemmas.List.Elements.{recursion_from_All}
use Rattle.std.proofs.lemmas.List.FromFn.{fill_by_all, length-map-range_with_len}
use Rattle.std.proofs.lemmas.List.FromFn.{get_or-map-range_with_len}
use Rattle.circle_field.specs.Field.{FieldOps, FieldLaws, IsEmbedding, sub, nth_power}
use Rattle.circle_field.specs.Ring.{Expr, var, con, unit, plus as sum, times as prod, minus}
use Rattle.circle_field.specs.RingSound.{ring}
use Rattle.circle_field.specs.RingCombine.{given, combine}
use Rattle.circle_field.specs.Circle.{Coordinates, IsOnCircle, AreGenerators, origin}
use Rattle.circle_point.specs.Basis.{vanishing}
use Rattle.circle_commit.specs.DotProduct.{dot}
use Rattle.circle_commit.specs.Matrix.{column}
use Rattle.circle_commit.proofs.Written.{length-pairwise, pairwise-read}
use Rattle.circle_domain.specs.Layers.{factor}
use Rattle.circle_domain.specs.Order.{cfft_order}
use Rattle.circle_domain.proofs.LagrangeShares.{all-split}
use Rattle.circle_folding.specs.Queries.{IsApart}
use Rattle.circle_folding.specs.Quotient.{real_part, imaginary_part, differences, claim_quotient}
use Rattle.circle_folding.specs.Claims.{AreDistinct, row_quotients, IsWideValueOfOnly}
use Rattle.circle_folding.specs.WideSpans.{wide_value, HasWideValues, WideSpan}
use Rattle.circle_folding.proofs.Bound.{all-read, AreWide, are-combined, ratio, vanishes}
use Rattle.circle_folding.proofs.Differences.{power_sum, word_sum, word_sum-append, word_sum-scaled}
use Rattle.circle_folding.proofs.Differences.{dot-powers, coefficients-are}
use Rattle.circle_folding.proofs.Only.{to_coefficients, vanishing-factor, wide-only}
use Rattle.circle_folding.proofs.Polynomials.{IsPolynomial, same, constant, combined}
use Rattle.circle_folding.proofs.ClaimedWords.{ps, first, lgens, first-on_circle, first-genuine}
use Rattle.circle_folding.proofs.ClaimedWords.{points-are, count, below, each-on_circle, wide-is}
use Rattle.circle_folding.proofs.ClaimedWords.{wide-read, off, quotient-read}

all-map : {X : Type 0} (P Q : X → Type 0) (xs : List X) → AllByRecursion P xs →
    ((x : X) → P x → Q x) → AllByRecursion Q xs
all-map P Q [] all f = tt
all-map P Q (x ∷ xs) all f = (f x all.0, all-map P Q xs all.1 f)

module _ {F E : Type 0} {k : FieldOps F} {l : FieldOps E} {embed : F → E} (laws : FieldLaws l)
    (eq : E → E → Bool) (eq_law : (a b : E) → (eq a b ≡ true) ↔ (a ≡ b))
    (e : IsEmbedding k l embed) {gen : ℕ → Coordinates F} {bits : ℕ}
    (gens : AreGenerators k bits gen) (h : ℕ) (positive : 1 ≤ h) (fits : h + 1 ≤ bits)
    (z : Coordinates E) (on_z : IsOnCircle l z)
    (apart : IsApart embed (cfft_order k gen h (gen (h + 1))) z) (order : ℕ)
    (room : suc (suc (suc order)) ≤ h)
    (rows : List (List E)) (width : ℕ) (values : List E) (tall : length rows ≡ 2 ^ h)
    (wide : All (λ row. length row ≡ width) rows) (claims : length values ≡ width) where
  abbrev n : ℕ
  n = suc (suc order)

  abbrev qs : List (Coordinates E)
  qs = ps laws eq eq_law e gens h positive fits

  abbrev at : ℕ → Coordinates E
  at i = slice_index_or qs i (origin l)

  abbrev row_at : ℕ → List E
  row_at i = slice_index_or rows i []

  -- the entries less the claimed values
  abbrev entry : ℕ → ℕ → E
  entry j i = sub l (slice_index_or (row_at i) j l.zero) (slice_index_or values j l.zero)

  abbrev re : ℕ → E
  re i = real_part l (λ r. r) (at i) z

  abbrev im : ℕ → E
  im i = imaginary_part l (λ r. r) (at i) z

  abbrev inverse : ℕ → E
  inverse i = l.inv (l.add (re i) (re i))

  -- the coefficients of the quotients as polynomials in the challenge
  abbrev low : ℕ → ℕ → E
  low j i = l.mul (l.mul (re i) (inverse i)) (entry j i)

  abbrev high : ℕ → ℕ → E
  high j i = l.mul (l.neg (l.mul (im i) (inverse i))) (entry j i)

  abbrev lows : List (ℕ → E)
  lows = map (λ j i. l.mul (l.mul (re i) (inverse i)) (entry j i)) (range_with_len 0 width)

  abbrev highs : List (ℕ → E)
  highs = map (λ j i. l.mul (l.neg (l.mul (im i) (inverse i))) (entry j i)) (range_with_len 0 width)

  long : length qs ≡ 2 ^ h
  long = count laws eq eq_law e gens h positive fits

  in_rows : (i : ℕ) → i < length qs → i < length rows
  in_rows i lt = omega (arith, lt, long, tall)

  row-width : (i : ℕ) → i < length qs → length (row_at i) ≡ width
  row-width i lt = wide i [] (in_rows i lt)

  differences-are : (i : ℕ) → i < length qs → differences l (λ r. r) (row_at i) values
      ≡ map (λ j. entry j i) (range_with_len 0 width)
  differences-are i lt =
      let f = λ (r v : E). sub l r v in
      let same_length : length (row_at i) ≡ length values = row-width i lt ∙ sym claims in
      fill_by_all (λ j. entry j i) (differences l (λ r. r) (row_at i) values) width l.zero
      (length-pairwise f (row_at i) values same_length ∙ row-width i lt)
      (λ j within. pairwise-read f (row_at i) values j l.zero l.zero l.zero
      (omega (arith, within, row-width i lt)) (omega (arith, within, claims)))

  quotient-sum : (alpha : E) (i : ℕ) → i < length qs →
      claim_quotient l (λ r. r) alpha (at i) z (row_at i) values
      ≡ word_sum l (lows ++ highs) alpha i
  quotient-sum alpha i lt =
      let power = nth_power l alpha in
      let js = range_with_len 0 width in
      let whole = power_sum l alpha (map (λ j. entry j i) js) in
      let scale = λ (w : ℕ). l.mul (sub l (re i) (l.mul (power w) (im i))) (inverse i) in
      let ds = differences l (λ r. r) (row_at i) values in
      ap (λ w. l.mul (scale w) (dot l (map power (range_with_len 0 w)) ds)) (row-width i lt)
      ∙ ap (λ xs. l.mul (scale width) (dot l (map power js) xs)) (differences-are i lt)
      ∙ ap (l.mul (scale width))
      (dot-powers laws alpha 0 width (map (λ j. entry j i) js)
      (length-map-range_with_len (λ j. entry j i) 0 width))
      ∙ ring laws.ring (re i ∷ im i ∷ inverse i ∷ power width ∷ whole ∷ [])
      (prod (prod (sum (var 0) (minus (prod (var 3) (var 1)))) (var 2)) (prod unit (var 4)))
      (sum (prod (prod (var 0) (var 2)) (var 4))
      (prod (var 3) (prod (minus (prod (var 1) (var 2))) (var 4)))) refl
      ∙ sym (word_sum-append laws lows highs alpha i
      ∙ ap (λ w. l.add (word_sum l lows alpha i) (l.mul (power w) (word_sum l highs alpha i)))
      (length-map-range_with_len low 0 width)
      ∙ ap (λ v. l.add v (l.mul (power width) (word_sum l highs alpha i)))
      (word_sum-scaled laws (λ i. l.mul (re i) (inverse i)) entry js alpha i)
      ∙ ap (λ v. l.add (l.mul (l.mul (re i) (inverse i)) whole) (l.mul (power width) v))
      (word_sum-scaled laws (λ i. l.neg (l.mul (im i) (inverse i))) entry js alpha i))

  -- each coefficient is the values of a polynomial plus a multiple of v_n
  module _ (alphas : List E) (challenges : length alphas ≡ 2 * width)
      (distinct : AreDistinct alphas)
      (all : All
      (λ alpha. WideSpan k gen l embed n h (row_quotients k gen l embed h alpha z rows values))
      alphas) where
    coefficients : AllByRecursion (AreWide l n qs) (lows ++ highs)
    coefficients =
        let counted : length (lows ++ highs) ≡ width + width =
        length-append lows highs
        ∙ ap (λ w. w + length highs) (length-map-range_with_len low 0 width)
        ∙ ap (λ w. width + w) (length-map-range_with_len high 0 width) in
        let Wide : E → Type 0 =
        λ alpha. WideSpan k gen l embed n h
        (row_quotients k gen l embed h alpha z rows values) in
        coefficients-are laws (length qs) (AreWide l n qs) (are-combined laws n qs) alphas
        (lows ++ highs) (omega (arith, challenges, counted)) distinct
        (all-map Wide (λ alpha. AreWide l n qs (word_sum l (lows ++ highs) alpha)) alphas
        (recursion_from_All Wide alphas all) (λ alpha is. (
          wide_value l n is.0 is.1,
          wide-is laws n is.0 is.1 (omega arith) is.2.count,
          λ i lt.
              sym
              (wide-read laws eq eq_law e gens h positive fits n
              (row_quotients k gen l embed h alpha z rows values) is.0 is.1 is.2 i lt)
              ∙ quotient-read laws eq eq_law e gens h positive fits z on_z apart alpha rows values i
              lt (in_rows i lt) ∙ quotient-sum alpha i lt,
        )))

    low-is : (j : ℕ) → j < width → AreWide l n qs (low j)
    low-is j lt =
        let none = λ (i : ℕ). l.zero in
        subst (AreWide l n qs) (get_or-map-range_with_len low 0 width j j none lt (omega arith))
        (all-read (AreWide l n qs) lows none (all-split (AreWide l n qs) lows highs coefficients).0
        j (omega (arith, lt, length-map-range_with_len low 0 width)))

    high-is : (j : ℕ) → j < width → AreWide l n qs (high j)
    high-is j lt =
        let none = λ (i : ℕ). l.zero in
        subst (AreWide l n qs) (get_or-map-range_with_len high 0 width j j none lt (omega arith))
        (all-read (AreWide l n qs) highs none (all-split (AreWide l n qs) lows highs coefficients).1
        j (omega (arith, lt, length-map-range_with_len high 0 width)))

    -- so a column is, and its claimed value is that at z
    pub column-bound : (j : ℕ) → j < width →
        IsWideValueOfOnly k gen l embed n h (column l.zero rows j) z
        (slice_index_or values j l.zero)
    column-bound j lt =
        let v = slice_index_or values j l.zero in
        let word = column l.zero rows j in
        let less : AreWide l n qs (entry j) =
        are-combined laws n qs l.one l.one (low j) (low j) (entry j) (low-is j lt) (low-is j lt)
        (λ i within.
        let r : Expr = var 0 in let t : Expr = var 1 in let d : Expr = var 2 in
        combine laws.ring (re i ∷ inverse i ∷ entry j i ∷ []) d
        (sum (prod unit (prod (prod r t) d)) (prod unit (prod (prod r t) d)))
        (given (minus d) (prod (sum r r) t) unit ∷ []) refl (
          laws.mul_inv (l.add (re i) (re i))
              (off laws eq eq_law e gens h positive fits z on_z apart i within),
          tt,
        )) in
        let f = less.0 in
        let is = less.1 in
        let over : AreWide l n qs (λ i. l.mul (ratio laws z (at i)) (f (at i))) =
        are-combined laws n qs (l.neg l.one) l.zero (high j) (high j)
        (λ i. l.mul (ratio laws z (at i)) (f (at i))) (high-is j lt) (high-is j lt) (λ i within.
        ap (l.mul (ratio laws z (at i))) (less.2 i within)
        ∙ ring laws.ring (im i ∷ inverse i ∷ entry j i ∷ []) (prod (prod (var 0) (var 1)) (var 2))
        (sum (prod (minus unit) (prod (minus (prod (var 0) (var 1))) (var 2)))
        (prod (con 0) (prod (minus (prod (var 0) (var 1))) (var 2)))) refl) in
        let none : f z ≡ l.zero =
        vanishes laws (lgens laws eq eq_law e gens h positive fits) h
        (first laws eq eq_law e gens h positive fits)
        (below laws eq eq_law e gens h positive fits)
        (first-on_circle laws eq eq_law e gens h positive fits)
        (first-genuine laws eq eq_law e gens h positive fits) order room z on_z
        (off laws eq eq_law e gens h positive fits z on_z apart) f is over in
        let g = λ (p : Coordinates E). l.add (is.0 p) v in
        let is_g : IsPolynomial l n g =
        same laws n (λ p. l.add (l.mul l.one (is.0 p)) (l.mul l.one v)) g
        (combined laws n l.one l.one is.0 (λ p. v) is.2 (constant laws n v))
        (λ p on. ring laws.ring (is.0 p ∷ v ∷ []) (sum (var 0) (var 1))
        (sum (prod unit (var 0)) (prod unit (var 1))) refl) in
        let c = to_coefficients laws n g is_g in
        let sum_is : (p : Coordinates E) → IsOnCircle l p →
        wide_value l n c.0 is.1 p ≡ l.add (f p) v = λ p on.
        ap (λ a. l.add a (l.mul is.1 (vanishing l n p))) (c.2 p on)
        ∙ ap (λ b. l.add (g p) (l.mul is.1 b)) (vanishing-factor laws n p (omega arith))
        ∙ ring laws.ring (is.0 p ∷ v ∷ is.1 ∷ factor l n p ∷ [])
        (sum (sum (var 0) (var 1)) (prod (var 2) (var 3)))
        (sum (sum (var 0) (prod (var 2) (var 3))) (var 1)) refl
        ∙ ap (λ b. l.add b v) (sym (is.3 p on)) in
        let read = λ (row : List E). slice_index_or row j l.zero in
        let sums = wide_value l n c.0 is.1 in
        let has : HasWideValues k gen l embed n h word c.0 is.1 = record {
          count = c.1;
          values = ap (map sums) (points-are laws eq eq_law e gens h positive fits)
              ∙ ext_get_or l.zero (map sums qs) word
              (length-map qs sums ∙ long ∙ sym (length-map rows read ∙ tall)) (λ i below.
              let within : i < length qs = omega (arith, below, length-map qs sums) in
              get_or-map sums qs i (origin l) l.zero within
              ∙ sum_is (at i) (each-on_circle laws eq eq_law e gens h positive fits i within)
              ∙ ap (λ b. l.add b v) (less.2 i within)
              ∙ ring laws.ring (read (row_at i) ∷ v ∷ [])
              (sum (sum (var 0) (minus (var 1))) (var 1)) (var 0) refl
              ∙ sym (get_or-map read rows i [] l.zero (in_rows i within)));
        } in (
          c.0,
          is.1,
          has,
          sym (sum_is z on_z ∙ ap (λ b. l.add b v) none ∙ laws.ring.zero_add v),
          λ d b has_d.
              wide-only laws (lgens laws eq eq_law e gens h positive fits) h
              (first laws eq eq_law e gens h positive fits)
              (below laws eq eq_law e gens h positive fits)
              (first-on_circle laws eq eq_law e gens h positive fits)
              (first-genuine laws eq eq_law e gens h positive fits) n d c.0 b is.1 (omega arith)
              room has_d.count c.1
              (ap (map (wide_value l n d b))
              (sym (points-are laws eq eq_law e gens h positive fits)) ∙ has_d.values
              ∙ sym has.values
              ∙ ap (map sums) (points-are laws eq eq_law e gens h positive fits)),
        )
