-- The codewords of an opening from the first layer on: without its lambda a codeword of a height
-- that splits is of low degree, and so are its fold and the codewords of the rounds.
use Rattle.std.specs.Prelude.{◌≡◌, ℕ, ◌+◌, ◌-◌, ◌*◌, ◌/◌, ◌^◌, ◌<◌, ◌≤◌, ◌==◌, Bool, true, false}
use Rattle.std.specs.Prelude.{if◌then◌else◌, List, [], ◌∷◌, ◌++◌, length, map, flat_map, take, drop}
use Rattle.std.specs.Prelude.{All, slice_index_or}
use Rattle.std.specs.List.{list_any}
use Rattle.std.proofs.Common.{zero, suc, refl, sym, ◌∙◌, ap, subst, arith}
use Rattle.std.proofs.Math.Nat.{pow-suc}
use Rattle.std.proofs.Math.Path.{fun_ext}
use Rattle.std.proofs.lemmas.List.{length-map, length-drop, take-append-drop}
use Rattle.std.proofs.lemmas.List.FromFn.{length-map-range_with_len}
use Rattle.circle_field.specs.Field.{FieldLaws, IsEmbedding}
use Rattle.circle_field.specs.Ring.{var, unit, plus as sum, times as prod}
use Rattle.circle_field.specs.RingSound.{ring}
use Rattle.circle_field.specs.Circle.{Coordinates, AreGenerators, origin}
use Rattle.circle_point.specs.Basis.{x_value}
use Rattle.circle_commit.specs.DotProduct.{pairwise}
use Rattle.circle_commit.specs.Matrix.{rows_from}
use Rattle.circle_commit.specs.RowFacts.{length-rows_from, rows_from-widths}
use Rattle.circle_commit.proofs.Written.{length-pairwise}
use Rattle.circle_domain.specs.Order.{coset}
use Rattle.circle_domain.specs.Spans.{Span, XSpan}
use Rattle.circle_domain.proofs.Twiddles.{length-coset}
use Rattle.circle_domain.proofs.CosetOrder.{length-cfft_order}
use Rattle.circle_folding.specs.Fold.{x_folds, y_folds}
use Rattle.circle_folding.specs.Spans.{Splits}
use Rattle.circle_folding.proofs.FoldedSpans.{y-halves, x-halves}
use Rattle.circle_folding.proofs.Remainders.{only-split}
use Rattle.circle_folding.proofs.Sides.{combination, x_value-combination}
use Rattle.circle_relation.specs.Sums.{reduced}
use Rattle.circle_relation.specs.Accepts.{Fields}
use Rattle.circle_codewords.specs.Ratios.{points_of_height}
use Rattle.circle_codewords.specs.Words.{Committed, claims_at, corrected_word, lambda, next_word}
use Rattle.circle_codewords.specs.Words.{pairs_of, reduced_word}
use Rattle.circle_prover.specs.Words.{word_at}
use Rattle.circle_completeness.proofs.TrueWords.{pairwise-map}

-- n rows of `width` entries, one after another
rows-again : {T : Type 0} (width n : ℕ) (xs : List T) → length xs ≡ n * width →
    flat_map (λ row. row) (rows_from width n xs) ≡ xs
rows-again width zero [] long = refl
rows-again width zero (x ∷ xs) long = absurd (omega (arith, long))
rows-again width (suc n) xs long =
    ap (λ rest. take width xs ++ rest)
    (rows-again width n (drop width xs) (omega (arith, length-drop width xs, long)))
    ∙ take-append-drop width xs

-- the pairs of a codeword of a power of two
module _ {E : Type 0} (word : List E) (m : ℕ) (long : length word ≡ 2 ^ suc m) where
  half : length word / 2 ≡ 2 ^ m
  half = omega (arith, long, pow-suc 2 m)

  pairs-tall : length (pairs_of word) ≡ 2 ^ m
  pairs-tall = length-rows_from 2 (length word / 2) word ∙ half

  pairs-wide : All (λ row. length row ≡ 2) (pairs_of word)
  pairs-wide = rows_from-widths 2 (length word / 2) word (omega arith)

  pairs-again : flat_map (λ row. row) (pairs_of word) ≡ word
  pairs-again = rows-again 2 (length word / 2) word (omega (arith, long, pow-suc 2 m))

module _ {F E : Type 0} (k : Fields F E) (base : FieldLaws k.field) (laws : FieldLaws k.extension)
    (e : IsEmbedding k.field k.extension k.embed)
    {bits : ℕ} (gens : AreGenerators k.field bits k.gen) where
  abbrev SpanOf : ℕ → ℕ → List E → Type 0
  SpanOf b h word = Span k.field k.gen k.extension k.embed b h (k.gen (h + 1)) word

  abbrev XSpanOf : ℕ → ℕ → List E → Type 0
  XSpanOf b m word = XSpan k.field k.gen k.extension k.embed b m word

  span-long : (b h : ℕ) (word : List E) → 1 ≤ h → SpanOf b h word → length word ≡ 2 ^ h
  span-long b h word positive span =
      ap length (sym span.1.values) ∙ length-map (points_of_height k.field k.gen h) _
      ∙ length-cfft_order base.ring gens h (k.gen (h + 1)) positive

  x-span-long : (b m : ℕ) (word : List E) → XSpanOf b m word → length word ≡ 2 ^ m
  x-span-long b m word span =
      ap length (sym span.1.values) ∙ length-map (coset k.field k.gen m (k.gen (m + 2))) _
      ∙ length-coset k.field k.gen m (k.gen (m + 2))

  -- sums
  x-span-sum : (b m : ℕ) (word other : List E) → XSpanOf b m word → XSpanOf b m other →
      XSpanOf b m (pairwise k.extension.add word other)
  x-span-sum b m word other first second =
      let l = k.extension in
      let c = first.0 in
      let d = second.0 in
      let same : length c ≡ length d = first.1.count ∙ sym second.1.count in
      let whole = combination l l.one l.one c d in
      let points = coset k.field k.gen m (k.gen (m + 2)) in
      let f = λ (w : List E) (p : Coordinates F). x_value l w (k.embed p.x) in (
        whole,
        record {
          count = length-pairwise (λ a b. l.add (l.mul l.one a) (l.mul l.one b)) c d same
              ∙ first.1.count;
          values =
              ap (λ g. map g points)
              (fun_ext
              (λ (p : Coordinates F). x_value-combination laws.ring l.one l.one c d
              (k.embed p.x) same
              ∙ ring laws.ring (f c p ∷ f d p ∷ []) (sum (prod unit (var 0)) (prod unit (var 1)))
              (sum (var 0) (var 1)) refl))
              ∙ sym (pairwise-map l.add (f c) (f d) points)
              ∙ ap (λ w. pairwise l.add w (map (f d) points)) first.1.values
              ∙ ap (pairwise l.add word) second.1.values;
        },
      )

  -- the codeword of a height without its lambda
  module _ (quarter : (k.gen 2).x ≡ k.field.zero) (blowup : ℕ) (positive : 1 ≤ blowup) (alpha : E)
      (ms : List (Committed F E)) where
    pub corrected-low : (h : ℕ) → blowup < h → h < bits →
        (low : List E) × (multiple : E) × Splits k.field k.gen k.extension k.embed blowup h
        (reduced_word k alpha ms h) low multiple →
        SpanOf (h - blowup) h (corrected_word k alpha ms blowup h)
    corrected-low h below fits split =
        let word = reduced_word k alpha ms h in
        let points = points_of_height k.field k.gen h in
        let g =
        λ (i : ℕ). reduced k.extension k.embed alpha 0
        (slice_index_or points i (origin k.field)) (claims_at h ms i) in
        let only =
        only-split base.ring laws e gens quarter blowup h positive below (omega (arith, fits)) word
        (corrected_word k alpha ms blowup h) (lambda k alpha ms blowup h)
        (length-map-range_with_len g 0 (2 ^ h)) refl refl in
        let parts = only split.0 split.1 split.2 in
        subst (SpanOf (h - blowup) h) (sym parts.0) split.2.span

  -- the fold by y of a codeword of a height
  pub y-low : (blowup h : ℕ) (word : List E) (beta : E) → 1 ≤ blowup → blowup < h → h < bits →
      SpanOf (h - blowup) h word →
      XSpanOf (h - 1 - blowup) (h - 1)
      (y_folds k.field k.gen k.extension k.embed (h - 1) beta (pairs_of word))
  y-low blowup h word beta positive below fits span =
      let m = h - 1 in
      let b = h - 1 - blowup in
      let rows = pairs_of word in
      let next : suc m ≡ h = omega (arith, below) in
      let long : length word ≡ 2 ^ suc m = span-long (h - blowup) h word (omega (arith, below)) span
      ∙ ap (λ i. 2 ^ i) (sym next) in
      let size : h - blowup ≡ b + 1 = omega (arith, below) in
      let order : h ≡ m + 1 = omega (arith, below) in
      let shift : h + 1 ≡ m + 2 = omega (arith, below) in
      let as_rows : Span k.field k.gen k.extension k.embed (b + 1) (m + 1) (k.gen (m + 2))
      (flat_map (λ row. row) rows) =
      subst (Span k.field k.gen k.extension k.embed (b + 1) (m + 1) (k.gen (m + 2)))
      (sym (pairs-again word m long))
      (subst (λ i. Span k.field k.gen k.extension k.embed (b + 1) (m + 1) (k.gen i) word) shift
      (subst (λ i. Span k.field k.gen k.extension k.embed (b + 1) i (k.gen (h + 1)) word) order
      (subst (λ i. Span k.field k.gen k.extension k.embed i h (k.gen (h + 1)) word) size span))) in
      y-halves base laws e gens m beta rows (pairs-wide word m long) (pairs-tall word m long)
      (omega (arith, fits, below)) (y_folds k.field k.gen k.extension k.embed m beta rows) refl
      b as_rows

  -- the fold by x of a later codeword
  x-low : (b m : ℕ) (word : List E) (beta : E) → m + 3 ≤ bits → XSpanOf (b + 1) (m + 1) word →
      XSpanOf b m (x_folds k.field k.gen k.extension k.embed m beta (pairs_of word))
  x-low b m word beta fits span =
      let rows = pairs_of word in
      let next : m + 1 ≡ suc m = omega arith in
      let long : length word ≡ 2 ^ suc m = x-span-long (b + 1) (m + 1) word span
      ∙ ap (λ i. 2 ^ i) next in
      x-halves base laws e gens m beta rows (pairs-wide word m long) (pairs-tall word m long) fits
      (x_folds k.field k.gen k.extension k.embed m beta rows) refl b
      (subst (XSpanOf (b + 1) (m + 1)) (sym (pairs-again word m long)) span)

  -- the codewords of the rounds, where what joins is of low degree
  module _ (blowup top : ℕ) (positive : 1 ≤ blowup) (fits : top < bits) (heights : List ℕ)
      (fold : ℕ → List E)
      (low : (h : ℕ) → blowup < h → h < bits → XSpanOf (h - 1 - blowup) (h - 1) (fold h))
      (betas : List E) where
    abbrev word : ℕ → List E
    word n = word_at k heights fold (top - 1) (fold top) betas n

    joined-low : (test : Bool) (b m : ℕ) (first second : List E) → XSpanOf b m first →
        XSpanOf b m second →
        XSpanOf b m (if test then pairwise k.extension.add first second else first)
    joined-low true b m first second one two = x-span-sum b m first second one two
    joined-low false b m first second one two = one

    pub round-low : (n : ℕ) → n + blowup < top →
        XSpanOf (top - 1 - blowup - n) (top - 1 - n) (word n)
    round-low zero within =
        let size : top - 1 - blowup ≡ top - 1 - blowup - 0 = omega arith in
        let order : top - 1 ≡ top - 1 - 0 = omega arith in
        subst (λ i. XSpanOf (top - 1 - blowup - 0) i (fold top)) order
        (subst (λ i. XSpanOf i (top - 1) (fold top)) size
        (low top (omega (arith, within)) fits))
    round-low (suc n) within =
        let h = top - 1 - n in
        let m = h - 1 in
        let b = top - 1 - blowup - suc n in
        let beta = slice_index_or betas n k.extension.zero in
        let before = round-low n (omega (arith, within)) in
        let size : top - 1 - blowup - n ≡ b + 1 = omega (arith, within) in
        let order : h ≡ m + 1 = omega (arith, within, positive) in
        let folded : XSpanOf b m
        (x_folds k.field k.gen k.extension k.embed m beta (pairs_of (word n))) =
        x-low b m (word n) beta (omega (arith, within, positive, fits))
        (subst (λ i. XSpanOf (b + 1) i (word n)) order
        (subst (λ i. XSpanOf i h (word n)) size before)) in
        let joins : XSpanOf b m (fold h) =
        let same : h - 1 - blowup ≡ b = omega (arith, within) in
        subst (λ i. XSpanOf i m (fold h)) same
        (low h (omega (arith, within)) (omega (arith, within, fits))) in
        let next : m ≡ top - 1 - suc n = omega (arith, within) in
        subst (λ i. XSpanOf b i (next_word k heights fold h beta (word n))) next
        (joined-low (list_any (λ n. n == h) heights) b m
        (x_folds k.field k.gen k.extension k.embed m beta (pairs_of (word n))) (fold h) folded
        joins)
