-- The codewords of an opening as the values of polynomials with few coefficients: Circle STARKs
-- (ePrint 2024/278), sections 4.2, 4.3 and 6.
use Rattle.std.specs.Prelude.{ℕ, ◌+◌, ◌-◌, ◌<◌, List, All}
use Rattle.circle_domain.specs.Spans.{Span, XSpan}
use Rattle.circle_folding.specs.Spans.{Splits}
use Rattle.circle_prover.specs.Words.{first_fold, last_word, round_word, top_of}
use Rattle.circle_relation.specs.Accepts.{Fields}
use Rattle.circle_codewords.specs.Words.{Committed, reduced_word, corrected_word}
use Rattle.circle_completeness.specs.LowDegree.{IsTrue}

module _ {F E : Type 0} (k : Fields F E) (two_adicity blowup : ℕ) (matrices : List (Committed F E))
  where
    -- where all claims on the matrices are true, the codeword of each height is the values of a
    -- polynomial with few coefficients plus a multiple of the vanishing polynomial
    abbrev pub ReducedWordsSplit : E → Type 0
    ReducedWordsSplit alpha =
        All (IsTrue k blowup) matrices → (h : ℕ) → blowup < h → h < two_adicity
        → (low : List E) × (multiple : E) × Splits k.field k.gen k.extension k.embed blowup h
        (reduced_word k alpha matrices h) low multiple

    -- without its lambda it is those values
    abbrev pub CorrectedWordsAreLow : E → Type 0
    CorrectedWordsAreLow alpha =
        All (IsTrue k blowup) matrices → (h : ℕ) → blowup < h → h < two_adicity
        → Span k.field k.gen k.extension k.embed (h - blowup) h (k.gen (h + 1))
        (corrected_word k alpha matrices blowup h)

    -- folded by y it is those of a polynomial in x with half as many coefficients
    abbrev pub FirstFoldsAreLow : E → E → Type 0
    FirstFoldsAreLow alpha bivariate =
        All (IsTrue k blowup) matrices → (h : ℕ) → blowup < h → h < two_adicity
        → XSpan k.field k.gen k.extension k.embed (h - 1 - blowup) (h - 1)
        (first_fold k blowup matrices alpha bivariate h)

    -- with each round the codeword, with what joins there, is the values of a polynomial in x with
    -- half as many coefficients, as long as there are some to halve
    abbrev pub RoundWordsAreLow : E → E → List E → Type 0
    RoundWordsAreLow alpha bivariate betas =
        All (IsTrue k blowup) matrices → top_of matrices < two_adicity
        → (n : ℕ) → n + blowup < top_of matrices
        → XSpan k.field k.gen k.extension k.embed (top_of matrices - 1 - blowup - n)
        (top_of matrices - 1 - n) (round_word k blowup matrices alpha bivariate betas n)

    -- the codeword that the rounds end in is the values of a final polynomial of 2^final
    -- coefficients
    abbrev pub LastWordIsLow : ℕ → E → E → List E → Type 0
    LastWordIsLow final alpha bivariate betas =
        All (IsTrue k blowup) matrices → top_of matrices < two_adicity
        → blowup + final < top_of matrices
        → XSpan k.field k.gen k.extension k.embed final (blowup + final)
        (last_word k blowup matrices alpha final bivariate betas)

module _ {F E : Type 0} (k : Fields F E) (blowup : ℕ) (alpha : E) where
  -- so are the codewords of the heights of whatever matrices
  pub record AreHeightWordsLow : Type 0 where
    pub split : (matrices : List (Committed F E)) →
        ReducedWordsSplit k k.two_adicity blowup matrices
        alpha
    pub corrected : (matrices : List (Committed F E)) → CorrectedWordsAreLow k k.two_adicity blowup
        matrices alpha

  -- and those that follow under these challenges
  pub record IsLastWordLow (final : ℕ) (bivariate : E) (betas : List E) : Type 0 where
    pub folds : (matrices : List (Committed F E)) → FirstFoldsAreLow k k.two_adicity blowup matrices
        alpha bivariate
    pub rounds : (matrices : List (Committed F E)) →
        RoundWordsAreLow k k.two_adicity blowup matrices
        alpha bivariate betas
    pub last : (matrices : List (Committed F E)) →
        LastWordIsLow k k.two_adicity blowup matrices final
        alpha bivariate betas
