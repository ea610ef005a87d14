-- The laws of the codewords of an opening under true claims.
use Rattle.std.specs.Prelude.{◌≡◌, ◌↔◌, ℕ, ◌+◌, ◌-◌, ◌≤◌, Bool, true, List}
use Rattle.std.proofs.Common.{subst, arith}
use Rattle.circle_field.specs.Field.{FieldLaws, IsEmbedding}
use Rattle.circle_field.specs.Circle.{AreGenerators}
use Rattle.circle_domain.specs.Spans.{XSpan}
use Rattle.circle_folding.proofs.Remainders.{quarter_turn}
use Rattle.circle_prover.specs.Words.{first_fold, heights_of, round_word, top_of}
use Rattle.circle_relation.specs.Accepts.{Fields}
use Rattle.circle_codewords.specs.Words.{Committed, corrected_word}
use Rattle.circle_completeness.specs.LowWords.{ReducedWordsSplit, CorrectedWordsAreLow}
use Rattle.circle_completeness.specs.LowWords.{FirstFoldsAreLow, RoundWordsAreLow, LastWordIsLow}
use Rattle.circle_completeness.proofs.TrueWords.{true-split}
use Rattle.circle_completeness.proofs.FoldedWords.{corrected-low, y-low, round-low}

module _ {F E : Type 0} (k : Fields F E) (base : FieldLaws k.field) (laws : FieldLaws k.extension)
    (e : IsEmbedding k.field k.extension k.embed)
    (base_eq : F → F → Bool) (base_law : (a b : F) → (base_eq a b ≡ true) ↔ (a ≡ b))
    (eq : E → E → Bool) (eq_law : (a b : E) → (eq a b ≡ true) ↔ (a ≡ b))
    {bits : ℕ} (gens : AreGenerators k.field bits k.gen) (blowup : ℕ) (positive : 1 ≤ blowup)
    (alpha : E) (ms : List (Committed F E)) where
  pub words-split : ReducedWordsSplit k bits blowup ms alpha
  words-split true_ms h below fits =
      true-split k base laws e eq eq_law gens blowup h below fits alpha ms true_ms

  pub words-corrected : CorrectedWordsAreLow k bits blowup ms alpha
  words-corrected true_ms h below fits =
      corrected-low k base laws e gens
      (quarter_turn base base_eq base_law gens (omega (arith, below, fits, positive))) blowup
      positive alpha ms h below fits (words-split true_ms h below fits)

  module _ (bivariate : E) where
    pub folds-low : FirstFoldsAreLow k bits blowup ms alpha bivariate
    folds-low true_ms h below fits =
        y-low k base laws e gens blowup h (corrected_word k alpha ms blowup h) bivariate positive
        below fits (words-corrected true_ms h below fits)

    pub rounds-low : (betas : List E) → RoundWordsAreLow k bits blowup ms alpha bivariate betas
    rounds-low betas true_ms fits =
        round-low k base laws e gens blowup (top_of ms) positive fits (heights_of ms)
        (first_fold k blowup ms alpha bivariate) (folds-low true_ms) betas

    pub last-low : (final : ℕ) (betas : List E) →
        LastWordIsLow k bits blowup ms final alpha bivariate betas
    last-low final betas true_ms fits within =
        let n = top_of ms - 1 - blowup - final in
        let size : top_of ms - 1 - blowup - n ≡ final = omega (arith, within) in
        let order : top_of ms - 1 - n ≡ blowup + final = omega (arith, within) in
        subst
        (λ i. XSpan k.field k.gen k.extension k.embed final i
        (round_word k blowup ms alpha bivariate betas n)) order
        (subst
        (λ i. XSpan k.field k.gen k.extension k.embed i (top_of ms - 1 - n)
        (round_word k blowup ms alpha bivariate betas n)) size
        (rounds-low betas true_ms fits n (omega (arith, within))))
