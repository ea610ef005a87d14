-- The codewords of the rounds, entry by entry: how long they are, and how an entry of one comes
-- from a pair of the one before.
use Rattle.std.specs.Prelude.{◌≡◌, ℕ, ◌-◌, ◌^◌, ◌<◌, ◌≤◌, Bool, true, false, if◌then◌else◌, List}
use Rattle.std.specs.Prelude.{[], length, map, All, slice_index_or}
use Rattle.std.proofs.Common.{sym, ◌∙◌, ap, arith}
use Rattle.std.proofs.lemmas.List.{length-map, get_or-map}
use Rattle.circle_field.specs.Field.{RingLaws}
use Rattle.circle_field.specs.RingFacts.{add_zero}
use Rattle.circle_commit.specs.DotProduct.{pairwise}
use Rattle.circle_commit.proofs.Written.{length-pairwise, pairwise-read}
use Rattle.circle_folding.specs.Fold.{fold_pair, fold_x_twiddles, x_folds}
use Rattle.circle_folding.proofs.Twiddles.{length-fold_x_twiddles}
use Rattle.circle_relation.specs.Accepts.{Fields}
use Rattle.circle_codewords.specs.Words.{Committed, corrected_word}
use Rattle.circle_prover.specs.Words.{first_fold, heights_of, layer_of, round_word, top_of}
use Rattle.circle_prover.proofs.Growing.{length-pairs_of}
use Rattle.circle_prover.proofs.Lengths.{length-word_at, length-y_folds}
use Rattle.circle_completeness.proofs.FirstWords.{length-corrected}

module _ {F E : Type 0} (k : Fields F E) (blowup : ℕ) (ms : List (Committed F E))
    (alpha bivariate : E) where
  -- the fold of the codeword of a height
  pub first_fold-length : (h : ℕ) → 1 ≤ h → length (first_fold k blowup ms alpha bivariate h)
      ≡ 2 ^ (h - 1)
  first_fold-length h positive =
      length-y_folds k (h - 1) bivariate (layer_of k blowup ms alpha h)
      (length-pairs_of (corrected_word k alpha ms blowup h) h positive
      (length-corrected k alpha ms blowup h positive))

  -- the codeword of a round
  pub round_word-length : (betas : List E) → 1 ≤ top_of ms → All (λ h. 1 ≤ h) (heights_of ms) →
      (n : ℕ) → n ≤ top_of ms - 1 →
      length (round_word k blowup ms alpha bivariate betas n) ≡ 2 ^ (top_of ms - 1 - n)
  round_word-length betas some positive n within =
      let fold = first_fold k blowup ms alpha bivariate in
      length-word_at k (heights_of ms) fold
      (λ i h lt. first_fold-length (slice_index_or (heights_of ms) i h) (positive i h lt))
      (top_of ms - 1) (fold (top_of ms)) betas (first_fold-length (top_of ms) some) n within

module _ {F E : Type 0} (k : Fields F E) where
  -- the fold of rows of two
  pub length-x_folds : (m : ℕ) (beta : E) (rs : List (List E)) → length rs ≡ 2 ^ m →
      length (x_folds k.field k.gen k.extension k.embed m beta rs) ≡ 2 ^ m
  length-x_folds m beta rs long =
      let ts = map k.embed (fold_x_twiddles k.field k.gen m) in
      let of_ts : length ts ≡ 2 ^ m = length-map (fold_x_twiddles k.field k.gen m) k.embed
      ∙ length-fold_x_twiddles k.field k.gen m in
      length-pairwise (fold_pair k.extension beta) ts rs (of_ts ∙ sym long) ∙ of_ts

  -- and an entry of it
  pub x_folds-read : (m : ℕ) (beta : E) (pairs : List (List E)) (i : ℕ) → i < 2 ^ m →
      i < length pairs →
      slice_index_or (x_folds k.field k.gen k.extension k.embed m beta pairs) i k.extension.zero
      ≡ fold_pair k.extension beta
      (k.embed (slice_index_or (fold_x_twiddles k.field k.gen m) i k.field.zero))
      (slice_index_or pairs i [])
  x_folds-read m beta pairs i lt within =
      let ts = fold_x_twiddles k.field k.gen m in
      let long : i < length ts = omega (arith, lt, length-fold_x_twiddles k.field k.gen m) in
      pairwise-read (fold_pair k.extension beta) (map k.embed ts) pairs i (k.embed k.field.zero) []
      k.extension.zero (omega (arith, long, length-map ts k.embed)) within
      ∙ ap (λ t. fold_pair k.extension beta t (slice_index_or pairs i []))
      (get_or-map k.embed ts i k.field.zero (k.embed k.field.zero) long)

  -- an entry of a codeword that another one may join
  pub joined-read : RingLaws k.extension → (test : Bool) (word other : List E) (i : ℕ) →
      i < length word → i < length other →
      slice_index_or (if test then pairwise k.extension.add word other else word) i k.extension.zero
      ≡ k.extension.add (slice_index_or word i k.extension.zero)
      (if test then slice_index_or other i k.extension.zero else k.extension.zero)
  joined-read laws true word other i lt within =
      pairwise-read k.extension.add word other i k.extension.zero k.extension.zero k.extension.zero
      lt within
  joined-read laws false word other i lt within =
      sym (add_zero laws (slice_index_or word i k.extension.zero))
