-- What an opening commits to once its batching challenge is drawn: Circle STARKs (ePrint 2024/278),
-- sections 4 and 6.
use Rattle.std.specs.Prelude.{◌≡◌, ℕ, ◌+◌, ◌-◌, ◌≤◌, ◌==◌, List, [], ◌∷◌, length, map, zip, All}
use Rattle.std.specs.Prelude.{Ok, Some, slice_get, slice_index_or, Vec}
use Rattle.std.specs.List.{filter, list_any, range_with_len}
use Rattle.std.specs.declared.alloc.Global.{Global}
use Rattle.std.proofs.Common.{zero, suc}
use Rattle.circle_challenger.specs.Moves.{RunMoves}
use Rattle.circle_commit.specs.DotProduct.{pairwise}
use Rattle.circle_commit.specs.Mmcs.{greatest}
use Rattle.circle_commit.specs.RowMajorMatrix.{rows, width_of}
use Rattle.circle_commit.specs.declared.matrix.RowMajorMatrix.{RowMajorMatrix}
use Rattle.circle_folding.specs.Fold.{y_folds}
use Rattle.circle_relation.specs.Accepts.{Fields}
use Rattle.circle_commit.specs.declared.params.FriParameters.{FriParameters}
use Rattle.circle_transcript.specs.Draw.{Claim, Taken, taken, play_rounds, AreFound}
use Rattle.circle_domain.specs.Spans.{HasXValues, XSpan}
use Rattle.circle_transcript.specs.Transcript.{numbers, run_of, state_of}
use Rattle.circle_transcript.specs.declared.transcript.CircleTranscript.{CircleTranscript}
use Rattle.circle_codewords.specs.Words.{Committed, HaveHeights, corrected_word, lambda}
use Rattle.circle_codewords.specs.Words.{next_word, pairs_of, y_folded}
use Rattle.circle_prover.specs.declared.rounds.Rounds.{Rounds}
use Rattle.circle_prover.specs.declared.run.CommittedWords.{CommittedWords}

module _ {F E : Type 0} where
  -- the logarithm of the greatest height of committed matrices; those of all heights, ascending
  abbrev pub top_of : List (Committed F E) → ℕ
  top_of matrices = greatest (map (λ m. m.log_height) matrices)

  abbrev pub heights_of : List (Committed F E) → List ℕ
  heights_of matrices =
      filter (λ h. list_any (λ m. m.log_height == h) matrices)
      (range_with_len 0 (suc (top_of matrices)))

-- matrices of two columns that have these rows, and their commitment
pub record AreCommitted {E Com : Type 0} (Commits : List (RowMajorMatrix E) → Com → Type 0)
    (words : List (List (List E))) (kept : List (RowMajorMatrix E)) (commitment : Com)
    : Type 0 where
  pub rows : map rows kept ≡ words
  pub width : All (λ m. width_of m ≡ 2) kept
  pub commits : Commits kept commitment

module _ {F E : Type 0} (k : Fields F E) (heights : List ℕ) (folded : ℕ → List E) (h : ℕ)
    (first betas : List E) where
  -- the codewords of the rounds, from one of 2^h entries on: each is the fold by x of the one
  -- before, joined by what was folded from the height that is due
  abbrev pub word_at : ℕ → List E
  word_at zero = first
  word_at (suc n) =
      next_word k heights folded (h - n) (slice_index_or betas n k.extension.zero) (word_at n)

-- codewords have this commitment
abbrev pub IsCommitmentOf : {E Com : Type 0} → (List (RowMajorMatrix E) → Com → Type 0)
    → List (List (List E)) → Com → Type 0
IsCommitmentOf {E = E} Commits words commitment =
    (kept : List (RowMajorMatrix E)) × AreCommitted Commits words kept commitment

-- each of the codewords, from the first on, is committed to alone, by pairs
pub record AreRounds {E D Com : Type 0} (Commits : List (RowMajorMatrix E) → Com → Type 0)
    (matrices : D → List (RowMajorMatrix E)) (word : ℕ → List E) (kept : List D)
    (commitments : List Com) : Type 0 where
  pub count : length kept ≡ length commitments
  pub each : (n : ℕ) (d : D) (commitment : Com) → slice_get kept n ≡ Some d
      → slice_get commitments n ≡ Some commitment
      → AreCommitted Commits (pairs_of (word n) ∷ []) (matrices d) commitment

-- the codewords of an opening under its challenges
module _ {F E : Type 0} (k : Fields F E) (blowup : ℕ) (matrices : List (Committed F E))
    (alpha : E) where
  -- the codeword of a height in the first layer, as rows of two
  abbrev pub layer_of : ℕ → List (List E)
  layer_of h = pairs_of (corrected_word k alpha matrices blowup h)

  -- its fold by y
  abbrev pub first_fold : E → ℕ → List E
  first_fold bivariate h = y_folds k.field k.gen k.extension k.embed (h - 1) bivariate (layer_of h)

  -- the codeword of a round
  abbrev pub round_word : E → List E → ℕ → List E
  round_word bivariate betas =
      let top = top_of matrices in
      let fold = first_fold bivariate in
      word_at k (heights_of matrices) fold (top - 1) (fold top) betas

  -- the codeword that the rounds end in where folding stops at 2^final coefficients
  abbrev pub last_word : ℕ → E → List E → List E
  last_word final bivariate betas =
      round_word bivariate betas (top_of matrices - 1 - blowup - final)

-- under some challenges that codeword is not the values of a polynomial with 2^final coefficients
pub record EndsHigh {F E : Type 0} (k : Fields F E) (blowup final : ℕ)
    (matrices : List (Committed F E)) : Type 0 where
  pub alpha : E
  pub bivariate : E
  pub betas : List E
  pub none :
      ¬ XSpan k.field k.gen k.extension k.embed final (blowup + final)
      (last_word k blowup matrices alpha final bivariate betas)

-- these rounds were played with the witnesses that searches find, which pass, and drew these
-- challenges
pub record HavePlayed {C S F E Com : Type 0} (r : RunMoves C S F E Com) (bits : ℕ) (begun now : S)
    (rounds : List (Com × F)) (betas : List (List F)) : Type 0 where
  pub found : AreFound r bits begun rounds
  pub played : play_rounds r bits begun rounds ≡ Ok (betas, now)

-- what was made and committed to are the codewords of an opening under the challenges that were
-- drawn
pub record AreWordsOf {F E Com D : Type 0} (k : Fields F E) (blowup final : ℕ)
    (Commits : List (RowMajorMatrix E) → Com → Type 0) (kept_of : D → List (RowMajorMatrix E))
    (matrices : List (Committed F E)) (w : CommittedWords F E Com D) : Type 0 where
  pub heights : w.heights.items ≡ heights_of matrices
  pub top : w.log_max_height ≡ top_of matrices
  pub lambdas :
      w.lambdas.items ≡ map (lambda k w.draws.alpha matrices blowup) (heights_of matrices)
  pub first_layer :
      AreCommitted Commits (map (layer_of k blowup matrices w.draws.alpha) (heights_of matrices))
      (kept_of w.first_kept) w.first_commitment
  pub shapes : HaveHeights (heights_of matrices) (kept_of w.first_kept)
  pub count : length w.commitments.items ≡ top_of matrices - 1 - blowup - final
  pub witnesses : length w.witnesses.rounds.items ≡ length w.commitments.items
  pub rounds :
      AreRounds Commits kept_of (round_word k blowup matrices w.draws.alpha w.draws.bivariate
      w.draws.betas.items) w.kept.items w.commitments.items
  pub final_poly :
      HasXValues k.field k.gen k.extension k.embed final (blowup + final)
      (round_word k blowup matrices w.draws.alpha w.draws.bivariate w.draws.betas.items
      (length w.commitments.items))
      w.final_poly.items

-- what a run absorbs, of its claims and of what was committed to
abbrev pub taken_in : {F E Com D : Type 0} → List (Claim E) → CommittedWords F E Com D
    → Taken F E Com
taken_in claims w =
    taken claims w.witnesses.batch w.first_commitment
    (zip w.commitments.items w.witnesses.rounds.items) w.final_poly.items w.witnesses.query

-- there is a matrix, and each leaves something to fold
abbrev pub AreTall : {F E M : Type 0} → FriParameters M → List (Committed F E) → Type 0
AreTall p matrices =
    (1 ≤ length matrices)
    × All (λ m. p.log_blowup + p.log_final_poly_len + 2 ≤ m.log_height) matrices

-- what layers, kept by a committer, fold into by y
abbrev pub folded_layers : {F E : Type 0} → Fields F E → E → List ℕ → List (RowMajorMatrix E)
    → List (List E)
folded_layers k bivariate heights layers = pairwise (y_folded k bivariate) heights (map rows layers)

-- whatever these codewords are folded from, by the heights
module _ {F E : Type 0} (k : Fields F E) (heights : List ℕ) (folded : List (Vec E Global)) where
  -- this is the codeword that follows one of 2^h entries
  abbrev pub Follows : ℕ → E → List E → List E → Type 0
  Follows h beta word next =
      (f : ℕ → List E) → map (λ w. w.items) folded ≡ map f heights →
      next ≡ next_word k heights f h beta word

  -- this is the codeword after `count` rounds that begin with one of 2^h entries
  abbrev pub EndsIn : ℕ → List E → List E → ℕ → List E → Type 0
  EndsIn h first betas count word =
      (f : ℕ → List E) → map (λ w. w.items) folded ≡ map f heights →
      word ≡ word_at k heights f h first betas count

  -- these are its rounds
  abbrev pub AreRoundsFrom : {S D Com : Type 0} → (List (RowMajorMatrix E) → Com → Type 0)
      → (D → List (RowMajorMatrix E)) → ℕ → List E → Rounds S E Com D → Type 0
  AreRoundsFrom Commits kept_of h first rounds =
      (f : ℕ → List E) → map (λ w. w.items) folded ≡ map f heights →
      AreRounds Commits kept_of (word_at k heights f h first rounds.betas.items) rounds.kept.items
      rounds.commitments.items

-- these rounds were played from the one transcript, which leaves the other
abbrev pub ArePlayed : {C F E Com D Side S : Type 0} {g d : _}
    → CircleTranscript C F E Com Side S g d → CircleTranscript C F E Com Side S g d
    → Rounds F E Com D → Type 0
ArePlayed old new rounds =
    HavePlayed (run_of old) (numbers old).commit_pow_bits (state_of old) (state_of new)
    (zip rounds.commitments.items rounds.witnesses.items)
    (map (run_of old).base.coefficients rounds.betas.items)

-- what was made are the codewords of these matrices, under parameters and the scheme of the
-- codewords
abbrev pub AreMade : {F E M Com D : Type 0} → Fields F E
    → (M → List (RowMajorMatrix E) → Com → Type 0) → (D → List (RowMajorMatrix E))
    → FriParameters M → List (Committed F E) → CommittedWords F E Com D → Type 0
AreMade k Commits kept_of p matrices words =
    AreWordsOf k p.log_blowup p.log_final_poly_len (Commits p.mmcs) kept_of matrices words

-- what was made are the codewords of some matrices that leave something to fold
abbrev pub AreSomeWords : {F E M Com D : Type 0} → Fields F E
    → (M → List (RowMajorMatrix E) → Com → Type 0) → (D → List (RowMajorMatrix E))
    → FriParameters M → CommittedWords F E Com D → Type 0
AreSomeWords {F = F} {E = E} k Commits kept_of p words =
    (matrices : List (Committed F E)) × AreTall p matrices
    × AreMade k Commits kept_of p matrices words
