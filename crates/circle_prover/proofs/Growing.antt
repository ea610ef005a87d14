-- Codewords and rounds that are pushed one after another.
use Rattle.std.specs.Prelude.{◌≡◌, ℕ, ◌+◌, ◌-◌, ◌/◌, ◌%◌, ◌^◌, ◌<◌, ◌≤◌, ◌++◌, List, [], ◌∷◌}
use Rattle.std.specs.Prelude.{length, map, zip, All, Ok, Some, slice_get, slice_index_or}
use Rattle.std.proofs.Common.{zero, suc, inl, inr, refl, sym, ◌∙◌, ap, subst, arith}
use Rattle.std.proofs.lemmas.Bool.{cases_lt}
use Rattle.std.proofs.lemmas.List.{length_push, get_or_append_left}
use Rattle.std.proofs.lemmas.List.Elements.{All-push, All-nil}
use Rattle.std.proofs.lemmas.Nat.{pow_pos}
use Rattle.std.proofs.lemmas.Option.{slice_get_within, same_Some}
use Rattle.std.proofs.Math.Seq.{get_or-append_seam}
use Rattle.circle_challenger.specs.Moves.{RunMoves, found_at}
use Rattle.circle_commit.specs.RowFacts.{length-rows_from}
use Rattle.circle_commit.specs.RowMajorMatrix.{rows}
use Rattle.circle_commit.specs.declared.matrix.RowMajorMatrix.{RowMajorMatrix}
use Rattle.circle_relation.specs.Accepts.{Fields}
use Rattle.circle_transcript.specs.Draw.{AreFound, after_round, after_rounds, commit_round}
use Rattle.circle_transcript.specs.Draw.{play_rounds}
use Rattle.circle_transcript.specs.Runs.{NonePasses}
use Rattle.circle_transcript.proofs.Phases.{told}
use Rattle.circle_transcript.proofs.Runs.{rounds_more as one_more, zip-append}
use Rattle.circle_codewords.specs.Words.{next_word, pairs_of}
use Rattle.circle_codewords.proofs.Pairs.{twice-half}
use Rattle.circle_prover.specs.Failure.{IsStuckAfter}
use Rattle.circle_prover.specs.Words.{AreCommitted, AreRounds, HavePlayed, IsCommitmentOf, word_at}

-- what holds of the only value holds of all
pub all_of_one : {A : Type 0} (P : A → Type 0) (x : A) (xs : List A) → xs ≡ x ∷ [] → P x → All P xs
all_of_one P x xs is p = subst (All P) (sym is) (All-push P [] x (All-nil P) p)

-- half of a power of two
pub half_power : (h n : ℕ) → 1 ≤ h → n ≡ 2 ^ h → n / 2 ≡ 2 ^ (h - 1)
half_power h n positive is = let even = twice-half h positive in omega (arith, is, even)

-- a power of two of a positive exponent is at least 2
pub even_power : (h n : ℕ) → 1 ≤ h → n ≡ 2 ^ h → 2 ≤ n
even_power h n positive is =
    let even = twice-half h positive in
    let least : 1 ≤ 2 ^ (h - 1) = omega (arith, pow_pos (h - 1)) in
    omega (arith, is, even, least)

-- a power of two that isn't 1 has a positive exponent
pub positive_power : (m n : ℕ) → n ≡ 2 ^ m → 2 ≤ n → 1 ≤ m
positive_power zero n is even = absurd (omega (arith, is, even))
positive_power (suc m) n is even = omega arith

-- and is made of pairs
pub whole_pairs : (m n : ℕ) → n ≡ 2 ^ m → 2 ≤ n → n % 2 ≡ 0
whole_pairs m n is even = let half = twice-half m (positive_power m n is even) in
    omega (arith, is, half)

-- a codeword of a power of two has half as many pairs
pub length-pairs_of : {E : Type 0} (word : List E) (h : ℕ) → 1 ≤ h → length word ≡ 2 ^ h →
    length (pairs_of word) ≡ 2 ^ (h - 1)
length-pairs_of word h positive is = length-rows_from 2 (length word / 2) word
    ∙ half_power h (length word) positive is

-- of matrices that have one list of rows together, the first has it
pub first_rows : {E : Type 0} (matrices : List (RowMajorMatrix E)) (word : List (List E))
    (d : RowMajorMatrix E) → map rows matrices ≡ word ∷ [] → rows (slice_index_or matrices 0 d)
    ≡ word
first_rows [] word d is = let none : 0 ≡ 1 = ap length is in absurd (omega (arith, none))
first_rows (m ∷ ms) word d is = ap (λ v. slice_index_or v 0 word) is

module _ {F E : Type 0} (k : Fields F E) (heights : List ℕ) (folded : ℕ → List E) (h : ℕ)
    (first : List E) where
  -- a later challenge leaves the codewords before it
  pub word_at-kept : (betas : List E) (b : E) (n : ℕ) → n ≤ length betas →
      word_at k heights folded h first (betas ++ b ∷ []) n
      ≡ word_at k heights folded h first betas n
  word_at-kept betas b zero within = refl
  word_at-kept betas b (suc n) within =
      ap
      (λ x. next_word k heights folded (h - n) x
      (word_at k heights folded h first (betas ++ b ∷ []) n))
      (get_or_append_left betas (b ∷ []) k.extension.zero n (omega (arith, within)))
      ∙ ap (next_word k heights folded (h - n) (slice_index_or betas n k.extension.zero))
      (word_at-kept betas b n (omega (arith, within)))

  -- it gives the next codeword
  pub word_at-next : (betas pushed : List E) (b : E) (n : ℕ) (word : List E) → pushed ≡ betas ++ b
      ∷ [] → length betas ≡ n → word ≡ word_at k heights folded h first betas n
      → next_word k heights folded (h - n) b word ≡ word_at k heights folded h first pushed (n + 1)
  word_at-next betas pushed b n word more count is =
      let after : n + 1 ≡ suc n = omega arith in
      let here : slice_index_or (betas ++ b ∷ []) n k.extension.zero ≡ b =
      ap (λ i. slice_index_or (betas ++ b ∷ []) i k.extension.zero) (sym count)
      ∙ get_or-append_seam betas b [] k.extension.zero in
      ap (next_word k heights folded (h - n) b)
      (is ∙ sym (word_at-kept betas b n (omega (arith, count))))
      ∙ ap
      (λ x. next_word k heights folded (h - n) x
      (word_at k heights folded h first (betas ++ b ∷ []) n)) (sym here)
      ∙ ap (λ bs. word_at k heights folded h first bs (suc n)) (sym more)
      ∙ ap (word_at k heights folded h first pushed) (sym after)

module _ {A : Type 0} where
  -- the values before a pushed one
  slice_get-kept : (xs : List A) (x : A) (n : ℕ) → n < length xs → slice_get (xs ++ x ∷ []) n
      ≡ slice_get xs n
  slice_get-kept [] x n within = absurd (omega (arith, within))
  slice_get-kept (y ∷ xs) x zero within = refl
  slice_get-kept (y ∷ xs) x (suc n) within = slice_get-kept xs x n (omega (arith, within))

  -- the pushed value
  slice_get-last : (xs : List A) (x : A) → slice_get (xs ++ x ∷ []) (length xs) ≡ Some x
  slice_get-last [] x = refl
  slice_get-last (y ∷ xs) x = slice_get-last xs x

  -- what stands in its place is the pushed value
  last_is : (xs : List A) (x y : A) (n : ℕ) → n ≡ length xs → slice_get (xs ++ x ∷ []) n ≡ Some y →
      x ≡ y
  last_is xs x y n is got =
      let last = slice_get-last xs x in
      let moved : slice_get (xs ++ x ∷ []) n ≡ slice_get (xs ++ x ∷ []) (length xs) =
      ap (slice_get (xs ++ x ∷ [])) is in
      same_Some x y (sym last ∙ sym moved ∙ got)

module _ {E D Com : Type 0} (Commits : List (RowMajorMatrix E) → Com → Type 0) (matrices : D →
    List (RowMajorMatrix E)) where
  -- no rounds
  pub rounds_begun : (word : ℕ → List E) (kept : List D) (commitments : List Com) → kept ≡ [] →
      commitments ≡ [] → AreRounds Commits matrices word kept commitments
  rounds_begun word kept commitments none none_too = record {
    count = ap length none ∙ sym (ap length none_too);
    each = λ n d commitment is_d is_c. let within = slice_get_within kept n d is_d in
        let empty : length kept ≡ 0 = ap length none in absurd (omega (arith, within, empty));
  }

  -- one more round
  pub rounds_more : (word next : ℕ → List E) (here : List E) (kept kept' : List D)
      (commitments commitments' : List Com) (d : D) (commitment : Com)
      → kept' ≡ kept ++ d ∷ [] → commitments' ≡ commitments ++ commitment ∷ []
      → ((n : ℕ) → n ≤ length commitments → next n ≡ word n) → here ≡ word (length commitments)
      → AreRounds Commits matrices word kept commitments →
      AreCommitted Commits (pairs_of here ∷ []) (matrices d) commitment
      → AreRounds Commits matrices next kept' commitments'
  rounds_more word next here kept kept' commitments commitments' d commitment is_kept is_commitments
      same is_here before last =
      let count : length kept' ≡ length commitments' =
      ap length is_kept ∙ length_push kept d ∙ ap (λ n. n + 1) before.count
      ∙ sym (ap length is_commitments ∙ length_push commitments commitment) in
      record {
        count = count;
        each = λ n e c is_e is_c.
            let at_e = ap (λ v. slice_get v n) (sym is_kept) ∙ is_e in
            let at_c = ap (λ v. slice_get v n) (sym is_commitments) ∙ is_c in
            elim (cases_lt n (length commitments)) [
              | inl low ↦
                  let low_too : n < length kept = omega (arith, low, before.count) in
                  subst (λ w. AreCommitted Commits (pairs_of w ∷ []) (matrices e) c)
                  (sym (same n (omega (arith, low))))
                  (before.each n e c (sym (slice_get-kept kept d n low_too) ∙ at_e)
                  (sym (slice_get-kept commitments commitment n low) ∙ at_c))
              | inr high ↦
                  let within = slice_get_within (commitments ++ commitment ∷ []) n c at_c in
                  let size = length_push commitments commitment in
                  let end : n ≡ length commitments = omega (arith, high, within, size) in
                  let end_too : n ≡ length kept = end ∙ sym before.count in
                  let is_word : here ≡ next n = is_here ∙ ap word (sym end)
                  ∙ sym (same n (omega (arith, end))) in
                  subst (λ w. AreCommitted Commits (pairs_of w ∷ []) (matrices e) c) is_word
                  (subst (λ v. AreCommitted Commits (pairs_of here ∷ []) (matrices v) c)
                  (last_is kept d e n end_too at_e)
                  (subst (λ v. AreCommitted Commits (pairs_of here ∷ []) (matrices d) v)
                  (last_is commitments commitment c n end at_c) last))
            ];
      }

-- what stands beside a value
beside : {A B : Type 0} (xs : List A) (ys : List B) (i : ℕ) (pair : A × B) → slice_get (zip xs ys) i
    ≡ Some pair → slice_get xs i ≡ Some pair.0
beside [] ys i pair got = let within = slice_get_within [] i pair got in
    absurd (omega (arith, within))
beside (x ∷ xs) [] i pair got = let within = slice_get_within [] i pair got in
    absurd (omega (arith, within))
beside (x ∷ xs) (y ∷ ys) zero pair got = ap (λ p. Some p.0) (same_Some (x, y) pair got)
beside (x ∷ xs) (y ∷ ys) (suc i) pair got = beside xs ys i pair got

-- what stands at a place
there : {A : Type 0} (xs : List A) (i : ℕ) → i < length xs → (x : A) × (slice_get xs i ≡ Some x)
there [] i within = absurd (omega (arith, within))
there (x ∷ xs) zero within = (x, refl)
there (x ∷ xs) (suc i) within = there xs i (omega (arith, within))

-- each round's commitment is of its codeword
pub words_committed : {E F D Com : Type 0} (Commits : List (RowMajorMatrix E) → Com → Type 0)
    (matrices : D → List (RowMajorMatrix E)) (word : ℕ → List E) (kept : List D)
    (commitments : List Com) (witnesses : List F)
    → AreRounds Commits matrices word kept commitments → (i : ℕ) (round : Com × F) →
    slice_get (zip commitments witnesses) i ≡ Some round →
    IsCommitmentOf Commits (pairs_of (word i) ∷ []) round.0
words_committed Commits matrices word kept commitments witnesses are i round got =
    let here = beside commitments witnesses i round got in
    let within = slice_get_within commitments i round.0 here in
    let d = there kept i (omega (arith, within, are.count)) in
    (matrices d.0, are.each i d.0 round.0 d.1 here)

module _ {C S F E Com : Type 0} (r : RunMoves C S F E Com) (bits : ℕ) where
  found-append : (s : S) (us vs : List (Com × F)) → AreFound r bits s us →
      AreFound r bits (after_rounds r bits s us) vs → AreFound r bits s (us ++ vs)
  unfolding after_rounds
  found-append s [] vs first rest = rest
  found-append s (a ∷ us) vs first rest =
      (first.0, found-append (after_round r bits s a) us vs first.1 rest)

module _ {C S F E Com : Type 0} (r : RunMoves C S F E Com) (bits : ℕ) (begun now : S) where
  -- no rounds were played
  pub played_begun : (commitments : List Com) (witnesses : List F) (ys : List (List F)) →
      commitments ≡ [] → ys ≡ [] → HavePlayed r bits now now (zip commitments witnesses) ys
  unfolding play_rounds
  played_begun commitments witnesses ys none none_too =
      let empty : zip commitments witnesses ≡ [] = ap (λ v. zip v witnesses) none in
      record {
        found = subst (AreFound r bits now) (sym empty) tt;
        played = ap (play_rounds r bits now) empty ∙ ap (λ v. Ok (v, now)) (sym none_too);
      }

  -- one more round was played
  pub played_more : (commitments commitments' : List Com) (witnesses witnesses' : List F)
      (commitment : Com) (witness : F) (ys zs : List (List F)) (y : List F) (after : S) (b : ℕ)
      → length commitments ≡ length witnesses → commitments' ≡ commitments ++ commitment ∷ [] →
      witnesses' ≡ witnesses ++ witness ∷ [] → b ≡ bits
      → HavePlayed r bits begun now (zip commitments witnesses) ys →
      found_at r.base (r.after_commitment now commitment) b ≡ Some witness →
      commit_round r b now commitment witness ≡ Ok (y, after) → zs ≡ ys ++ y ∷ []
      → HavePlayed r bits begun after (zip commitments' witnesses') zs
  played_more commitments commitments' witnesses witnesses' commitment witness ys zs y after b
      paired is_commitments is_witnesses same before found drawn pushed =
      let more : zip commitments' witnesses' ≡ zip commitments witnesses ++ (commitment, witness) ∷
      [] =
      ap (λ v. zip v witnesses') is_commitments
      ∙ ap (zip (commitments ++ commitment ∷ [])) is_witnesses
      ∙ zip-append commitments (commitment ∷ []) witnesses (witness ∷ []) paired in
      let known = told r bits begun now (zip commitments witnesses) ys before.played in
      let last : found_at r.base
      (r.after_commitment (after_rounds r bits begun (zip commitments witnesses)) commitment)
      bits ≡ Some witness =
      subst
      (λ k. found_at r.base
      (r.after_commitment (after_rounds r bits begun (zip commitments witnesses)) commitment) k
      ≡ Some witness) same
      (subst (λ t. found_at r.base (r.after_commitment t commitment) b ≡ Some witness) known.state
      found) in
      record {
        found =
            subst (AreFound r bits begun) (sym more)
            (found-append r bits begun (zip commitments witnesses) ((commitment, witness) ∷ [])
            before.found (last, tt));
        played = one_more r bits begun now (zip commitments witnesses) ys (commitment, witness) b
            same before.played (zip commitments' witnesses') zs y after more drawn pushed;
      }

  -- where none passes after the commitment of the next codeword
  module _ (Commits : List (RowMajorMatrix E) → Com → Type 0) (word : List E → ℕ → List E)
      (count : ℕ) (rounds : List (Com × F)) (betas : List E) (b : ℕ) where
    pub stuck_after : b ≡ bits → HavePlayed r bits begun now rounds (map r.base.coefficients betas)
        →
        ((i : ℕ) (round : Com × F) → slice_get rounds i ≡ Some round →
        IsCommitmentOf Commits (pairs_of (word betas i) ∷ []) round.0)
        → length rounds < count → (here : List E) → here ≡ word betas (length rounds)
        → (commitment : Com) → IsCommitmentOf Commits (pairs_of here ∷ []) commitment →
        NonePasses r.base (r.after_commitment now commitment) b →
        IsStuckAfter r Commits bits begun word count
    stuck_after same before committed fewer here is commitment next none =
        let known = told r bits begun now rounds (map r.base.coefficients betas) before.played in
        record {
          rounds = rounds;
          betas = betas;
          played = record { found = before.found; drawn = known.challenges; committed = committed };
          fewer = fewer;
          commitment = commitment;
          next = subst (λ w. IsCommitmentOf Commits (pairs_of w ∷ []) commitment) is next;
          none =
              subst
              (λ k. NonePasses r.base
              (r.after_commitment (after_rounds r bits begun rounds) commitment) k) same
              (subst (λ t. NonePasses r.base (r.after_commitment t commitment) b) known.state none);
        }
