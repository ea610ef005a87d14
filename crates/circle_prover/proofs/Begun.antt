-- The first layer of an opening once it is folded: what is known of its folds, and of the run.
use Rattle.std.specs.Prelude.{◌≡◌, ◌+◌, ◌-◌, ◌^◌, ◌++◌, [], ◌∷◌, ℕ, List, map, length, take, Vec}
use Rattle.std.specs.Prelude.{Ok, zip}
use Rattle.std.specs.declared.alloc.Global.{Global}
use Rattle.std.proofs.Common.{refl, sym, ap, ◌∙◌, arith}
use Rattle.std.proofs.lemmas.Slice.Zip.{length-zip}
use Rattle.circle_commit.specs.Mmcs.{greatest}
use Rattle.circle_commit.specs.declared.matrix.RowMajorMatrix.{RowMajorMatrix}
use Rattle.circle_commit.specs.declared.params.PowPhase.TheVariants.{CommitPhase, Query}
use Rattle.circle_challenger.specs.Moves.{after_element}
use Rattle.circle_transcript.proofs.Drawn.{AtQuery, AtRounds, all_drawn, at_query, batch_drawn}
use Rattle.circle_transcript.proofs.Drawn.{drawn_parts, layer_drawn, rounds_begin}
use Rattle.circle_transcript.proofs.Phases.{told}
use Rattle.circle_transcript.specs.Draw.{Claim, Taken, after_final_poly, draw_seeded, layered}
use Rattle.circle_transcript.specs.Draw.{taken}
use Rattle.circle_transcript.specs.Runs.{NonePasses}
use Rattle.circle_transcript.specs.Transcript.{numbers, query_from, run_of, state_of, IsSame}
use Rattle.circle_transcript.specs.declared.transcript.CircleTranscript.{CircleTranscript}
use Rattle.circle_prover.specs.Failure.{Begins, FindsNone, IsStuckAfter}
use Rattle.circle_prover.specs.Folding.{AreRoundsOver, IsBegun, IsFoldedLayer, fold_of, rounds_due}
use Rattle.circle_prover.specs.Folding.{word_of}
use Rattle.circle_prover.specs.OfFoldable.{seen}
use Rattle.circle_prover.specs.Words.{ArePlayed, top_of, word_at}
use Rattle.circle_prover.specs.declared.first_layer.FoldedLayer.{FoldedLayer}
use Rattle.circle_prover.specs.declared.foldable.FoldableMatrices.{FoldableMatrices}
use Rattle.circle_prover.specs.declared.rounds.Rounds.{Rounds}
use Rattle.circle_prover.proofs.Growing.{words_committed}
use Rattle.circle_prover.proofs.Stuck.{rounds-moved, stuck-moved, stuck-query}
use Rattle.circle_prover.proofs.TallMatrices.{tall-seen, top-is, top-tall}
use Rattle.circle_prover.proofs.Tops.{front-of, heights-end, lower, split-last, words-alike}

module _ {F E M Com D : Type 0} {over g : _} (o : FoldableMatrices F E M over g)
    (Commits : M → List (RowMajorMatrix E) → Com → Type 0) (kept_of : D → List (RowMajorMatrix E))
    (l : FoldedLayer F E Com D) (tallest : List E)
    (layer : IsFoldedLayer o Commits kept_of l tallest) where
  ends : l.layer.heights.items ≡ lower (seen o) ++ top_of (seen o) ∷ []
  ends = layer.heights ∙ heights-end (seen o) (tall-seen o).0

  split : (map (λ w. w.items) l.joining.items ≡ map (fold_of o l) (lower (seen o)))
      × (tallest ≡ fold_of o l (top_of (seen o)))
  split =
      split-last (fold_of o l) (map (λ (w : Vec E Global). w.items) l.joining.items) tallest
      (lower (seen o)) (top_of (seen o))
      (layer.folds ∙ ap (map (fold_of o l)) (heights-end (seen o) (tall-seen o).0))

  lengths : (map (λ w. length w.items) l.joining.items ≡ map (λ h. 2 ^ (h - 1)) (lower (seen o)))
      × (length tallest ≡ 2 ^ (top_of (seen o) - 1))
  lengths =
      split-last (λ h. 2 ^ (h - 1)) (map (λ (w : Vec E Global). length w.items) l.joining.items)
      (length tallest) (lower (seen o)) (top_of (seen o))
      (layer.lengths ∙ ap (map (λ h. 2 ^ (h - 1))) (heights-end (seen o) (tall-seen o).0))

  -- the heights but for the greatest, what joins there, and the greatest, by what is at hand of
  -- them: how long the codewords are, what joins, what the rounds' codewords are, and how many
  pub record AreAtHand (hs : List ℕ) (joining : List (Vec E Global)) (high : ℕ) : Type 0 where
    pub lengths : map (λ w. length w.items) joining ≡ map (λ h. 2 ^ (h - 1)) hs
    pub first : length tallest ≡ 2 ^ (high - 1)
    pub are : map (λ w. w.items) joining ≡ map (fold_of o l) hs
    pub alike : (betas : List E) (n : ℕ)
        → word_at over.fields hs (fold_of o l) (high - 1) tallest betas n ≡ word_of o l betas n
    pub count :
        high - 1 - (o.params.now.log_blowup + o.params.now.log_final_poly_len) ≡ rounds_due o

  pub at-hand : (all : List ℕ) (count high : ℕ) (joining : List (Vec E Global)) →
      all ≡ l.layer.heights.items → count ≡ length l.layer.heights.items →
      joining ≡ l.joining.items → high ≡ greatest (map (λ m. m.log_height) o.matrices.now) →
      AreAtHand (take (count - 1) all) joining high
  at-hand all count high joining same long joins is =
      let lowest : take (count - 1) all ≡ lower (seen o) =
      front-of all count (lower (seen o)) (top_of (seen o)) (same ∙ ends) (long ∙ ap length ends) in
      let top : high ≡ top_of (seen o) = is ∙ top-is o in
      record {
        lengths = ap (map (λ w. length w.items)) joins ∙ lengths.0
            ∙ ap (map (λ h. 2 ^ (h - 1))) (sym lowest);
        first = lengths.1 ∙ ap (λ h. 2 ^ (h - 1)) (sym top);
        are = ap (map (λ w. w.items)) joins ∙ split.0 ∙ ap (map (fold_of o l)) (sym lowest);
        alike =
            words-alike over.fields o.params.now.log_blowup (seen o) l.alpha l.bivariate _ high
            tallest (tall-seen o).0 (let tall = top-tall o in omega (arith, tall)) lowest top
            split.1;
        count = omega (arith, top);
      }

  -- a run over claims that has come to its rounds
  module _ {C Side S : Type 0} {h d : _} (old mid : CircleTranscript C F E Com Side S h d)
      (claims : List (Claim E)) (begun : IsBegun old mid claims l) (same : IsSame old mid) where
    -- what it absorbs, with what it absorbs in its rounds and after them
    abbrev pub absorbed : List (Com × F) → List E → F → Taken F E Com
    absorbed = taken claims l.witness l.layer.commitment

    module _ (rounds : List (Com × F)) (last : List E) (query : F) where
      at-rounds :
          AtRounds (run_of old) (numbers old) (absorbed rounds last query) (state_of old)
          ((run_of old).base.coefficients l.alpha) ((run_of old).base.coefficients l.bivariate)
          (numbers mid) (state_of mid)
      at-rounds = record {
        same = same.shape;
        after = begun.after;
        batch = begun.batch;
        layer = begun.layer;
      }

      begins :
          Begins (run_of old) (Commits o.params.now.mmcs) over.fields o.params.now (seen o)
          (numbers old) claims (state_of old) (absorbed rounds last query) l.alpha l.bivariate
      begins = record {
        same = refl;
        found = begun.found;
        batching = batch_drawn (run_of old) (numbers old) (absorbed rounds last query)
            (state_of old) _ _ _ _ at-rounds;
        first_layer = (kept_of l.layer.kept, layer.committed);
        folding = layer_drawn (run_of old) (numbers old) (absorbed rounds last query)
            (state_of old) _ _ _ _ at-rounds;
      }

      begun-is : state_of mid
          ≡ after_element (run_of old).base
          (layered (run_of old) (numbers old) (absorbed rounds last query) (state_of old))
      begun-is = rounds_begin (run_of old) (numbers old) (absorbed rounds last query)
          (state_of old) _ _ _ _ at-rounds

    -- where a round is stuck the run is
    pub stuck-in-rounds : IsStuckAfter (run_of old) (Commits o.params.now.mmcs)
        (numbers mid).commit_pow_bits (state_of mid) (word_of o l) (rounds_due o) →
        FindsNone (run_of old) (Commits o.params.now.mmcs) over.fields o.params.now (seen o)
        (numbers old) claims (state_of old) CommitPhase
    stuck-in-rounds stuck = record {
      taken = absorbed [] [] l.witness;
      alpha = l.alpha;
      bivariate = l.bivariate;
      begins = begins [] [] l.witness;
      stuck = stuck-moved (run_of old) (Commits o.params.now.mmcs) (numbers old) (numbers mid) _ _
          _ _ _ _ same.shape (begun-is [] [] l.witness) refl (λ betas i. refl) stuck;
    }

    -- once its rounds are played
    module _ (now : CircleTranscript C F E Com Side S h d) (made : Rounds F E Com D)
        (last : List E) (known : AreRoundsOver o Commits kept_of l made last)
        (played : ArePlayed mid now made) (same' : IsSame mid now) where
      at-queries : (query : F) →
          AtQuery (run_of old) (numbers old) (absorbed (zip made.commitments.items
          made.witnesses.items) last query) (state_of old)
          ((run_of old).base.coefficients l.alpha) ((run_of old).base.coefficients l.bivariate)
          (map (run_of old).base.coefficients made.betas.items) (numbers now) (state_of now)
      at-queries query =
          at_query (run_of old) (numbers old) _ (state_of old) _ _ _ (numbers now) _ _ _
          (at-rounds (zip made.commitments.items made.witnesses.items) last query) same'.shape
          played.played

      -- where the queries are stuck the run is
      pub stuck-in-query : NonePasses (run_of old).base
          (after_final_poly (run_of old).base (state_of now) last) (numbers now).query_pow_bits →
          FindsNone (run_of old) (Commits o.params.now.mmcs) over.fields o.params.now (seen o)
          (numbers old) claims (state_of old) Query
      stuck-in-query none =
          let r = run_of old in
          let rounds = zip made.commitments.items made.witnesses.items in
          let word = word_of o l in
          let long : length rounds ≡ rounds_due o =
          (let e = length-zip made.commitments.items made.witnesses.items in
          omega (arith, e, known.count, known.witnesses)) in
          stuck-query r (Commits o.params.now.mmcs) over.fields o.params.now (seen o) (numbers old)
          claims (state_of old) (absorbed rounds last l.witness) l.alpha l.bivariate
          (begins rounds last l.witness) made.betas.items _ _ _ _ _ (at-queries l.witness)
          (rounds-moved r (Commits o.params.now.mmcs) (numbers old) (numbers mid) _ _ word word
          rounds made.betas.items same.shape (begun-is rounds last l.witness) (λ i. refl) (record {
            found = played.found;
            drawn = (told r _ _ _ rounds _ played.played).challenges;
            committed = words_committed (Commits o.params.now.mmcs) kept_of
                (word made.betas.items) made.kept.items made.commitments.items
                made.witnesses.items known.committed;
          })) long known.final_poly none

      -- where they are drawn, so is all
      pub all-drawn : (query : F) (indices : List ℕ) (end : S) →
          query_from now last query ≡ Ok (indices, end) →
          draw_seeded (run_of old) (numbers old)
          (absorbed (zip made.commitments.items made.witnesses.items) last query) (state_of old)
          ≡ Ok (drawn_parts ((run_of old).base.coefficients l.alpha)
          ((run_of old).base.coefficients l.bivariate)
          (map (run_of old).base.coefficients made.betas.items) indices end)
      all-drawn query indices end drawn =
          all_drawn (run_of old) (numbers old) _ (state_of old) _ _ _ _ _ (at-queries query) indices
          end drawn
