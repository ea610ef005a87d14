-- Where a run comes to a proof of work that no witness passes.
use Rattle.std.specs.Prelude.{◌≡◌, ℕ, ◌+◌, ◌-◌, ◌<◌, Ok, Result, [], ◌∷◌, length}
use Rattle.std.proofs.Common.{List, sym, ap, ◌∙◌, subst}
use Rattle.circle_challenger.specs.Moves.{RunMoves}
use Rattle.circle_domain.specs.Spans.{HasXValues}
use Rattle.circle_commit.specs.declared.matrix.RowMajorMatrix.{RowMajorMatrix}
use Rattle.circle_commit.specs.declared.params.FriParameters.{FriParameters}
use Rattle.circle_commit.specs.declared.params.PowPhase.{PowPhase}
use Rattle.circle_commit.specs.declared.params.PowPhase.TheVariants.{Query}
use Rattle.circle_relation.specs.Accepts.{Fields}
use Rattle.circle_transcript.specs.Draw.{Claim, Taken, after_final_poly, after_rounds, closed}
use Rattle.circle_transcript.specs.Draw.{Drawn, draw, draw_seeded}
use Rattle.circle_transcript.specs.Runs.{NonePasses, drawn_of}
use Rattle.circle_transcript.specs.declared.run.CircleDraws.{CircleDraws}
use Rattle.circle_transcript.specs.Shape.{Shape}
use Rattle.circle_transcript.specs.declared.transcript.Numbers.{Numbers}
use Rattle.circle_transcript.proofs.Drawn.{AtQuery, rounds_told}
use Rattle.circle_codewords.specs.Words.{Committed, pairs_of}
use Rattle.circle_prover.specs.Failure.{AreRoundsOf, Begins, FindsNone, IsStuckAfter, before_rounds}
use Rattle.circle_prover.specs.Words.{IsCommitmentOf, round_word, top_of}

module _ {C S F E Com : Type 0} (r : RunMoves C S F E Com) (Commits : List (RowMajorMatrix E) →
    Com → Type 0) where
  -- rounds whose codewords are given by another name, from a state that is
  pub rounds-moved : (n m : Numbers) (now then : S) (word next : List E → ℕ → List E)
      (rounds : List (Com × F)) (betas : List E) → m ≡ n → now ≡ then →
      ((i : ℕ) → word betas i ≡ next betas i)
      → AreRoundsOf r Commits m.commit_pow_bits now word rounds betas →
      AreRoundsOf r Commits n.commit_pow_bits then next rounds betas
  rounds-moved n m now then word next rounds betas same state alike are =
      subst (λ (v : Numbers). AreRoundsOf r Commits v.commit_pow_bits then next rounds betas) same
      (subst (λ t. AreRoundsOf r Commits m.commit_pow_bits t next rounds betas) state (record {
        found = are.found;
        drawn = are.drawn;
        committed = λ i round got. subst (λ w. IsCommitmentOf Commits (pairs_of w ∷ []) round.0)
            (alike i) (are.committed i round got);
      }))

  -- where one of them is stuck
  pub stuck-moved : (n m : Numbers) (now then : S) (word next : List E → ℕ → List E)
      (count more : ℕ) → m ≡ n → now ≡ then → count ≡ more →
      ((betas : List E) (i : ℕ) → word betas i ≡ next betas i)
      → IsStuckAfter r Commits m.commit_pow_bits now word count →
      IsStuckAfter r Commits n.commit_pow_bits then next more
  stuck-moved n m now then word next count more same state counted alike stuck = record {
    rounds = stuck.rounds;
    betas = stuck.betas;
    played = rounds-moved n m now then word next stuck.rounds stuck.betas same state
        (alike stuck.betas) stuck.played;
    fewer = subst (λ c. length stuck.rounds < c) counted stuck.fewer;
    commitment = stuck.commitment;
    next = subst (λ w. IsCommitmentOf Commits (pairs_of w ∷ []) stuck.commitment)
        (alike stuck.betas (length stuck.rounds)) stuck.next;
    none =
        subst
        (λ (v : Numbers). NonePasses r.base
        (r.after_commitment (after_rounds r v.commit_pow_bits then stuck.rounds) stuck.commitment)
        v.commit_pow_bits) same
        (subst
        (λ t. NonePasses r.base
        (r.after_commitment (after_rounds r m.commit_pow_bits t stuck.rounds) stuck.commitment)
        m.commit_pow_bits) state stuck.none);
  }

  module _ {M : Type 0} (k : Fields F E) (p : FriParameters M) (ms : List (Committed F E))
      (n : Numbers) (claims : List (Claim E)) (s : S) (t : Taken F E Com) (alpha bivariate : E)
      (begins : Begins r Commits k p ms n claims s t alpha bivariate) where
    -- before the queries
    pub stuck-query : (betas : List E) (first second : List F) (drawn : List (List F))
        (m : Numbers) (now : S) → AtQuery r n t s first second drawn m now
        → AreRoundsOf r Commits n.commit_pow_bits (before_rounds r Commits k p ms n claims s t)
        (round_word k p.log_blowup ms alpha bivariate) t.rounds betas
        → length t.rounds ≡ top_of ms - 1 - p.log_blowup - p.log_final_poly_len
        → HasXValues k.field k.gen k.extension k.embed p.log_final_poly_len
        (p.log_blowup + p.log_final_poly_len)
        (round_word k p.log_blowup ms alpha bivariate betas
        (top_of ms - 1 - p.log_blowup - p.log_final_poly_len)) t.final_poly
        → NonePasses r.base (after_final_poly r.base now t.final_poly) m.query_pow_bits →
        FindsNone r Commits k p ms n claims s Query
    stuck-query betas first second drawn m now at played all final none = record {
      taken = t;
      alpha = alpha;
      bivariate = bivariate;
      betas = betas;
      begins = begins;
      played = played;
      all = all;
      final_poly = final;
      none = subst (λ (v : Numbers). NonePasses r.base (closed r n t s) v.query_pow_bits) at.same
          (subst (λ a. NonePasses r.base a m.query_pow_bits)
          (ap (λ a. after_final_poly r.base a t.final_poly)
          (rounds_told r n t s first second drawn m now at).state) none);
    }

-- a run that was drawn, told of its beginning and its end by other names
pub drawn-moved : {C S F E Com : Type 0} (r : RunMoves C S F E Com) (n m : Numbers)
    (t : Taken F E Com) (s u : S) (coefficients : E → List F) (d : CircleDraws E) (state : C → S)
    (a b : C) →
    n ≡ m → s ≡ u → a ≡ b → draw_seeded r n t s ≡ Ok (drawn_of coefficients d (state b)) →
    draw_seeded r m t u ≡ Ok (drawn_of coefficients d (state a))
drawn-moved r n m t s u coefficients d state a b numbers begun ended drawn =
    ap (λ v. draw_seeded r v t u) (sym numbers) ∙ ap (draw_seeded r n t) (sym begun) ∙ drawn
    ∙ ap (λ c. Ok (drawn_of coefficients d (state c))) (sym ended)

-- a run of a shape that is given by another name, which absorbs what is given so too
pub draw-moved : {C S F E Com : Type 0} (r : RunMoves C S F E Com) (a b : Shape)
    (t u : Taken F E Com) (s : S) (x : Result (Drawn S F) PowPhase) → a ≡ b → t ≡ u →
    draw r a t s ≡ x → draw r b u s ≡ x
draw-moved r a b t u s x shape same drawn =
    subst (λ v. draw r b v s ≡ x) same (subst (λ v. draw r v t s ≡ x) shape drawn)
