-- How much a run draws.
use Rattle.std.specs.Prelude.{◌≡◌, ℕ, Bool, true, false, if◌then◌else◌, List, [], ◌∷◌, length, Ok}
use Rattle.std.specs.Prelude.{Err}
use Rattle.std.proofs.Common.{suc, refl, sym, ap, ◌∙◌}
use Rattle.circle_challenger.specs.Moves.{RunMoves, after_element, is_passed}
use Rattle.circle_challenger.proofs.Draws.{length-samples}
use Rattle.circle_commit.specs.declared.params.PowPhase.TheVariants.{Batch, CommitPhase, Query}
use Rattle.circle_transcript.specs.Draw.{Drawn, Taken, after_round, claimed, closed, draw_seeded}
use Rattle.circle_transcript.specs.Draw.{drawn, fold_challenges, layered, rounds_pass}
use Rattle.circle_transcript.specs.declared.transcript.Numbers.{Numbers}
use Rattle.circle_transcript.proofs.Phases.{draw_is}

-- what is drawn
pick : {S F : Type 0} (a b c : Bool) (d x : Drawn S F) →
    (if a then (if b then (if c then Ok d else Err Query) else Err CommitPhase) else Err Batch)
    ≡ Ok x → x ≡ d
pick true true true d x is = cc
pick true true false d x is = cc
pick true false c d x is = cc
pick false b c d x is = cc

module _ {C S F E Com : Type 0} (m : RunMoves C S F E Com) where
  length-fold_challenges : (bits : ℕ) (s : S) (rounds : List (Com × F)) →
      length (fold_challenges m bits s rounds) ≡ length rounds
  unfolding fold_challenges
  length-fold_challenges bits s [] = refl
  length-fold_challenges bits s (round ∷ rounds) =
      ap suc (length-fold_challenges bits (after_round m bits s round) rounds)

  module _ (n : Numbers) (t : Taken F E Com) (s : S) (x : Drawn S F)
      (is : draw_seeded m n t s ≡ Ok x) where
    drawn-is : x ≡ drawn m n t s
    drawn-is =
        pick (is_passed m.base (claimed m n t s) n.batch_pow_bits t.batch_witness)
        (rounds_pass m n.commit_pow_bits (after_element m.base (layered m n t s)) t.rounds)
        (is_passed m.base (closed m n t s) n.query_pow_bits t.query_witness) (drawn m n t s) x
        (sym (draw_is m n t s) ∙ is)

    -- a challenge for each round, and the due number of queries
    pub betas-count : length x.betas ≡ length t.rounds
    betas-count = ap (λ (d : Drawn S F). length d.betas) drawn-is
        ∙ length-fold_challenges _ _ t.rounds

    pub queries-count : length x.indices ≡ n.num_queries
    queries-count = ap (λ (d : Drawn S F). length d.indices) drawn-is
        ∙ length-samples _ _ n.num_queries _
