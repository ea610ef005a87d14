use Rattle.std.specs.Prelude.{zip, All}
use Rattle.std.proofs.Common.{◌≡◌, ℕ, ◌-◌, ◌^◌, ◌++◌, List, map, length}
use Rattle.circle_challenger.specs.Step.{Step}
use Rattle.circle_prover.specs.OfFoldable.{fields_of}
use Rattle.circle_transcript.specs.Shape.{rounds_steps}
use Rattle.circle_transcript.specs.Transcript.{due, numbers, run_of, state_of, IsSame}
use Rattle.circle_prover.specs.Words.{AreRounds, HavePlayed, word_at}
use Rattle.circle_prover.proofs.foldable.FoldableMatrices.play_rounds.Given as goal

-- the rounds so far were played with the witnesses and committed to their codewords, the next
-- codeword is there, and the other rounds are due
abbrev pub invariant-loop-i : goal.invariant-loop-i
invariant-loop-i g l =
    let r = run_of l.initial.transcript in
    let k = fields_of l.self in
    let degree = g.EF.ExtensionField.DEGREE in
    let bits = (numbers l.initial.transcript).commit_pow_bits in
    let begun = state_of l.initial.transcript in
    record {
      same : IsSame l.initial.transcript l.transcript;
      due : (rest : List Step) → due l.initial.transcript ≡ rounds_steps degree bits l.num_rounds
          ++ rest → due l.transcript ≡ rounds_steps degree bits (l.num_rounds - l.i) ++ rest;
      commitments : length l.rounds.commitments.items ≡ l.i;
      witnesses : length l.rounds.witnesses.items ≡ l.i;
      betas : length l.rounds.betas.items ≡ l.i;
      easy : bits ≡ 0 → All (λ w. w ≡ g.F.Operations.ops.zero) l.rounds.witnesses.items;
      played : HavePlayed r bits begun (state_of l.transcript)
          (zip l.rounds.commitments.items l.rounds.witnesses.items)
          (map g.EF.ExtensionField.coefficients l.rounds.betas.items);
      length : length l.word.items ≡ 2 ^ (l.log_height - l.i);
      committed : (f : ℕ → List g.row.EF.Denot) → map (λ w. w.items) l.folded ≡ map f l.heights
          →
          AreRounds (g.M.Mmcs.commits l.self.params.now.mmcs) g.M.Mmcs.matrices
          (word_at k l.heights f l.log_height l.fn.first.items l.rounds.betas.items)
          l.rounds.kept.items l.rounds.commitments.items;
      word : (f : ℕ → List g.row.EF.Denot) → map (λ w. w.items) l.folded ≡ map f l.heights
          → l.word.items ≡ word_at k l.heights f l.log_height l.fn.first.items l.rounds.betas.items
          l.i;
    }
