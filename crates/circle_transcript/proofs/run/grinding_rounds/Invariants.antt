use Rattle.std.specs.Prelude.{All}
use Rattle.std.proofs.Common.{◌≡◌, List, ◌++◌, ◌-◌, take, map, length}
use Rattle.circle_challenger.specs.Step.{Step}
use Rattle.circle_transcript.specs.Shape.{rounds_steps}
use Rattle.circle_transcript.specs.Runs.{HavePlayed}
use Rattle.circle_transcript.specs.Transcript.{due, numbers, IsSame}
use Rattle.circle_transcript.proofs.run.grinding_rounds.Given as goal

-- the rounds so far were played with the witnesses, and the others are due
abbrev pub invariant-loop-commitment : goal.invariant-loop-commitment
invariant-loop-commitment g l =
    let degree = g.EF.ExtensionField.DEGREE in
    let bits = (numbers l.initial.transcript).commit_pow_bits in
    record {
      same : IsSame l.initial.transcript l.transcript;
      due : (rest : List Step) → due l.initial.transcript
          ≡ rounds_steps degree bits (length l.commitments) ++ rest → due l.transcript
          ≡ rounds_steps degree bits (length l.commitments - l.commitment-index) ++ rest;
      count : length l.witnesses.items ≡ l.commitment-index;
      easy : bits ≡ 0 → All (λ w. w ≡ g.F.Operations.ops.zero) l.witnesses.items;
      played : HavePlayed l.initial.transcript l.transcript (take l.commitment-index l.commitments)
          l.witnesses.items (map g.EF.ExtensionField.coefficients l.betas.items);
    }
