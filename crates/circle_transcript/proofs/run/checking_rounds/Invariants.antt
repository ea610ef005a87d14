use Rattle.std.proofs.Common.{◌≡◌, List, ◌++◌, ◌-◌, take, map, length}
use Rattle.circle_challenger.specs.Step.{Step}
use Rattle.circle_transcript.specs.Shape.{rounds_steps}
use Rattle.circle_transcript.specs.Runs.{HavePlayed}
use Rattle.circle_transcript.specs.Transcript.{due, numbers, IsSame}
use Rattle.circle_transcript.proofs.run.checking_rounds.Given as goal

-- the rounds so far were played with witnesses that pass, and the others are due
abbrev pub invariant-loop-i : goal.invariant-loop-i
invariant-loop-i g l =
    let degree = g.EF.ExtensionField.DEGREE in
    let bits = (numbers l.initial.transcript).commit_pow_bits in
    record {
      same : IsSame l.initial.transcript l.transcript;
      due : (rest : List Step) → due l.initial.transcript
          ≡ rounds_steps degree bits (length l.commitments) ++ rest → due l.transcript
          ≡ rounds_steps degree bits (length l.commitments - l.i) ++ rest;
      played : HavePlayed l.initial.transcript l.transcript (take l.i l.commitments)
          (take l.i l.witnesses) (map g.EF.ExtensionField.coefficients l.betas.items);
    }
