use Rattle.std.proofs.Common.{◌≡◌, List, ◌++◌, take, drop, flat_map}
use Rattle.circle_challenger.specs.Step.{Step}
use Rattle.circle_transcript.specs.Transcript.{at_batch_pow, due, state_of, IsSame}
use Rattle.circle_transcript.specs.Shape.{claim_steps}
use Rattle.circle_transcript.specs.Draw.{widths_of}
use Rattle.circle_transcript.specs.Claims.{claims_of}
use Rattle.circle_transcript.proofs.transcript.CircleTranscript.observe_claims.Given as goal

-- the claims so far were absorbed, and the steps of the others are due
abbrev pub invariant-loop-point : goal.invariant-loop-point
invariant-loop-point g l =
    let degree = g.EF.ExtensionField.DEGREE in
    record {
      same : IsSame l.initial.self l.self;
      due : (rest : List Step) → due l.initial.self
          ≡ flat_map (claim_steps degree) (widths_of (claims_of l.claims)) ++ rest →
          due l.self
          ≡ flat_map (claim_steps degree) (widths_of (claims_of (drop l.point-index l.claims)))
          ++ rest;
      state : state_of l.self
          ≡ at_batch_pow l.initial.self (claims_of (take l.point-index l.claims));
    }
