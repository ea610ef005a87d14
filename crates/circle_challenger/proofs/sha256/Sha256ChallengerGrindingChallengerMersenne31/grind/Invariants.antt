use Rattle.std.proofs.Common.{◌≡◌, ℕ, ◌<◌, false}
use Rattle.circle_challenger.specs.Sha256Challenger.{state_of}
use Rattle.circle_challenger.specs.Sponge.{number_passes}
use Rattle.circle_challenger.proofs.sha256.Sha256ChallengerGrindingChallengerMersenne31.grind.Given as goal

-- no element so far passes, and nothing has changed
abbrev pub invariant-loop-n : goal.invariant-loop-n
invariant-loop-n l = record {
  missed : (k : ℕ) → k < l.n → number_passes (state_of l.self) l.bits k ≡ false;
  unchanged : state_of l.self ≡ state_of l.initial.self;
}
