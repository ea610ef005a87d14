use Rattle.std.proofs.Common.{◌≡◌, ℕ, ◌*◌, ◌<◌, List}
use Rattle.sha2.specs.Sha256.{rounds}
use Rattle.circle_merkle.specs.Lanes.{lane}
use Rattle.circle_merkle.proofs.lanes.rounds.Given as goal

abbrev pub invariant-loop-turn : goal.invariant-loop-turn
invariant-loop-turn l = (i : ℕ) (w : List ℕ) → i < 16 → lane i l.words ≡ w →
    lane i l.v ≡ rounds (lane i l.state) w (8 * l.turn)
