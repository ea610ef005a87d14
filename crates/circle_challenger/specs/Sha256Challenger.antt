-- What contracts see of the challenger over SHA-256.
use Rattle.std.specs.Prelude.{ℕ, List}
use Rattle.circle_challenger.specs.declared.sha256.Sha256Challenger.{Sha256Challenger}

-- its state
abbrev pub state_of : Sha256Challenger → List ℕ
state_of c = c.state
