-- Why there may be no proof of rows that satisfy the constraints.
use Rattle.circle_stark.specs.declared.error.StarkProverError.{StarkProverError}
use Rattle.circle_stark.specs.declared.error.StarkProverError.TheVariants.{Memory, UnfitPoint}
use Rattle.circle_stark.specs.declared.error.StarkProverError.TheVariants.{NoGrindingWitness}
use Rattle.circle_stark.specs.declared.error.StarkProverError.TheVariants.{PointOnDomain}

-- the drawn point can't be opened or is on the domain, no witness passes, or memory was refused
abbrev pub IsUnlucky : StarkProverError → Type 0
IsUnlucky UnfitPoint = Unit {0}
IsUnlucky PointOnDomain = Unit {0}
IsUnlucky (NoGrindingWitness phase) = Unit {0}
IsUnlucky Memory = Unit {0}
IsUnlucky _ = ⊥
