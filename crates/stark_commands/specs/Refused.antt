-- What the libraries' refusals are to a command.
use Rattle.std.specs.Prelude.{◌≡◌, ◌⊎◌}
use Rattle.circle_air.specs.declared.error.AirError.{AirError}
use Rattle.circle_air.specs.declared.error.AirError.TheVariants as air
use Rattle.circle_stark.specs.declared.error.StarkError.{StarkError}
use Rattle.circle_stark.specs.declared.error.StarkError.TheVariants as stark
use Rattle.circle_stark.specs.declared.error.StarkProverError.{StarkProverError}
use Rattle.circle_stark.specs.declared.error.StarkProverError.TheVariants as prover

-- want of memory, or a refusal for this reason
abbrev pub IsRefusalBy : {R Error : Type 0} → Error → (Error → R) → R → Error → R → Type 0
IsRefusalBy none reason memory error refusal =
    ((error ≡ none) × (refusal ≡ memory)) ⊎ ((¬ (error ≡ none)) × (refusal ≡ reason error))

-- so of an AIR, of a proof, and of a trace
abbrev pub IsRefusalOfAir : {R : Type 0} → (AirError → R) → R → AirError → R → Type 0
IsRefusalOfAir = IsRefusalBy air.Memory

abbrev pub IsRefusalOfProof : {R Error : Type 0} → (StarkError Error → R) → R → StarkError Error →
    R → Type 0
IsRefusalOfProof = IsRefusalBy stark.Memory

abbrev pub IsRefusalOfTrace : {R : Type 0} → (StarkProverError → R) → R → StarkProverError → R →
    Type 0
IsRefusalOfTrace = IsRefusalBy prover.Memory
