-- The names of refusals, letter by letter.
use Rattle.std.specs.Prelude.{ℕ, List, codes}
use Rattle.circle_commit.specs.Named.{fri_name}
use Rattle.circle_relation.specs.Named.{input_name, prover_name}
use Rattle.circle_commands.specs.declared.failure.Reason.{Reason}
use Rattle.circle_commands.specs.declared.failure.Reason.TheVariants as reason
use Rattle.circle_commands.specs.declared.prove.Refusal.{Refusal as Unproved}
use Rattle.circle_commands.specs.declared.prove.Refusal.TheVariants as prove
use Rattle.circle_commands.specs.declared.shape.Refusal.{Refusal as Shapeless}
use Rattle.circle_commands.specs.declared.shape.Refusal.TheVariants as shape
use Rattle.circle_commands.specs.declared.values.Refusal.{Refusal as Valueless}
use Rattle.circle_commands.specs.declared.values.Refusal.TheVariants as values

-- of a refusal of the command `values`
abbrev pub values_name : Valueless → List ℕ
values_name values.DomainTooSmall = codes "DomainTooSmall"
values_name values.DomainTooLarge = codes "DomainTooLarge"
values_name values.NotOnCircle = codes "NotOnCircle"
values_name values.RaggedRows = codes "RaggedRows"
values_name values.BadHeight = codes "BadHeight"
values_name values.Memory = codes "Memory"

-- of `prove`, where the scheme refuses by its own name
abbrev pub prove_name : Unproved → List ℕ
prove_name prove.RaggedRows = codes "RaggedRows"
prove_name prove.HeightNotPowerOfTwo = codes "HeightNotPowerOfTwo"
prove_name (prove.Prover error) = prover_name error

-- of `shape`
abbrev pub shape_name : Shapeless → List ℕ
shape_name shape.HeightTooSmall = codes "HeightTooSmall"
shape_name shape.HeightTooLarge = codes "HeightTooLarge"

-- of a command
abbrev pub reason_name : Reason → List ℕ
reason_name (reason.Values refusal) = values_name refusal
reason_name (reason.Prove refusal) = prove_name refusal
reason_name (reason.Verify refusal) = fri_name input_name refusal
reason_name (reason.Shape refusal) = shape_name refusal
reason_name reason.ParametersDiffer = codes "ParametersDiffer"
