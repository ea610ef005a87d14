-- The commands: how their inputs stand in JSON, their results, and why they refuse.
use Rattle.std.specs.Prelude.{ℕ, List}
use Rattle.circle_commands.specs.Answer.{IsAnswer}
use Rattle.circle_commands.specs.Program.{Answer}
use Rattle.circle_commands.specs.contracts.commit.InputCommand.TheImpl as of_commit
use Rattle.circle_commands.specs.contracts.prove.InputCommand.TheImpl as of_prove
use Rattle.circle_commands.specs.contracts.prove.InputCommandFrom.TheImpl as of_prove_from
use Rattle.circle_commands.specs.contracts.shape.InputCommand.TheImpl as of_shape
use Rattle.circle_commands.specs.contracts.values.InputCommand.TheImpl as of_values
use Rattle.circle_commands.specs.contracts.verify.InputCommand.TheImpl as of_verify
use Rattle.circle_commands.specs.contracts.verify.InputCommandFrom.TheImpl as of_verify_from
use Rattle.circle_commands.specs.declared.command.Command.{Ghosts as Command}
use Rattle.circle_commands.specs.declared.command.CommandFrom.{Ghosts as CommandFrom}
use Rattle.circle_commands.specs.declared.commit.Input.{Input as Committed}
use Rattle.circle_commands.specs.declared.prove.Input.{Input as Statement}
use Rattle.circle_commands.specs.declared.shape.Input.{Input as Shaped}
use Rattle.circle_commands.specs.declared.values.Input.{Input as Polynomials}
use Rattle.circle_commands.specs.declared.verify.Input.{Input as Claims}

abbrev pub values : Command Polynomials
values = of_values.ghosts

abbrev pub prove : Command Statement
prove = of_prove.ghosts

abbrev pub verify : Command Claims
verify = of_verify.ghosts

abbrev pub shape : Command Shaped
shape = of_shape.ghosts

abbrev pub commit : Command Committed
commit = of_commit.ghosts

-- those that go on from a caller's challenger
abbrev pub prove_from : CommandFrom Statement
prove_from = of_prove_from.ghosts

abbrev pub verify_from : CommandFrom Claims
verify_from = of_verify_from.ghosts

-- what a command returns of a text
abbrev pub Answers : {Given : Type 0} → Command Given → List ℕ → Answer → Type 0
Answers c = IsAnswer c.form c.is_result c.is_reason
