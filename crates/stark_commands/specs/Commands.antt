-- The commands: how their inputs stand in JSON, their results, and why they refuse.
use Rattle.std.specs.Prelude.{ℕ, List}
use Rattle.stark_commands.specs.Answer.{IsAnswer}
use Rattle.stark_commands.specs.Program.{Answer}
use Rattle.stark_commands.specs.contracts.check.InputCommand.TheImpl as of_check
use Rattle.stark_commands.specs.contracts.prove.InputCommand.TheImpl as of_prove
use Rattle.stark_commands.specs.contracts.prove.InputCommandFrom.TheImpl as of_prove_from
use Rattle.stark_commands.specs.contracts.verify.InputCommand.TheImpl as of_verify
use Rattle.stark_commands.specs.contracts.verify.InputCommandFrom.TheImpl as of_verify_from
use Rattle.stark_commands.specs.declared.check.Input.{Input as Checked}
use Rattle.stark_commands.specs.declared.command.Command.{Ghosts as Command}
use Rattle.stark_commands.specs.declared.command.CommandFrom.{Ghosts as CommandFrom}
use Rattle.stark_commands.specs.declared.prove.Input.{Input as Statement}
use Rattle.stark_commands.specs.declared.verify.Input.{Input as Claim}

abbrev pub check : Command Checked
check = of_check.ghosts

abbrev pub prove : Command Statement
prove = of_prove.ghosts

abbrev pub verify : Command Claim
verify = of_verify.ghosts

-- those that go on from a caller's challenger
abbrev pub prove_from : CommandFrom Statement
prove_from = of_prove_from.ghosts

abbrev pub verify_from : CommandFrom Claim
verify_from = of_verify_from.ghosts

-- what a command returns of a text
abbrev pub Answers : {Given : Type 0} → Command Given → List ℕ → Answer → Type 0
Answers c = IsAnswer c.form c.is_result c.is_reason
