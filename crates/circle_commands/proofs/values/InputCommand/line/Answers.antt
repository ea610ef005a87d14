use Rattle.std.proofs.Common.{◌≡◌, ◌∙◌, ap, subst, sym, string_bytes}
use Rattle.serde_json.specs.Data.{Data}
use Rattle.serde_json.specs.View.{view}
use Rattle.circle_commands.specs.Input.{values_of}
use Rattle.circle_commands.specs.Json.{rows_written}
use Rattle.circle_commands.specs.Text.{IsJsonLine, IsPlain}
use Rattle.circle_commands.proofs.Texts.{rows_within}
use Rattle.circle_commands.proofs.values.InputCommand.line.Goals as goal

pub returns-clause-result : goal.returns-clause-result
returns-clause-result c =
    let rows = values_of c.args.self in
    let same : view c.in_ok-shown.field-0 ≡ rows_written rows = c.in_ok-shown.ensures
    ∙ ap rows_written c.in_ok-values.ensures.rows in
    subst (λ (d : Data). IsJsonLine d (string_bytes c.in_ok-line.field-0)) same
    (c.in_ok-line.ensures (subst (λ (d : Data). IsPlain 127 d) (sym same) (rows_within rows)))
