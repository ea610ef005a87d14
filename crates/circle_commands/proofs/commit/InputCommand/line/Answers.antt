use Rattle.std.proofs.Common.{string_bytes, subst, sym}
use Rattle.serde_json.specs.Data.{Data}
use Rattle.circle_commands.specs.Text.{IsJsonLine, IsPlain}
use Rattle.circle_commands.proofs.Texts.{commitments_within}
use Rattle.circle_commands.proofs.commit.InputCommand.line.Goals as goal

pub returns-clause-result : goal.returns-clause-result
returns-clause-result c =
    let commitments = c.in_ok-commitments.commitments.items in
    record {
      commitments = commitments;
      are = c.in_ok-commitments.ensures.commitments;
      written =
          subst (λ (d : Data). IsJsonLine d (string_bytes c.in_ok-line.field-0))
          c.in_ok-shown.ensures
          (c.in_ok-line.ensures
          (subst (λ (d : Data). IsPlain 127 d) (sym c.in_ok-shown.ensures)
          (commitments_within commitments)));
    }
