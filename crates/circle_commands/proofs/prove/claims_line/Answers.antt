use Rattle.std.proofs.Common.{arith, string_bytes, subst, sym}
use Rattle.serde_json.specs.Data.{Data}
use Rattle.serde_json.specs.View.{view}
use Rattle.circle_commands.proofs.Texts.{if-ok, looser, written_line}
use Rattle.circle_commands.specs.Text.{IsPlain}
use Rattle.circle_commands.proofs.Depth.{claims}
use Rattle.circle_commands.specs.Verify.{claims_form}
use Rattle.circle_commands.proofs.prove.claims_line.Goals as goal

pub returns : goal.returns
returns c =
    let x = c.args.claims.now in
    let value = view c.in_ok-to_json.field-0 in
    let plain = looser 9 127 (claims_form.written x) (omega arith) (claims x) in
    if-ok c.line.result _ _
    (λ line made. written_line claims_form x value (string_bytes line)
    c.in_ok-to_json.ensures.written
    c.in_ok-to_json.ensures.reads
    (made (subst (λ (d : Data). IsPlain 127 d) (sym c.in_ok-to_json.ensures.written) plain)))
    c.line.ensures
