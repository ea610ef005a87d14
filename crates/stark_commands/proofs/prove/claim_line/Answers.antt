use Rattle.std.proofs.Common.{arith, string_bytes, subst, sym}
use Rattle.serde_json.specs.Data.{Data}
use Rattle.serde_json.specs.View.{view}
use Rattle.circle_commands.proofs.Texts.{if-ok, looser, written_line}
use Rattle.circle_commands.specs.Text.{IsPlain}
use Rattle.stark_commands.proofs.Depth.{claim}
use Rattle.stark_commands.specs.Verify.{claim_form}
use Rattle.stark_commands.proofs.prove.claim_line.Goals as goal

pub returns : goal.returns
returns c =
    let x = c.args.claim.now in
    let value = view c.in_ok-to_json.field-0 in
    let plain = looser 10 127 (claim_form.written x) (omega arith) (claim x) in
    if-ok c.line.result _ _
    (λ line made. written_line claim_form x value (string_bytes line)
    c.in_ok-to_json.ensures.written
    c.in_ok-to_json.ensures.reads
    (made (subst (λ (d : Data). IsPlain 127 d) (sym c.in_ok-to_json.ensures.written) plain)))
    c.line.ensures
