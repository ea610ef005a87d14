use Rattle.std.proofs.Common.{◌≡◌, ◌≤◌, ◌++◌, ◌∙◌, ℕ, List, Some, ap, arith, codes, string_bytes}
use Rattle.std.proofs.Common.{subst}
use Rattle.std.proofs.lemmas.Str.{IsUtf8-string_bytes}
use Rattle.std.specs.Prelude.{IsUtf8}
use Rattle.serde_json.specs.Read.{read}
use Rattle.serde_json.specs.View.{view}
use Rattle.serde_json.specs.Written.{compact_text}
use Rattle.circle_commands.proofs.json.line.Goals as goal

pub returns : goal.returns
returns c plain =
    let value = view c.args.value.now in
    let text = string_bytes c.in_ok-text.text in
    let same : text ≡ compact_text value = c.in_ok-text.ensures.text plain.1 in
    record {
      is = c.in_ok-push.ensures.bytes ∙ ap (λ bytes. text ++ bytes)
          (c.in_ok-push.ensures.ascii (omega arith)) ∙ ap (λ t. t ++ codes "\n") same;
      json =
          record {
            utf8 = subst IsUtf8 same (IsUtf8-string_bytes c.in_ok-text.text);
            is =
                subst (λ (t : List ℕ). read t ≡ Some value) same
                (c.in_ok-text.ensures.reads_back (omega (arith, plain.0)));
          };
    }
