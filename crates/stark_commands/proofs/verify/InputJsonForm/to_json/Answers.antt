use Rattle.std.proofs.Common.{refl, rules, arith}
use Rattle.circle_json.proofs.Records.{read_of}
use Rattle.circle_json.specs.Objects.{members_written}
use Rattle.serde_json.specs.declared.value.Value.{the_lemmas}
use Rattle.stark_commands.specs.Verify.{input_fields}
use Rattle.stark_commands.proofs.verify.InputJsonForm.to_json.Goals as goal

pub returns-clause-reads : goal.returns-clause-reads
returns-clause-reads c =
    read_of input_fields c.args.self.now _ (members_written input_fields c.args.self.now)
    (search (rules, the_lemmas)) (
      omega arith,
      (
        (_, refl, c.in_ok-put_member.ensures.reads),
        (
          (_, refl, c.in_ok-put_member-2.ensures.reads),
          (
            (_, refl, c.in_ok-put_member-3.ensures.reads),
            (
              (_, refl, c.in_ok-put_member-4.ensures.reads),
              ((_, refl, c.in_ok-put_member-5.ensures.reads), tt),
            ),
          ),
        ),
      ),
    )
