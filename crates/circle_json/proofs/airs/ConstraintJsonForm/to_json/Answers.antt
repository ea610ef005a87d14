use Rattle.std.proofs.Common.{refl, rules, arith}
use Rattle.circle_json.specs.Airs.{constraint_fields}
use Rattle.circle_json.proofs.Records.{read_of}
use Rattle.circle_json.specs.Objects.{members_written}
use Rattle.serde_json.specs.declared.value.Value.{the_lemmas}
use Rattle.circle_json.proofs.airs.ConstraintJsonForm.to_json.Goals as goal

pub returns-clause-reads : goal.returns-clause-reads
returns-clause-reads c =
    read_of constraint_fields c.args.self.now _ (members_written constraint_fields c.args.self.now)
    (search (rules, the_lemmas)) (
      omega arith,
      (
        (_, refl, c.in_ok-put_member.ensures.reads),
        ((_, refl, c.in_ok-put_member-2.ensures.reads), tt),
      ),
    )
