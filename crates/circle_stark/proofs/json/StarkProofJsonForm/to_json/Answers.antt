use Rattle.std.proofs.Common.{refl, rules, arith}
use Rattle.circle_json.proofs.Records.{read_of}
use Rattle.circle_json.specs.Objects.{members_written}
use Rattle.circle_stark.specs.Json.{stark_fields}
use Rattle.serde_json.specs.declared.value.Value.{the_lemmas}
use Rattle.circle_stark.proofs.json.StarkProofJsonForm.to_json.Goals as goal

pub returns-clause-reads : goal.returns-clause-reads
returns-clause-reads g c =
    let fields = stark_fields g.Val.JsonForm.form g.EF.JsonForm.form
    g.InputMmcs.Commitment.JsonForm.form g.InputMmcs.MultiProof.JsonForm.form
    g.FriMmcs.Commitment.JsonForm.form g.FriMmcs.MultiProof.JsonForm.form in
    read_of fields c.args.self.now _ (members_written fields c.args.self.now)
    (search (rules, the_lemmas)) (
      omega arith,
      (
        (_, refl, c.in_ok-put_member.ensures.reads),
        (
          (_, refl, c.in_ok-put_member-2.ensures.reads),
          (
            (_, refl, c.in_ok-put_member-3.ensures.reads),
            ((_, refl, c.in_ok-put_member-4.ensures.reads), tt),
          ),
        ),
      ),
    )
