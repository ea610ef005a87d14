use Rattle.std.proofs.Common.{◌∙◌, sym, subst}
use Rattle.circle_commands.specs.Proved.{AreCommitted}
use Rattle.circle_commands.specs.Traces.{AreFitting, AreTall, IsRefusalOfBatches}
use Rattle.circle_commands.proofs.First.{passed_by, tall-fitting}
use Rattle.circle_commands.proofs.Unproved.{by_commit, by_rows, in-params}
use Rattle.circle_commands.proofs.prove.CommittedInput.new.Goals as goal

pub commit_batches-requires : goal.commit_batches-requires
commit_batches-requires c = subst AreFitting (c.deref.ensures.value ∙ sym c.deref-2.ensures.value)
    (tall-fitting c.args.input.now.params.log_final_poly_len c.deref.result.now
    c.in_ok-validate_batches.ensures)

pub returns-in_err-batches-clause-rows : goal.returns-in_err-batches-clause-rows
returns-in_err-batches-clause-rows c =
    let input = c.args.input.now in
    passed_by (AreTall input.params.log_final_poly_len input.batches.items)
    (IsRefusalOfBatches input.params.log_final_poly_len input.batches.items)
    c.from_residual-in_err-batches.result
    (subst (AreTall input.params.log_final_poly_len) c.deref.ensures.value
    c.in_ok-validate_batches.ensures)

pub returns-clause-rows : goal.returns-clause-rows
returns-clause-rows c =
    subst (AreTall c.args.input.now.params.log_final_poly_len) c.deref.ensures.value
    c.in_ok-validate_batches.ensures

pub returns-clause-committed : goal.returns-clause-committed
returns-clause-committed c = record {
  params =
      in-params c.args.input.now c.new-scheme.result _
      (c.new-scheme.ensures.params ∙ c.with_mmcs.ensures);
  batches =
      subst
      (λ bs. AreCommitted c.new-scheme.result.mmcs c.new-scheme.result.fri_params.log_blowup bs
      c.in_ok-batches.batches.items) c.deref-2.ensures.value c.in_ok-batches.ensures.made;
}

pub
    returns-in_err-validate_batches-clause-reason :
    goal.returns-in_err-validate_batches-clause-reason
returns-in_err-validate_batches-clause-reason c =
    by_rows c.args.input.now c.from_residual.result c.in_err-validate_batches.field-0.0
    c.from_residual.ensures.1
    (subst
    (λ bs. IsRefusalOfBatches c.args.input.now.params.log_final_poly_len bs
    c.in_err-validate_batches.field-0.0) c.deref.ensures.value
    c.in_err-validate_batches.ensures)

pub returns-in_err-batches-clause-reason : goal.returns-in_err-batches-clause-reason
returns-in_err-batches-clause-reason c =
    by_commit c.args.input.now c.from_residual-in_err-batches.result
    c.in_err-batches.field-0.0 c.new-scheme.result c.from_residual-in_err-batches.ensures.1
    (in-params c.args.input.now c.new-scheme.result _
    (c.new-scheme.ensures.params ∙ c.with_mmcs.ensures))
    (rw c.deref-2.ensures.value at c.in_err-batches.ensures.reason)
