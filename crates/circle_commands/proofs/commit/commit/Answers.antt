use Rattle.std.proofs.Common.{◌⊎◌}
use Rattle.circle_commands.specs.Traces.{AreTall, IsRefusalOfBatches}
use Rattle.circle_commands.proofs.First.{passed_by, refused_by}
use Rattle.circle_commands.proofs.Proved.{commitments-of}
use Rattle.circle_commands.proofs.Unproved.{error-is}
use Rattle.circle_commands.proofs.commit.commit.Goals as goal

pub returns-in_err-committed-clause-rows : goal.returns-in_err-committed-clause-rows
returns-in_err-committed-clause-rows c =
    let f = c.args.input.now.params.log_final_poly_len in
    let bs = c.args.input.now.batches.items in
    refused_by (AreTall f bs) (λ e. IsRefusalOfBatches f bs e ⊎ AreTall f bs)
    c.from_residual.result c.in_err-committed.field-0.0 c.from_residual.ensures.1
    c.in_err-committed.ensures.rows

pub returns-in_err-committed-clause-reason : goal.returns-in_err-committed-clause-reason
returns-in_err-committed-clause-reason c =
    error-is _ _ c.in_err-committed.field-0.0 c.from_residual.ensures.1
    c.in_err-committed.ensures.reason

pub returns-in_err-commitments-clause-rows : goal.returns-in_err-commitments-clause-rows
returns-in_err-commitments-clause-rows c =
    let input = c.args.input.now in
    passed_by (AreTall input.params.log_final_poly_len input.batches.items)
    (IsRefusalOfBatches input.params.log_final_poly_len input.batches.items)
    c.from_residual-in_err-commitments.result c.in_ok-committed.ensures.rows

pub returns-clause-commitments : goal.returns-clause-commitments
returns-clause-commitments c =
    commitments-of c.in_ok-committed.committed c.args.input.now c.in_ok-committed.ensures.input _
    c.in_ok-committed.ensures.committed c.in_ok-commitments.ensures
