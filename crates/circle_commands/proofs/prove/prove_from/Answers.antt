use Rattle.std.proofs.Common.{◌⊎◌, subst, sym}
use Rattle.circle_challenger.specs.Sha256Challenger.{state_of}
use Rattle.circle_commands.specs.Proved.{HavePoints}
use Rattle.circle_commands.specs.Traces.{AreTall, IsRefusalOfBatches}
use Rattle.circle_commands.proofs.Accepted.{commitments-opened}
use Rattle.circle_commands.proofs.First.{passed_by, refused_by}
use Rattle.circle_commands.proofs.Proved.{commitments-of, opened-of}
use Rattle.circle_commands.proofs.Unproved.{by_new_from, by_open_from}
use Rattle.circle_commands.proofs.prove.prove_from.Goals as goal

pub returns-in_err-committed-clause-rows : goal.returns-in_err-committed-clause-rows
returns-in_err-committed-clause-rows c =
    let f = c.args.input.params.log_final_poly_len in
    let bs = c.args.input.batches.items in
    refused_by (AreTall f bs) (λ e. IsRefusalOfBatches f bs e ⊎ AreTall f bs)
    c.from_residual.result c.in_err-committed.field-0.0 c.from_residual.ensures.1
    c.in_err-committed.ensures.rows

pub returns-in_err-committed-clause-reason : goal.returns-in_err-committed-clause-reason
returns-in_err-committed-clause-reason c =
    by_new_from c.args.input c.from_residual.result c.in_err-committed.field-0.0
    (state_of c.args.challenger.now) c.from_residual.ensures.1 c.in_err-committed.ensures.reason

pub open-requires : goal.open-requires
open-requires c = c.in_ok-committed.ensures.committed

pub returns-in_err-open-clause-rows : goal.returns-in_err-open-clause-rows
returns-in_err-open-clause-rows c =
    passed_by (AreTall c.args.input.params.log_final_poly_len c.args.input.batches.items)
    (IsRefusalOfBatches c.args.input.params.log_final_poly_len c.args.input.batches.items)
    c.from_residual-in_err-open.result c.in_ok-committed.ensures.rows

pub returns-in_err-open-clause-reason : goal.returns-in_err-open-clause-reason
returns-in_err-open-clause-reason c =
    by_open_from c.args.input c.from_residual-in_err-open.result c.in_err-open.field-0.0
    c.in_ok-committed.committed.input.now c.in_ok-committed.committed.batches.items
    (state_of c.args.challenger.now) (state_of c.open.new.challenger)
    c.from_residual-in_err-open.ensures.1 c.in_ok-committed.ensures.input
    c.in_err-open.ensures.reason

pub returns-clause-proof : goal.returns-clause-proof
returns-clause-proof c = (
  c.in_ok-committed.committed.batches.items,
  opened-of c.in_ok-committed.committed c.args.input c.in_ok-committed.ensures.input _ _ _
      c.in_ok-open.ensures.opened,
)

pub returns-clause-commitments : goal.returns-clause-commitments
returns-clause-commitments c =
    commitments-of c.in_ok-committed.committed c.args.input c.in_ok-committed.ensures.input _
    c.in_ok-committed.ensures.committed
    (commitments-opened _ _ _ _ _ c.in_ok-open.ensures.opened)

pub returns-clause-accepted : goal.returns-clause-accepted
returns-clause-accepted c = λ some.
    c.in_ok-open.ensures.accepted (subst HavePoints (sym c.in_ok-committed.ensures.input) some)
