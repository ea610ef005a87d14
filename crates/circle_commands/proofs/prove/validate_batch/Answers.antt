use Rattle.std.proofs.Common.{All, subst, take_all}
use Rattle.std.proofs.lemmas.List.Elements.{All-more}
use Rattle.circle_commands.specs.Traces.{AreTallRows, HasTallRows, IsRefusalOfBatch}
use Rattle.circle_commands.specs.Traces.{IsRefusalOfRows}
use Rattle.circle_commands.proofs.First.{first_at, refused_by}
use Rattle.circle_commands.proofs.prove.validate_batch.Goals as goal

pub returns-in_err-validate_rows : goal.returns-in_err-validate_rows
returns-in_err-validate_rows c =
    let batch = c.args.batch.now in
    let e = c.in_err-validate_rows.field-0.0 in
    let f = c.args.log_final_poly_len in
    let here : IsRefusalOfRows f c.trace-item.result.rows.items e =
    subst (λ rows. IsRefusalOfRows f rows e) c.deref.ensures.value c.in_err-validate_rows.ensures in
    refused_by (All (HasTallRows f) batch) (IsRefusalOfBatch f batch) c.from_residual.result e
    c.from_residual.ensures.1
    (first_at (HasTallRows f) (λ t. IsRefusalOfRows f t.rows.items e) batch c.loop-trace.trace-index
    c.trace-item.result c.loop-trace-test.true c.trace-item.is c.loop-trace.invariant here)

pub loop-trace-preserved : goal.loop-trace-preserved
loop-trace-preserved c =
    let Tall = HasTallRows c.args.log_final_poly_len in
    let here : Tall c.trace-item.result =
    subst (AreTallRows c.args.log_final_poly_len) c.deref.ensures.value
    c.in_ok-validate_rows.ensures in
    All-more Tall c.args.batch.now c.loop-trace.trace-index c.trace-item.result
    c.loop-trace-test.true c.loop-trace.invariant (subst Tall c.trace-item.is here)

pub returns : goal.returns
returns c =
    subst (All (HasTallRows c.args.log_final_poly_len))
    (take_all c.loop-trace.trace-index c.args.batch.now c.loop-trace-test.false)
    c.loop-trace.invariant
