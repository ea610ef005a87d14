use Rattle.std.proofs.Common.{subst}
use Rattle.std.proofs.lemmas.Grind.{common_steps}
use Rattle.std.proofs.Common.{arith}
use Rattle.serde_json.specs.View.{view}
use Rattle.serde_json.specs.declared.value.Value.{Value}
use Rattle.circle_json.proofs.Items.{read_more, refuses_at, array_refuses, if_err_from}
use Rattle.circle_json.specs.Values.{RefusesArray}
use Rattle.circle_json.proofs.form.VecJsonForm.from_json.Goals as goal

pub returns-in_err-from_json-clause-refuses : goal.returns-in_err-from_json-clause-refuses
returns-in_err-from_json-clause-refuses g c =
    let some = refuses_at g.T.JsonForm.form.refuses c.in_ok-items.items.now c.loop-item.item-index
    c.item-item.result c.in_err-from_json.field-0.0 c.loop-item-test.true
    (subst (λ (v : Value). g.T.JsonForm.form.refuses (view v) c.in_err-from_json.field-0.0)
    c.item-item.is c.in_err-from_json.ensures.refuses) in
    let whole = array_refuses g.T.JsonForm.form.refuses (view c.args.value.now) _
    c.in_err-from_json.field-0.0 c.in_ok-items.ensures some in
    if_err_from (RefusesArray g.T.JsonForm.form.refuses (view c.args.value.now))
    c.from_residual-in_err-from_json.result c.in_err-from_json.field-0.0
    c.from_residual-in_err-from_json.ensures.1 whole

pub loop-item-preserved : goal.loop-item-preserved
loop-item-preserved g c =
    read_more g.T.JsonForm.form.written g.T.JsonForm.form.reads c.in_ok-items.items.now
    c.loop-item.list.items c.push.new.self.items c.loop-item.item-index c.item-item.result
    c.in_ok-from_json.field-0
    c.loop-item-test.true c.item-item.is (grind (arith, common_steps))
    c.in_ok-from_json.ensures.reads c.loop-item.invariant
