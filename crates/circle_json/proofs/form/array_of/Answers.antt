use Rattle.std.proofs.Common.{◌∙◌}
use Rattle.circle_json.proofs.Items.{written_more, written_whole, reads_whole}
use Rattle.circle_json.proofs.form.array_of.Goals as goal

pub loop-value-preserved : goal.loop-value-preserved
loop-value-preserved g c =
    written_more g.T.JsonForm.form.written g.T.JsonForm.form.reads c.loop-value.items.items
    c.push.new.self.items c.args.values.now c.loop-value.value-index c.in_ok-to_json.field-0
    c.value-item.result
    c.loop-value-test.true c.value-item.is c.in_ok-push.ensures.items
    c.in_ok-to_json.ensures.written c.in_ok-to_json.ensures.reads c.loop-value.invariant.0
    c.loop-value.invariant.1

pub returns-clause-written : goal.returns-clause-written
returns-clause-written g c =
    c.from.ensures ∙ written_whole g.T.JsonForm.form.written g.T.JsonForm.form.reads
    c.loop-value.items.items c.args.values.now c.loop-value.value-index c.loop-value-test.false
    c.loop-value.invariant.0

pub returns-clause-reads : goal.returns-clause-reads
returns-clause-reads g c =
    reads_whole g.T.JsonForm.form.written g.T.JsonForm.form.reads _ c.loop-value.items.items
    c.args.values.now c.loop-value.value-index c.from.ensures c.loop-value-test.false
    c.loop-value.invariant.1
