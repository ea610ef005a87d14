use Rattle.std.proofs.Common.{take}
use Rattle.serde_json.specs.View.{items_view}
use Rattle.circle_json.specs.Values.{ReadsItems}
use Rattle.circle_json.proofs.form.VecJsonForm.from_json.Given as goal

abbrev pub invariant-loop-item : goal.invariant-loop-item
invariant-loop-item g l =
    ReadsItems g.T.JsonForm.form.reads (items_view (take l.item-index l.items)) l.list.items
