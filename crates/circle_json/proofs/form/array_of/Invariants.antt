use Rattle.std.proofs.Common.{◌≡◌, map, take}
use Rattle.serde_json.specs.View.{view, items_view}
use Rattle.circle_json.specs.Values.{ReadsItems}
use Rattle.circle_json.proofs.form.array_of.Given as goal

abbrev pub invariant-loop-value : goal.invariant-loop-value
invariant-loop-value g l =
    (map view l.items.items ≡ map g.T.JsonForm.form.written (take l.value-index l.values))
    × ReadsItems g.T.JsonForm.form.reads (items_view l.items.items) (take l.value-index l.values)
