use Rattle.std.proofs.Common.{◌≡◌, ◌∙◌, ap, sym, rules, codes, Some}
use Rattle.serde_json.specs.Data.{array, member, no_members, object}
use Rattle.serde_json.specs.View.{view}
use Rattle.serde_json.specs.declared.value.Value.{the_lemmas}
use Rattle.serde_json.specs.declared.value.Value.TheVariants.{Object}
use Rattle.circle_commands.specs.Json.{row_written}
use Rattle.circle_commands.proofs.Texts.{rows-more, rows-whole}
use Rattle.circle_commands.proofs.values.shown.Goals as goal

pub loop-r-preserved : goal.loop-r-preserved
loop-r-preserved g c =
    rows-more row_written c.loop-r.rows.items c.push.new.self.items c.in_ok-to_json.field-0
    (g.M.Matrix.rows c.args.values.now) c.loop-r.r c.in_ok-from_slice.field-0.items
    (c.row.ensures ∙ ap Some (sym c.in_ok-from_slice.ensures.items)) c.in_ok-push.ensures.items
    c.in_ok-to_json.ensures.written c.loop-r.invariant

pub returns-in-Ok-json-2 : goal.returns-in-Ok-json-2
returns-in-Ok-json-2 g c =
    let is : view (Object c.json-put.new.map) ≡ object
    (member (codes "rows") (view c.from.result) no_members) = search (rules, the_lemmas) in
    is ∙ ap (λ d. object (member (codes "rows") d no_members))
    (c.from.ensures
    ∙ ap array (rows-whole row_written c.loop-r.rows.items (g.M.Matrix.rows c.args.values.now)
    c.loop-r.r c.height-r-end.result (g.met.M.Matrix.height_law c.args.values.now
    ∙ sym c.height-r-end.ensures) c.loop-r-test.false c.loop-r.invariant))
