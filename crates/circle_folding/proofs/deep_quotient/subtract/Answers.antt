use Rattle.std.proofs.Common.{◌<◌, ◌∙◌, sym, ap, length, arith}
use Rattle.circle_field.specs.Field.{sub}
use Rattle.circle_commit.proofs.Written.{mapped-more}
use Rattle.circle_folding.proofs.deep_quotient.subtract.Goals as goal

pub loop-entry-preserved : goal.loop-entry-preserved
loop-entry-preserved g c =
    let f = λ (a : g.row.F.Denot). sub g.F.Operations.ops a c.args.amount in
    let old = c.args.entries.now in
    let i = c.loop-entry.entry-index in
    let here : i < length old = omega (arith, c.loop-entry-test.true, c.loop-entry.auto.entries) in
    mapped-more f i old c.loop-entry.entries c.entry-item.result c.sub.result here
    c.loop-entry.invariant c.entry-item.is
    (g.met.F.Field.sub_law _ _ _ c.sub.ensures ∙ ap f (sym c.entry-item.is))
