use Rattle.std.proofs.Common.{◌<◌, ◌∙◌, sym, ap, length, arith}
use Rattle.circle_commit.proofs.Written.{mapped-more}
use Rattle.circle_plane.proofs.cfft.scale.Goals as goal

pub loop-entry-preserved : goal.loop-entry-preserved
loop-entry-preserved g c =
    let f = λ (a : g.row.F.Denot). g.F.Operations.ops.mul a c.args.factor in
    let old = c.args.entries.now in
    let i = c.loop-entry.entry-index in
    let here : i < length old = omega (arith, c.loop-entry-test.true, c.loop-entry.auto.entries) in
    mapped-more f i old c.loop-entry.entries c.entry-item.result c.mul.result here
    c.loop-entry.invariant c.entry-item.is
    (g.met.F.Field.mul_law _ _ _ c.mul.ensures ∙ ap f (sym c.entry-item.is))
