use Rattle.std.proofs.Common.{◌∙◌, ap, arith, map}
use Rattle.std.proofs.lemmas.List.{take_all}
use Rattle.circle_domain.proofs.Pointwise.{map_pushed}
use Rattle.circle_folding.proofs.interpolation.scaled.Goals as goal

pub loop-entry-preserved : goal.loop-entry-preserved
loop-entry-preserved g c =
    map_pushed (g.EF.Operations.ops.mul (g.EF.ExtensionField.embed c.args.factor))
    c.args.entries.now c.loop-entry.entry-index
    c.entry-item.result
    c.loop-entry.scaled.items c.push.new.self.items c.times_base.result c.loop-entry-test.true
    c.entry-item.is c.in_ok-push.ensures.items c.loop-entry.invariant c.times_base.ensures

pub loop-entry-init : goal.loop-entry-init
loop-entry-init g c = c.in_ok-scaled.ensures.items

pub returns : goal.returns
returns g c =
    c.loop-entry.invariant
    ∙ ap (map (g.EF.Operations.ops.mul (g.EF.ExtensionField.embed c.args.factor)))
    (take_all c.loop-entry.entry-index c.args.entries.now (omega (arith, c.loop-entry-test.false)))
