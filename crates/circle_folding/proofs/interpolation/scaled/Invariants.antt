use Rattle.std.proofs.Common.{◌≡◌, map, take}
use Rattle.circle_folding.proofs.interpolation.scaled.Given as goal

abbrev pub invariant-loop-entry : goal.invariant-loop-entry
invariant-loop-entry g l =
    l.scaled.items ≡ map (g.EF.Operations.ops.mul (g.EF.ExtensionField.embed l.factor))
    (take l.entry-index l.entries)
