use Rattle.std.proofs.Common.{◌≡◌, map, take}
use Rattle.circle_stark.proofs.identity.embedded.Given as goal

abbrev pub invariant-loop-element : goal.invariant-loop-element
invariant-loop-element g l =
    l.embedded.items ≡ map g.EF.ExtensionField.embed (take l.element-index l.elements)
