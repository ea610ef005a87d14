use Rattle.std.proofs.Common.{◌≡◌, ◌++◌, take}
use Rattle.circle_quotient.proofs.chunks.push_coefficients.Given as goal

abbrev pub invariant-loop-i : goal.invariant-loop-i
invariant-loop-i g l = l.coefficients.items ≡ l.fn.coefficients.items
    ++ take l.i (g.EF.ExtensionField.coefficients l.element)
