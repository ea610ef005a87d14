use Rattle.std.proofs.Common.{◌≡◌, ◌++◌, take}
use Rattle.circle_codewords.proofs.combined.push_coefficients.Given as goal

abbrev pub invariant-loop-i : goal.invariant-loop-i
invariant-loop-i g l = l.values.items ≡ l.fn.values.items
    ++ take l.i (g.EF.ExtensionField.coefficients l.entry)
