use Rattle.std.proofs.Common.{◌≡◌, map, take}
use Rattle.circle_commit.specs.DotProduct.{dot}
use Rattle.circle_codewords.proofs.combined.combined_each.Given as goal

abbrev pub invariant-loop-r : goal.invariant-loop-r
invariant-loop-r g l =
    l.made.items ≡ map (λ row. dot g.EF.Operations.ops l.powers (map g.EF.ExtensionField.embed row))
    (take l.r (g.M.Matrix.rows l.matrix))
