use Rattle.std.proofs.Common.{◌≡◌, map, take}
use Rattle.circle_commit.specs.DotProduct.{dot}
use Rattle.circle_codewords.proofs.combined.combined_row.Given as goal

abbrev pub invariant-loop-j : goal.invariant-loop-j
invariant-loop-j g l =
    l.sum
    ≡ dot g.EF.Operations.ops (take l.j l.powers) (take l.j (map g.EF.ExtensionField.embed l.row))
