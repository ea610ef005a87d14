use Rattle.std.proofs.Common.{◌≡◌, take}
use Rattle.circle_commit.specs.DotProduct.{dot}
use Rattle.circle_codewords.proofs.reduced.combined_values.Given as goal

abbrev pub invariant-loop-j : goal.invariant-loop-j
invariant-loop-j g l = l.sum ≡ dot g.EF.Operations.ops (take l.j l.powers) (take l.j l.values)
