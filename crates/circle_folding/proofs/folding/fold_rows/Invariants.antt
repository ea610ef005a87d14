use Rattle.std.proofs.Common.{◌≡◌, map, take}
use Rattle.circle_folding.specs.Fold.{folds}
use Rattle.circle_folding.proofs.folding.fold_rows.Given as goal

abbrev pub invariant-loop-j : goal.invariant-loop-j
invariant-loop-j g l =
    l.folded.items
    ≡ take l.j
    (folds g.EF.Operations.ops l.beta (map g.EF.ExtensionField.embed l.twiddles)
    (g.M.Matrix.rows l.evals))
