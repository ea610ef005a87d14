use Rattle.std.proofs.Common.{◌≡◌, ◌-◌, map, take}
use Rattle.circle_commit.specs.RowMajorMatrix.{rows}
use Rattle.circle_commit.specs.DotProduct.{pairwise}
use Rattle.circle_folding.specs.Fold.{y_folds}
use Rattle.circle_codewords.proofs.corrected.fold_corrected.Given as goal

abbrev pub invariant-loop-layer : goal.invariant-loop-layer
invariant-loop-layer g l =
    map (λ word. word.items) l.folded.items
    ≡ take l.layer-index
    (pairwise
    (λ h rs. y_folds g.F.Operations.ops g.F.ComplexExtendable.generators g.EF.Operations.ops
    g.EF.ExtensionField.embed (h - 1) l.bivariate rs)
    l.heights (map rows l.layers))
