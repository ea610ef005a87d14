use Rattle.std.proofs.Common.{◌≡◌, ◌≢◌, List, map}
use Rattle.std.specs.Prelude.{All}
use Rattle.circle_commit.proofs.Written.{written}
use Rattle.circle_folding.specs.Fold.{folds}
use Rattle.circle_folding.specs.Chain.{asked_pairs}
use Rattle.circle_folding.proofs.query.fold_query_values_with_inv_twiddles.Given as goal

abbrev pub invariant-loop-i : goal.invariant-loop-i
invariant-loop-i g l =
    (ts : List g.row.F.Denot) → All (λ t. t ≢ g.F.Operations.ops.zero) ts →
    l.inv_twiddles ≡ map g.F.Operations.ops.inv ts →
    l.values
    ≡ written l.i
    (folds g.EF.Operations.ops l.beta (map g.EF.ExtensionField.embed ts)
    (asked_pairs l.bits l.indices l.fn.values l.siblings)) l.fn.values
