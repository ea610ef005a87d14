use Rattle.std.proofs.Common.{◌≡◌}
use Rattle.circle_field.specs.Field.{sub}
use Rattle.circle_commit.proofs.Written.{written}
use Rattle.circle_commit.specs.DotProduct.{pairwise}
use Rattle.circle_folding.proofs.interpolation.combine.Given as goal

abbrev pub invariant-loop-i : goal.invariant-loop-i
invariant-loop-i g l =
    let ops = g.EF.Operations.ops in
    record {
      low : l.lows ≡ written l.i (pairwise ops.add l.fn.lows l.fn.highs) l.fn.lows;
      high : l.highs
          ≡ written l.i
          (pairwise (λ a b. ops.mul (g.EF.ExtensionField.embed l.inverse) (sub ops a b)) l.fn.lows
          l.fn.highs) l.fn.highs;
    }
