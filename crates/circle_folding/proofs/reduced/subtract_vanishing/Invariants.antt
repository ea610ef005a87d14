use Rattle.std.proofs.Common.{◌≡◌, map}
use Rattle.circle_field.specs.Field.{sub}
use Rattle.circle_point.specs.Point.{coordinates}
use Rattle.circle_point.specs.Basis.{vanishing}
use Rattle.circle_commit.proofs.Written.{written}
use Rattle.circle_commit.specs.DotProduct.{pairwise}
use Rattle.circle_folding.proofs.reduced.subtract_vanishing.Given as goal

abbrev pub invariant-loop-i : goal.invariant-loop-i
invariant-loop-i g l =
    let ops = g.EF.Operations.ops in
    l.values
    ≡ written l.i
    (pairwise
    (λ v p. sub ops v
    (ops.mul l.lambda (g.EF.ExtensionField.embed (vanishing g.F.Operations.ops l.n p))))
    l.fn.values (map coordinates l.points)) l.fn.values
