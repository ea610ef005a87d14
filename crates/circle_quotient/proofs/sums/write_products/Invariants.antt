use Rattle.std.proofs.Common.{◌≡◌, ℕ, ◌<◌}
use Rattle.circle_air.specs.Values.{entry}
use Rattle.circle_quotient.proofs.sums.write_products.Given as goal

abbrev pub invariant-loop-i : goal.invariant-loop-i
invariant-loop-i g l =
    let k = g.F.Operations.ops in
    (r : ℕ) → r < l.i → entry k l.products r ≡ k.mul (entry k l.left r) (entry k l.right r)
