use Rattle.std.proofs.Common.{◌≡◌, ℕ, ◌<◌}
use Rattle.circle_air.specs.Values.{entry}
use Rattle.circle_air.proofs.evaluate.write_products.Given as goal

abbrev pub invariant-loop-i : goal.invariant-loop-i
invariant-loop-i g l =
    let k = g.E.Operations.ops in
    (r : ℕ) → r < l.i → entry k l.products r ≡ k.mul (entry k l.left r) (entry k l.right r)
