use Rattle.std.proofs.Common.{◌≡◌, ℕ, ◌<◌}
use Rattle.circle_air.specs.Values.{entry}
use Rattle.circle_quotient.proofs.selectors.write_row_selector.Given as goal

abbrev pub invariant-loop-i : goal.invariant-loop-i
invariant-loop-i g l =
    let k = g.F.Operations.ops in
    (r : ℕ) → r < l.i → entry k l.values r
    ≡ k.mul (entry k l.weights r) (k.add l.y (entry k l.heights r))
