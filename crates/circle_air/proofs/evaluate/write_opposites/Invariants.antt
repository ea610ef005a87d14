use Rattle.std.proofs.Common.{◌≡◌, ℕ, ◌<◌}
use Rattle.circle_air.specs.Values.{entry}
use Rattle.circle_air.proofs.evaluate.write_opposites.Given as goal

abbrev pub invariant-loop-i : goal.invariant-loop-i
invariant-loop-i g l =
    let k = g.E.Operations.ops in
    (r : ℕ) → r < l.i → entry k l.opposites r ≡ k.neg (entry k l.of r)
