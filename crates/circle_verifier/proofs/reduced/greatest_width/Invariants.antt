use Rattle.std.proofs.Common.{◌≤◌, length, take, All}
use Rattle.circle_verifier.proofs.reduced.greatest_width.Given as goal

abbrev pub invariant-loop-values : goal.invariant-loop-values
invariant-loop-values g l = All (λ c. length c.1.now ≤ l.width) (take l.values-index l.claims)
