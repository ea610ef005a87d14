use Rattle.std.proofs.Common.{◌≡◌, ◌+◌, List, ℕ}
use Rattle.circle_merkle.specs.Order.{first_places}
use Rattle.circle_merkle.specs.Tree.{known, taken_below}
use Rattle.circle_merkle.proofs.verify.has_count.Given as goal

abbrev pub invariant-loop-level : goal.invariant-loop-level
invariant-loop-level l = (indices : List ℕ) → l.firsts ≡ first_places indices l.levels
    → (l.known.items ≡ known indices l.levels l._level)
    × (l.left + taken_below indices l.levels l._level ≡ l.count)
