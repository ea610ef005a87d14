use Rattle.std.proofs.Common.{◌≡◌, map, take}
use Rattle.circle_merkle.proofs.verify.distinct_indices.Given as goal

abbrev pub invariant-loop-first : goal.invariant-loop-first
invariant-loop-first l = l.indices.items ≡ map (λ first. first.0) (take l.first-index l.firsts)
