use Rattle.std.proofs.Common.{◌≡◌, map}
use Rattle.std.specs.List.{range_with_len}
use Rattle.circle_commit.proofs.matrix.zeros.Given as goal

abbrev pub invariant-loop-i : goal.invariant-loop-i
invariant-loop-i g l = l.zeros.items ≡ map (λ _. g.EF.Operations.ops.zero) (range_with_len 0 l._i)
