use Rattle.std.proofs.Common.{◌≡◌, map}
use Rattle.std.specs.List.{range_with_len}
use Rattle.circle_commit.proofs.matrix.zero_lists.Given as goal

abbrev pub invariant-loop-i : goal.invariant-loop-i
invariant-loop-i g l = map (λ sums. sums.items) l.made.items
    ≡ map (λ _. map (λ _. g.EF.Operations.ops.zero) (range_with_len 0 l.count))
    (range_with_len 0 l._i)
