use Rattle.std.proofs.Common.{◌≡◌, vec_len}
use Rattle.circle_bench.proofs.transforms.Size.matrix.Given as goal

abbrev pub invariant-loop : goal.invariant-loop
invariant-loop l = vec_len l.values ≡ l.counter
