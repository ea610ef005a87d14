use Rattle.std.proofs.Common.{◌≡◌, ◌+◌, ◌*◌, ◌≤◌, ℕ, length}
use Rattle.circle_cfft.specs.Butterflies.{count_of, plus_multiple, minus_multiple}
use Rattle.circle_cfft.specs.Passes.{factors_at, descending, to_values}
use Rattle.circle_cfft.proofs.groups.forward_groups.Given as goal

abbrev pub invariant-loop-low : goal.invariant-loop-low
invariant-loop-low g l =
    let k = g.F.Operations.ops in
    let n = length l.twiddles in
    record {
      below : l.low ≤ n;
      values : descending (plus_multiple k) (minus_multiple k) l.width (factors_at l.twiddles) l.low
          l.entries ≡ to_values k l.width l.twiddles l.fn.entries;
      count : (half : ℕ) → length l.fn.entries ≡ (half + half) * l.width → count_of l.butterflies
          + l.low * half ≡ count_of l.fn.butterflies + n * half;
    }

abbrev pub decreases-loop-low : goal.decreases-loop-low
decreases-loop-low g l = l.low
