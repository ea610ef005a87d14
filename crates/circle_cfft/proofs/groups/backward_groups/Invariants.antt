use Rattle.std.proofs.Common.{◌≡◌, ◌+◌, ◌-◌, ◌*◌, ◌<◌, ℕ, length}
use Rattle.circle_cfft.specs.Butterflies.{count_of, total, scaled_difference}
use Rattle.circle_cfft.specs.Passes.{factors_at, ascending}
use Rattle.circle_cfft.proofs.groups.backward_groups.Given as goal

abbrev pub invariant-loop-low : goal.invariant-loop-low
invariant-loop-low g l =
    let k = g.F.Operations.ops in
    record {
      below : l.low < length l.inverses;
      values : l.entries ≡ ascending (total k) (scaled_difference k) l.width (factors_at l.inverses)
          l.low l.fn.entries;
      count : (half : ℕ) → length l.fn.entries ≡ (half + half) * l.width → count_of l.butterflies
          ≡ count_of l.fn.butterflies + l.low * half;
    }

abbrev pub decreases-loop-low : goal.decreases-loop-low
decreases-loop-low g l = length l.inverses - l.low
