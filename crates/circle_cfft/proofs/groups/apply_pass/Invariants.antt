use Rattle.std.proofs.Common.{◌≡◌, ◌+◌, ◌-◌, ◌*◌, ◌^◌, length}
use Rattle.circle_cfft.specs.Butterflies.{count_of}
use Rattle.circle_cfft.specs.Passes.{factors_at}
use Rattle.circle_cfft.proofs.GroupPasses.{BlocksDone}
use Rattle.circle_cfft.proofs.groups.apply_pass.Given as goal

abbrev pub invariant-loop-index : goal.invariant-loop-index
invariant-loop-index g l =
    let n = length l.twiddles in
    record {
      values : BlocksDone g.F.Operations.ops g.B.Butterfly.lower g.B.Butterfly.upper
          (g.B.Order.order n) (factors_at l.twiddles) n (l.rows * l.width) l.scale l.fn.entries
          l.index l.entries;
      count : count_of l.butterflies ≡ count_of l.fn.butterflies
          + l.index * (l.rows * (n * 2 ^ (n - 1)));
    }
