use Rattle.std.proofs.Common.{◌≡◌, ◌+◌, ◌-◌, ◌*◌, ◌^◌, length}
use Rattle.circle_cfft.specs.Butterflies.{count_of}
use Rattle.circle_cfft.specs.Groups.{in_order, block_factors, ChangesRows}
use Rattle.circle_cfft.specs.Passes.{factors_at}
use Rattle.circle_cfft.proofs.groups.apply_group.Given as goal

abbrev pub invariant-loop-done : goal.invariant-loop-done
invariant-loop-done g l =
    let r = l.group in
    let n = length l.twiddles in
    record {
      rows : ChangesRows g.F.Operations.ops.zero r.offset r.width r.stride (2 ^ n)
          (in_order g.B.Butterfly.lower g.B.Butterfly.upper (g.B.Order.order n) 1
          (block_factors n l.index (factors_at l.twiddles)) l.done) l.fn.block l.block;
      count : count_of l.butterflies ≡ count_of l.fn.butterflies + l.done * 2 ^ (n - 1);
    }
