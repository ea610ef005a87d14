use Rattle.std.proofs.Common.{◌≡◌, ◌+◌, ◌-◌, ◌*◌, ◌^◌, length}
use Rattle.circle_cfft.specs.Butterflies.{count_of}
use Rattle.circle_cfft.specs.Groups.{in_order, block_factors, scaled}
use Rattle.circle_cfft.specs.Passes.{factors_at}
use Rattle.circle_cfft.proofs.GroupBlocks.{DoneColumns}
use Rattle.circle_cfft.proofs.groups.apply_block.Given as goal

abbrev pub invariant-loop-row : goal.invariant-loop-row
invariant-loop-row g l =
    let k = g.F.Operations.ops in
    let n = length l.twiddles in
    record {
      columns : DoneColumns k.zero (l.rows * l.width) (2 ^ n)
          (λ c. scaled k l.scale
          (in_order g.B.Butterfly.lower g.B.Butterfly.upper (g.B.Order.order n) 1
          (block_factors n l.index (factors_at l.twiddles)) n c)) l.fn.block (l.row * l.width)
          l.block;
      count : count_of l.butterflies ≡ count_of l.fn.butterflies + l.row * (n * 2 ^ (n - 1));
    }
