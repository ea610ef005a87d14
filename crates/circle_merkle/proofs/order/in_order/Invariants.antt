use Rattle.std.proofs.Common.{◌≡◌, map}
use Rattle.std.specs.List.{range_with_len}
use Rattle.circle_merkle.specs.Order.{entry_at}
use Rattle.circle_merkle.proofs.order.in_order.Given as goal

abbrev pub invariant-loop-place : goal.invariant-loop-place
invariant-loop-place l = l.order.items ≡ map (entry_at l.indices) (range_with_len 0 l.place)
