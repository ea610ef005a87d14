use Rattle.std.proofs.Common.{◌≡◌, ◌/◌, ◌^◌, map, take}
use Rattle.circle_folding.proofs.query.without_bits.Given as goal

abbrev pub invariant-loop-index : goal.invariant-loop-index
invariant-loop-index l = l.rest.items ≡ map (λ q. q / 2 ^ l.bits) (take l.index-index l.indices)
