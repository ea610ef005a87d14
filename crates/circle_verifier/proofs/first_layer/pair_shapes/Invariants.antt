use Rattle.std.proofs.Common.{◌≡◌, map, take}
use Rattle.circle_verifier.specs.FirstLayer.{pair_shape}
use Rattle.circle_verifier.proofs.first_layer.pair_shapes.Given as goal

abbrev pub invariant-loop-log_height : goal.invariant-loop-log_height
invariant-loop-log_height l = l.shapes.items ≡ map pair_shape (take l.log_height-index l.heights)
