use Rattle.std.proofs.Common.{◌≡◌, ◌≢◌, map, take}
use Rattle.std.specs.Prelude.{All}
use Rattle.std.specs.List.{flat_map}
use Rattle.circle_folding.specs.Chain.{first_layer_twiddle}
use Rattle.circle_verifier.proofs.first_layer.inverse_first_twiddles.Given as goal

abbrev pub invariant-loop-word : goal.invariant-loop-word
invariant-loop-word g l = record {
  twiddles : l.twiddles.items
      ≡ flat_map
      (λ w. map
      (first_layer_twiddle g.Val.Operations.ops g.Val.ComplexExtendable.generators w.log_height
      l.log_max_height) l.indices) (take l.word-index l.words);
  nonzero : All (λ t. t ≢ g.Val.Operations.ops.zero) l.twiddles.items;
}
