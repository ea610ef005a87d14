use Rattle.std.proofs.Common.{◌≡◌, ◌≢◌}
use Rattle.std.specs.Prelude.{All}
use Rattle.circle_folding.specs.Chain.{round_twiddles}
use Rattle.circle_verifier.specs.Rounds.{twiddles_from}
use Rattle.circle_verifier.proofs.rounds.inverse_round_twiddles.Given as goal

abbrev pub invariant-loop-round : goal.invariant-loop-round
invariant-loop-round g l =
    let k = g.F.Operations.ops in
    let gen = g.F.ComplexExtendable.generators in
    record {
      twiddles : l.twiddles.items ≡ twiddles_from k gen l.log_max_height l.indices 0 l.round;
      of_round : l.of_round.items ≡ round_twiddles k gen l.log_max_height l.round l.indices;
      nonzero : All (λ t. t ≢ k.zero) l.twiddles.items;
    }
