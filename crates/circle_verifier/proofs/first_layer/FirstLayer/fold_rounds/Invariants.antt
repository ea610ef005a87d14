use Rattle.std.proofs.Common.{◌≡◌, ℕ, ◌-◌, ◌<◌, length, map}
use Rattle.circle_relation.specs.RunOf.{joining_of}
use Rattle.circle_verifier.specs.Rounds.{inverses_from, values_in, words_below, HasRound}
use Rattle.circle_verifier.proofs.first_layer.FirstLayer.fold_rounds.Given as goal

abbrev pub invariant-loop-round : goal.invariant-loop-round
invariant-loop-round g l =
    let o = l.run.run in
    record {
      values : l.values.items ≡ values_in o l.round;
      left : map joining_of l.left ≡ words_below o (o.log_max_height - l.round);
      later : l.later ≡ inverses_from g.Val.Operations.ops g.Val.ComplexExtendable.generators
          o.log_max_height o.indices.now l.round (length o.betas.now - l.round);
      shown : (n : ℕ) → n < l.round → HasRound o n;
    }
