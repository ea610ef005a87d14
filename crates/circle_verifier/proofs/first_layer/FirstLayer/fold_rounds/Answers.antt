use Rattle.std.proofs.Common.{◌≡◌, ◌+◌, ◌-◌, [], ◌∷◌, ◌∙◌, sym, ap, length, map, below_more, arith}
use Rattle.std.proofs.Common.{le_antisymm}
use Rattle.std.proofs.lemmas.List.{map-append, length-map}
use Rattle.std.proofs.lemmas.Result.{IfOk-from_err}
use Rattle.circle_field.proofs.Inverses.{take-whole}
use Rattle.circle_commit.specs.declared.error.FriError.TheVariants.{Memory}
use Rattle.circle_relation.specs.RunOf.{joining_of}
use Rattle.circle_verifier.specs.OfRun.{fields_of, Refuses}
use Rattle.circle_relation.specs.Reasons.{IsReason}
use Rattle.circle_verifier.specs.Rounds.{inverses_from, values_in}
use Rattle.circle_verifier.proofs.LastWord.{last-short}
use Rattle.circle_verifier.proofs.RoundsValues.{written-twice, length-values_in, length-folds_in}
use Rattle.circle_verifier.proofs.RoundsValues.{first-left, first-values, first-there}
use Rattle.circle_verifier.proofs.RoundsOpened.{of-rounds}
use Rattle.circle_verifier.proofs.Twiddles.{next-inverses}
use Rattle.circle_verifier.proofs.ReducedValues.{handed_on}
use Rattle.circle_verifier.proofs.first_layer.FirstLayer.fold_rounds.Given as given
use Rattle.circle_verifier.proofs.first_layer.FirstLayer.fold_rounds.Goals as goal
use Rattle.circle_verifier.proofs.first_layer.FirstLayer.fold_rounds.Goals.{In_default}

-- the greatest height is claimed
none-left : (g : given.Over) (c : In_default g) → ⊥
none-left g c =
    let folded = c.args.self.folded in
    first-there c.args.self.run.now.run (map joining_of folded.items)
    (omega (
      arith,
      length-map folded.items joining_of,
      folded.ok.0,
      c.in_default.ensures.cases.0,
    )) c.args.self.folds

pub invariant_of-result : goal.invariant_of-result
invariant_of-result g c = absurd (none-left g (goal.at.invariant_of-result g c).In_default)

pub returns-in_default-clause-shown : goal.returns-in_default-clause-shown
returns-in_default-clause-shown g c =
    absurd (none-left g (goal.at.returns-in_default-clause-shown g c).In_default)

pub
    inverse_round_twiddles-requires-clause-rounds :
    goal.inverse_round_twiddles-requires-clause-rounds
inverse_round_twiddles-requires-clause-rounds g c =
    let o = c.args.self.run.now.run in
    omega (
      arith,
      o.drawn.betas,
      o.drawn.top,
      o.drawn.blowup,
      last-short o,
    )

pub
    inverse_round_twiddles-requires-clause-in_group :
    goal.inverse_round_twiddles-requires-clause-in_group
inverse_round_twiddles-requires-clause-in_group g c = c.args.self.run.now.run.drawn.in_group

pub
    inverse_round_twiddles-requires-clause-in_range :
    goal.inverse_round_twiddles-requires-clause-in_range
inverse_round_twiddles-requires-clause-in_range g c = c.args.self.run.now.run.drawn.below

pub returns-in_err-inverses-clause-shown : goal.returns-in_err-inverses-clause-shown
returns-in_err-inverses-clause-shown g c =
    IfOk-from_err c.from_residual.result _ c.from_residual.ensures.0

pub returns-in_err-inverses-clause-refused : goal.returns-in_err-inverses-clause-refused
unfolding IsReason
returns-in_err-inverses-clause-refused g c =
    handed_on c.from_residual.result Memory
    (Refuses c.args.self.run.now.run) c.from_residual.ensures.1 tt

pub loop-round-init : goal.loop-round-init
loop-round-init g c =
    let o = c.args.self.run.now.run in
    let k = fields_of o in
    let first = c.in-Some.first in
    let rest = c.pop.new.self.items in
    let e = sym (map-append joining_of rest (first ∷ []))
    ∙ ap (map joining_of) (sym c.in-Some.ensures.items) ∙ c.args.self.folds in
    let all : length o.betas.now ≡ length o.betas.now - 0 = omega arith in
    record {
      values = first-values o
          (map joining_of rest) (joining_of first) e;
      left = ap (map joining_of) c.as_slice-left.ensures.value
          ∙ first-left o (map joining_of rest)
          (joining_of first) e;
      later = c.as_slice-later.ensures.value ∙ c.in_ok-inverses.ensures
          ∙ ap (inverses_from k.field k.gen o.log_max_height o.indices.now 0) all;
      shown = λ n none. absurd (omega (arith, none));
    }

pub split_at-requires : goal.split_at-requires
split_at-requires g c =
    let o = c.args.self.run.now.run in
    let k = g.Val.Operations.ops in
    omega (
      arith,
      (next-inverses k g.Val.ComplexExtendable.generators o.log_max_height o.indices.now
          c.loop-round.round (length o.betas.now) c.loop-round-test.true
          c.loop-round.invariant.later).0,
    )

pub fold_round-requires-clause-round : goal.fold_round-requires-clause-round
fold_round-requires-clause-round g c = c.loop-round-test.true

pub fold_round-requires-clause-inverses : goal.fold_round-requires-clause-inverses
fold_round-requires-clause-inverses g c =
    let o = c.args.self.run.now.run in
    let k = g.Val.Operations.ops in
    c.split_at.ensures.front
    ∙ (next-inverses k g.Val.ComplexExtendable.generators o.log_max_height o.indices.now
    c.loop-round.round (length o.betas.now) c.loop-round-test.true
    c.loop-round.invariant.later).1

pub fold_round-requires-clause-values : goal.fold_round-requires-clause-values
fold_round-requires-clause-values g c = c.deref_mut.ensures.value ∙ c.loop-round.invariant.values

pub returns-in_err-fold_round-clause-shown : goal.returns-in_err-fold_round-clause-shown
returns-in_err-fold_round-clause-shown g c =
    IfOk-from_err c.from_residual-in_err-fold_round.result _
    c.from_residual-in_err-fold_round.ensures.0

pub returns-in_err-fold_round-clause-refused : goal.returns-in_err-fold_round-clause-refused
returns-in_err-fold_round-clause-refused g c =
    handed_on c.from_residual-in_err-fold_round.result c.in_err-fold_round.field-0.0
    (Refuses c.args.self.run.now.run)
    c.from_residual-in_err-fold_round.ensures.1 c.in_err-fold_round.ensures.refused

pub join-left-requires-clause-round : goal.join-left-requires-clause-round
join-left-requires-clause-round g c = c.loop-round-test.true

pub join-left-requires-clause-waiting : goal.join-left-requires-clause-waiting
join-left-requires-clause-waiting g c = c.loop-round.invariant.left

pub join-left-requires-clause-values : goal.join-left-requires-clause-values
join-left-requires-clause-values g c =
    let o = c.args.self.run.now.run in
    let n = c.loop-round.round in
    let values = c.loop-round.values in
    let folded = c.in_ok-fold_round.ensures.folded in
    let long = ap length c.loop-round.invariant.values ∙ length-values_in o n in
    c.deref_mut-in-loop-round.ensures.value
    ∙ take-whole values.len c.fold_round.new.values values.items values.ok.0
    (ap length folded ∙ length-folds_in o n ∙ sym long) ∙ folded

pub loop-round-preserved : goal.loop-round-preserved
loop-round-preserved g c =
    let o = c.args.self.run.now.run in
    let k = fields_of o in
    let n = c.loop-round.round in
    let now = c.loop-round.invariant in
    let values = c.loop-round.values in
    let long = ap length now.values ∙ length-values_in o n in
    record {
      values = written-twice values.len c.join-left.new.values c.fold_round.new.values values.items
          values.ok.0
          (ap length c.in_ok-fold_round.ensures.folded ∙ length-folds_in o n ∙ sym long)
          (ap length c.join-left.ensures.values ∙ length-values_in o (n + 1) ∙ sym long)
          ∙ c.join-left.ensures.values;
      left = c.join-left.ensures.left;
      later = c.split_at.ensures.back
          ∙ (next-inverses k.field k.gen o.log_max_height o.indices.now n (length o.betas.now)
          c.loop-round-test.true now.later).2;
      shown = below_more _ _ now.shown c.in_ok-fold_round.ensures.shown;
    }

pub invariant_of-result-2 : goal.invariant_of-result-2
invariant_of-result-2 g c =
    let o = c.args.self.run.now.run in
    let last : c.loop-round.round ≡ length o.betas.now =
    le_antisymm c.loop-round.auto.round-end c.loop-round-test.false in
    record { ends = c.loop-round.invariant.values ∙ ap (values_in o) (last ∙ o.drawn.betas) }

pub returns-clause-shown : goal.returns-clause-shown
returns-clause-shown g c = λ n d lt.
    c.loop-round.invariant.shown n
    (omega (
      arith,
      of-rounds c.args.self.run.now.run n lt,
      c.loop-round-test.false,
    )) d lt
