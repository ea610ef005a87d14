use Rattle.std.proofs.Common.{◌∙◌, sym, ap, length, below_more, arith}
use Rattle.std.proofs.lemmas.Bool.{not-false}
use Rattle.circle_point.specs.Basis.{x_value}
use Rattle.circle_domain.proofs.ClearOf.{not_same}
use Rattle.circle_relation.specs.Accepts.{rounds, round_value}
use Rattle.circle_relation.specs.Reasons.{IsReason}
use Rattle.circle_verifier.specs.OfRun.{fields_of, run_of}
use Rattle.circle_verifier.proofs.LastWord.{last-short, last-low, final-at, value-at}
use Rattle.circle_verifier.proofs.LastWord.{length-at_queries}
use Rattle.circle_relation.proofs.Ends.{all-end, each-ends}
use Rattle.circle_verifier.proofs.last_word.LastValues.check_final.Goals as goal

pub overflow_add-log_len : goal.overflow_add-log_len
overflow_add-log_len g c =
    let o = c.args.self.now.run.now.run in
    omega (
      arith,
      last-short o,
      o.drawn.in_group,
      g.met.Val.ComplexExtendable.at_most_62,
    )

pub overflow_sub-bits : goal.overflow_sub-bits
overflow_sub-bits g c = omega (arith, last-short c.args.self.now.run.now.run)

pub loop-j-init : goal.loop-j-init
loop-j-init g c = λ j none. absurd (omega arith)

pub overflow_shr-index : goal.overflow_shr-index
overflow_shr-index g c =
    omega (
      arith,
      c.args.self.now.run.now.run.drawn.in_group,
      g.met.Val.ComplexExtendable.at_most_62,
    )

pub x_at-x-requires-clause-in_group : goal.x_at-x-requires-clause-in_group
x_at-x-requires-clause-in_group g c =
    let o = c.args.self.now.run.now.run in
    omega (arith, last-short o, o.drawn.in_group)

pub x_at-x-requires-clause-within : goal.x_at-x-requires-clause-within
x_at-x-requires-clause-within g c =
    last-low c.args.self.now.run.now.run c.loop-j.j c.loop-j-test.true

pub offset_bounds-values-j : goal.offset_bounds-values-j
offset_bounds-values-j g c =
    let o = c.args.self.now.run.now.run in
    let k = fields_of o in
    let r = run_of o in
    omega (
      arith,
      c.loop-j-test.true,
      ap length (c.as_slice-values.ensures.value ∙ c.args.self.now.ends),
      length-at_queries k o.params.now r
          (λ j q. round_value k o.params.now r j q (rounds k o.params.now r)),
    )

pub bounds-values-j : goal.bounds-values-j
bounds-values-j g c =
    let o = c.args.self.now.run.now.run in
    let k = fields_of o in
    let r = run_of o in
    omega (
      arith,
      c.loop-j-test.true,
      ap length (c.as_slice-values.ensures.value ∙ c.args.self.now.ends),
      length-at_queries k o.params.now r
          (λ j q. round_value k o.params.now r j q (rounds k o.params.now r)),
    )

pub returns-then-ne-clause-refused : goal.returns-then-ne-clause-refused
unfolding IsReason
returns-then-ne-clause-refused g c = λ ends.
    let o = c.args.self.now.run.now.run in
    let r = run_of o in
    let j = c.loop-j.j in
    let value =
    value-at (fields_of o) o.params.now r
    (λ j q. round_value (fields_of o) o.params.now r j q (rounds (fields_of o) o.params.now r))
    c.as_slice-values.result.now j c.index-values-j.result
    (c.as_slice-values.ensures.value ∙ c.args.self.now.ends) c.loop-j-test.true
    c.index-values-j.is in
    let final = final-at o j c.x_at-x.result c.x_value.result
    c.loop-j-test.true c.x_at-x.ensures
    (c.x_value.ensures
    ∙ ap (λ p. x_value g.EF.Operations.ops p (g.EF.ExtensionField.embed c.x_at-x.result))
    c.deref.ensures.value) in
    (not_same g.EF.PartialEq.eq g.met.EF.Field.eq_law c.index-values-j.result c.x_value.result).0
    (sym c.ne.ensures ∙ c.if-ne.true)
    (value ∙ each-ends (fields_of o) o.params.now r ends j c.loop-j-test.true ∙ sym final)

pub loop-j-preserved : goal.loop-j-preserved
loop-j-preserved g c =
    let o = c.args.self.now.run.now.run in
    let r = run_of o in
    let j = c.loop-j.j in
    let value =
    value-at (fields_of o) o.params.now r
    (λ j q. round_value (fields_of o) o.params.now r j q (rounds (fields_of o) o.params.now r))
    c.as_slice-values.result.now j c.index-values-j.result
    (c.as_slice-values.ensures.value ∙ c.args.self.now.ends) c.loop-j-test.true
    c.index-values-j.is in
    let final = final-at o j c.x_at-x.result c.x_value.result
    c.loop-j-test.true c.x_at-x.ensures
    (c.x_value.ensures
    ∙ ap (λ p. x_value g.EF.Operations.ops p (g.EF.ExtensionField.embed c.x_at-x.result))
    c.deref.ensures.value) in
    let same = (g.met.EF.Field.eq_law c.index-values-j.result c.x_value.result).0
    (not-false _ (sym c.ne.ensures ∙ c.if-ne.false)) in
    below_more _ _ c.loop-j.invariant (sym value ∙ same ∙ final)

pub returns-clause-ended : goal.returns-clause-ended
returns-clause-ended g c =
    let o = c.args.self.now.run.now.run in
    all-end (fields_of o) o.params.now (run_of o)
    (λ j lt. c.loop-j.invariant j (omega (arith, lt, c.loop-j-test.false)))
