use Rattle.std.proofs.Common.{subst, arith, slice_index_or}
use Rattle.std.proofs.lemmas.List.{take_all}
use Rattle.std.proofs.lemmas.List.Elements.{All-more}
use Rattle.circle_domain.specs.Selectors.{IsFinite}
use Rattle.circle_codewords.specs.Values.{AreOffStandard, IsOffStandard}
use Rattle.circle_codewords.proofs.Prefix.{off-apart}
use Rattle.circle_codewords.proofs.values.are_off_domain.Goals as goal

pub loop-point-preserved : goal.loop-point-preserved
loop-point-preserved g c =
    let l = g.EF.Operations.ops in
    let points = c.args.points.now in
    let i = c.loop-point.point-index in
    let p = c.point-item.result in
    let IsOff = IsOffStandard g.F.Operations.ops g.F.ComplexExtendable.generators l
    g.EF.ExtensionField.embed c.args.log_height in
    let off = c.is_off_domain.ensures.0 c.if-not-is_off_domain.false in (
      All-more (IsFinite l) points i p c.loop-point-test.true c.loop-point.invariant.0
          (subst (IsFinite l) c.point-item.is off.0),
      All-more IsOff points i p c.loop-point-test.true c.loop-point.invariant.1
          (subst IsOff c.point-item.is off.1),
    )

pub returns-clause-yes : goal.returns-clause-yes
returns-clause-yes g c = λ _.
    subst
    (AreOffStandard g.F.Operations.ops g.F.ComplexExtendable.generators g.EF.Operations.ops
    g.EF.ExtensionField.embed c.args.log_height)
    (take_all c.loop-point.point-index c.args.points.now
    (omega (arith, c.loop-point-test.false))) c.loop-point.invariant

pub returns-clause-apart : goal.returns-clause-apart
returns-clause-apart g c = λ yes i t lt.
    let off = returns-clause-yes g c yes in
    let top = c.requires.in_group in
    off-apart g.F.Operations.laws g.EF.Operations.laws g.met.EF.ExtensionField.embedding
    g.met.F.ComplexExtendable.generators_law c.args.log_height
    (slice_index_or c.args.points.now i t) c.requires.positive (omega (arith, top))
    (off.0 i t lt) (off.1 i t lt)
