use Rattle.std.proofs.Common.{◌∙◌, All, subst, sym}
use Rattle.std.proofs.lemmas.List.{take_all}
use Rattle.std.proofs.lemmas.List.Elements.{All-more}
use Rattle.circle_codewords.proofs.AtPoints.{IsClear, clear-off, off-clear}
use Rattle.circle_codewords.proofs.values.is_clear_of_each.Goals as goal

pub returns-then-not-is_clear_of-clause-no : goal.returns-then-not-is_clear_of-clause-no
returns-then-not-is_clear_of-clause-no g c = λ off.
    let k = g.F.Operations.ops in
    let embed = g.EF.ExtensionField.embed in
    let gen = g.F.ComplexExtendable.generators in
    sym c.if-not-is_clear_of.true
    ∙ c.is_clear_of.ensures.1
    (subst (IsClear k embed gen c.args.log_height) (sym c.point-item.is)
    (off-clear k embed gen c.args.log_height c.args.points.now off.1 c.loop-point.point-index
    c.point-item.result c.loop-point-test.true))

pub loop-point-preserved : goal.loop-point-preserved
loop-point-preserved g c =
    let Is = IsClear g.F.Operations.ops g.EF.ExtensionField.embed g.F.ComplexExtendable.generators
    c.args.log_height in
    All-more Is c.args.points.now c.loop-point.point-index c.point-item.result
    c.loop-point-test.true c.loop-point.invariant
    (subst Is c.point-item.is (c.is_clear_of.ensures.0 c.if-not-is_clear_of.false))

pub returns-clause-yes : goal.returns-clause-yes
returns-clause-yes g c = λ _.
    let k = g.F.Operations.ops in
    let embed = g.EF.ExtensionField.embed in
    let gen = g.F.ComplexExtendable.generators in
    clear-off k embed gen c.args.log_height c.args.points.now
    (subst (All (IsClear k embed gen c.args.log_height))
    (take_all c.loop-point.point-index c.args.points.now c.loop-point-test.false)
    c.loop-point.invariant)
