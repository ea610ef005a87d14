use Rattle.std.proofs.Common.{◌≤◌, ◌∙◌, sym, ap, arith, length, take}
use Rattle.std.proofs.lemmas.List.{get_or_default, take_all}
use Rattle.circle_quotient.specs.Composition.{together}
use Rattle.circle_quotient.specs.Records.{selectors_of}
use Rattle.circle_quotient.proofs.Together.{together-more}
use Rattle.circle_quotient.proofs.composition.put_together.Goals as goal

pub loop-constraint-preserved : goal.loop-constraint-preserved
loop-constraint-preserved g c =
    let l = g.E.Operations.ops in
    let s = selectors_of c.args.selectors.now in
    let nodes = c.args.nodes.now in
    let cs = c.args.constraints.now in
    let alpha = c.args.alpha in
    let i = c.loop-constraint.constraint-index in
    let below = c.loop-constraint-test.true in
    g.met.E.Field.add_law _ _ _ c.add-sum.ensures
    ∙ ap (λ v. l.add v c.mul-in-loop-constraint.result)
    (g.met.E.Field.mul_law _ _ _ c.mul.ensures ∙ ap (l.mul alpha) c.loop-constraint.invariant)
    ∙ ap (l.add (l.mul alpha (together l (take i cs) nodes s alpha)))
    (g.met.E.Field.mul_law _ _ _ c.mul-in-loop-constraint.ensures
    ∙ ap (λ v. l.mul v c.index-nodes-constraint.result) c.place_selector-selector.ensures
    ∙ ap (l.mul _) (c.index-nodes-constraint.is
    ∙ get_or_default nodes _ c.index-nodes-constraint.result l.zero (c.requires i _ below)))
    ∙ sym (together-more l s nodes alpha cs i _ below)

pub returns : goal.returns
returns g c =
    let end : length c.args.constraints.now ≤ c.loop-constraint.constraint-index =
    omega (arith, c.loop-constraint-test.false) in
    c.loop-constraint.invariant
    ∙ ap (λ cs. together g.E.Operations.ops cs c.args.nodes.now (selectors_of c.args.selectors.now)
    c.args.alpha) (take_all c.loop-constraint.constraint-index c.args.constraints.now end)
