use Rattle.std.proofs.Common.{◌∙◌, ap}
use Rattle.circle_domain.specs.Space.{first_row_of, last_row_of, transition_of}
use Rattle.circle_domain.specs.Space.{inverse_vanishing_of}
use Rattle.circle_domain.proofs.domain.CircleDomainPolynomialSpace.selectors_at_point.Goals as goal

pub returns-clause-first : goal.returns-clause-first
returns-clause-first g c =
    c.selectors_at.ensures.first
    ∙ ap (first_row_of g.Ext.Operations.ops g.Ext.ExtensionField.embed c.args.self.now)
    c.finite_point.ensures

pub returns-clause-last : goal.returns-clause-last
returns-clause-last g c =
    c.selectors_at.ensures.last
    ∙ ap (last_row_of g.Ext.Operations.ops g.Ext.ExtensionField.embed c.args.self.now)
    c.finite_point.ensures

pub returns-clause-transition : goal.returns-clause-transition
returns-clause-transition g c =
    c.selectors_at.ensures.transition
    ∙ ap (transition_of g.Ext.Operations.ops g.Ext.ExtensionField.embed c.args.self.now)
    c.finite_point.ensures

pub returns-clause-inverse : goal.returns-clause-inverse
returns-clause-inverse g c =
    c.selectors_at.ensures.inverse
    ∙ ap (inverse_vanishing_of g.Ext.Operations.ops g.Ext.ExtensionField.embed c.args.self.now)
    c.finite_point.ensures
