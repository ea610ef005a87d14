use Rattle.std.proofs.Common.{◌∙◌, sym, ap, map}
use Rattle.circle_commit.specs.RowMajorMatrix.{length-rows, rows}
use Rattle.circle_domain.proofs.Results.{if_ok_both}
use Rattle.circle_domain.specs.Domain.{points_of}
use Rattle.circle_domain.specs.Values.{values_at}
use Rattle.circle_plane.proofs.cfft.CircleEvaluations.interpolate.Goals as goal

pub returns-clause-height : goal.returns-clause-height
returns-clause-height g c =
    let made = c.interpolate_by.ensures.values in
    if_ok_both _ _ _ c.interpolate_by.result
    (λ coeffs are _. sym (length-rows coeffs) ∙ are.told.height) made made

pub returns-clause-values : goal.returns-clause-values
returns-clause-values g c =
    let made = c.interpolate_by.ensures.values in
    if_ok_both _ _ _ c.interpolate_by.result (λ coeffs are _. are.told) made made

pub returns-clause-natural : goal.returns-clause-natural
returns-clause-natural g c =
    let k = g.F.Operations.ops in
    let points = points_of k g.F.ComplexExtendable.generators c.args.self.domain in
    if_ok_both _ _ _ c.interpolate_by.result
    (λ coeffs are width. ap (λ w. map (values_at k (rows coeffs) w) points) width ∙ are.natural)
    c.interpolate_by.ensures.values c.interpolate_by.ensures.width

pub returns-clause-only : goal.returns-clause-only
returns-clause-only g c =
    let made = c.interpolate_by.ensures.values in
    if_ok_both _ _ _ c.interpolate_by.result (λ coeffs are _. are.only) made made
