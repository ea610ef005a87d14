use Rattle.circle_domain.proofs.Results.{if_ok_both}
use Rattle.circle_plane.proofs.cfft.CircleEvaluations+F+RowMajorMatrix+F.evaluate.Goals as goal

pub returns-clause-cfft : goal.returns-clause-cfft
returns-clause-cfft g c =
    let made = c.evaluate_by.ensures.values in
    if_ok_both _ _ _ c.evaluate_by.result (λ e are _. are.cfft) made made

pub returns-clause-values : goal.returns-clause-values
returns-clause-values g c =
    let made = c.evaluate_by.ensures.values in
    if_ok_both _ _ _ c.evaluate_by.result (λ e are _. are.natural) made made

pub returns-clause-prefix : goal.returns-clause-prefix
returns-clause-prefix g c =
    let made = c.evaluate_by.ensures.values in
    if_ok_both _ _ _ c.evaluate_by.result (λ e are _. are.prefix) made made
