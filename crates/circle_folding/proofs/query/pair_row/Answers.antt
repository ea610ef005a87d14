use Rattle.std.proofs.Common.{◌++◌, [], ◌∷◌, ◌∙◌, ap}
use Rattle.circle_folding.proofs.query.pair_row.Goals as goal

pub returns : goal.returns
returns g c =
    let pair = c.ordered-low.result in
    c.in_ok-push-2.ensures.items
    ∙ ap (λ row. row ++ pair.1 ∷ [])
    (c.in_ok-push.ensures.items ∙ ap (λ row. row ++ pair.0 ∷ []) c.in_ok-row.ensures.items)
    ∙ c.ordered-low.ensures
