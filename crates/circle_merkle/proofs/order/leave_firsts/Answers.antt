use Rattle.std.proofs.Common.{◌∙◌, rules}
use Rattle.std.proofs.lemmas.Fn.{dedup_same}
use Rattle.circle_merkle.proofs.Ordered.{same_index, ordered-firsts}
use Rattle.circle_merkle.proofs.order.leave_firsts.Goals as goal

pub returns : goal.returns
returns c indices levels ordered below =
    dedup_same _ same_index _ (λ x y b f' x' y' k. search rules) _ _ c.dedup_by_key.ensures.filtered
    ∙ ordered-firsts indices c.args.order.now.items ordered levels below
