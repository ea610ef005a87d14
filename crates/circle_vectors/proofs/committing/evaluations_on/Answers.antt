use Rattle.std.proofs.Common.{rules, ◌≡◌, ◌<◌, length, get_or, true, sym, ap, ◌∙◌}
use Rattle.circle_vectors.proofs.PowerAt.{power-at}
use Rattle.circle_vectors.proofs.committing.evaluations_on.Goals as goal

pub
    get_evaluations_on_domain-requires-clause-power :
    goal.get_evaluations_on_domain-requires-clause-power
get_evaluations_on_domain-requires-clause-power g c =
    let matrices = c.args.data.now.matrices.items in
    let m = c.index-matrices-0.result in
    let within : 0 < length matrices = search rules in
    let tested : c.is_power_of_two.result ≡ true = search rules in
    let power = c.is_power_of_two.ensures.0 tested in
    let is : m ≡ get_or matrices 0 m = c.index-matrices-0.is
    ∙ ap (λ ms. get_or ms 0 m) c.get_matrices-matrices.ensures in
    power-at matrices 0 m within is (power.0, sym c.height.ensures ∙ power.1)
