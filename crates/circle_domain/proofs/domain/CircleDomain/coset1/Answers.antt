use Rattle.std.proofs.Common.{◌-◌, ◌/◌, ◌^◌, ◌∙◌, ap}
use Rattle.circle_field.specs.Circle.{opposite}
use Rattle.circle_domain.specs.Domain.{walk, log_size, shift_of}
use Rattle.circle_domain.specs.Order.{steps_from}
use Rattle.circle_point.specs.Point.{coordinates}
use Rattle.circle_domain.proofs.Orders.{half-pow, first_odd, walk-steps}
use Rattle.circle_domain.proofs.domain.CircleDomain.coset1.Goals as goal

pub returns : goal.returns
returns g c =
    let k = g.F.Operations.ops in
    let laws = g.F.Operations.laws.ring in
    let n = log_size c.args.self.now in
    let s = opposite k (shift_of c.args.self.now) in
    let step = coordinates c.subgroup_generator-step.result in
    let first = coordinates c.sub.result in
    ap (λ count. walk k (count / 2) first step) c.size.ensures
    ∙ ap (λ count. walk k count first step) (half-pow n c.requires.positive)
    ∙ walk-steps laws (2 ^ (n - 1)) first s step 1
    (c.sub.ensures.difference ∙ first_odd laws s step)
    ∙ ap (λ g. steps_from k (2 ^ (n - 1)) g s 1) c.subgroup_generator-step.ensures
