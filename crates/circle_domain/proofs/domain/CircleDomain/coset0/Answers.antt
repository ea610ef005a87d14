use Rattle.std.proofs.Common.{◌-◌, ◌/◌, ◌^◌, ◌∙◌, sym, ap}
use Rattle.circle_domain.specs.Domain.{walk, log_size, shift_of}
use Rattle.circle_domain.specs.Order.{steps_from}
use Rattle.circle_point.specs.Point.{coordinates}
use Rattle.circle_domain.proofs.Orders.{half-pow, first_even, walk-steps}
use Rattle.circle_domain.proofs.domain.CircleDomain.coset0.Goals as goal

pub returns : goal.returns
returns g c =
    let k = g.F.Operations.ops in
    let laws = g.F.Operations.laws.ring in
    let n = log_size c.args.self.now in
    let s = shift_of c.args.self.now in
    let step = coordinates c.subgroup_generator.result in
    ap (λ count. walk k (count / 2) s step) c.size.ensures
    ∙ ap (λ count. walk k count s step) (half-pow n c.requires.positive)
    ∙ walk-steps laws (2 ^ (n - 1)) s s step 0 (sym (first_even laws s step))
    ∙ ap (λ g. steps_from k (2 ^ (n - 1)) g s 0) c.subgroup_generator.ensures
