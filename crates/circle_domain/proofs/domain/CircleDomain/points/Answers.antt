use Rattle.std.proofs.Common.{◌-◌, ◌^◌, ◌∙◌, sym, ap}
use Rattle.circle_field.specs.Circle.{opposite}
use Rattle.circle_domain.specs.Domain.{alternating, log_size, shift_of}
use Rattle.circle_domain.specs.Order.{natural_from}
use Rattle.circle_point.specs.Point.{coordinates}
use Rattle.circle_domain.proofs.Orders.{two_halves, first_even, first_odd, alternating-natural}
use Rattle.circle_domain.proofs.Orders.{length-alternating}
use Rattle.circle_domain.proofs.domain.CircleDomain.points.Goals as goal

pub returns-clause-order : goal.returns-clause-order
returns-clause-order g c =
    let k = g.F.Operations.ops in
    let laws = g.F.Operations.laws.ring in
    let n = log_size c.args.self.now in
    let s = shift_of c.args.self.now in
    let step = coordinates c.subgroup_generator-step.result in
    let second = coordinates c.sub.result in
    ap (λ count. alternating k count s second step)
    (c.size.ensures ∙ sym (two_halves n c.requires.positive))
    ∙ alternating-natural laws (2 ^ (n - 1)) s second s step 0 (sym (first_even laws s step))
    (c.sub.ensures.difference ∙ first_odd laws (opposite k s) step)
    ∙ ap (λ g. natural_from k (2 ^ (n - 1)) g s 0) c.subgroup_generator-step.ensures

pub returns-clause-count : goal.returns-clause-count
returns-clause-count g c =
    length-alternating g.F.Operations.ops c.size.result (shift_of c.args.self.now)
    (coordinates c.sub.result) (coordinates c.subgroup_generator-step.result)
    ∙ c.size.ensures
