use Rattle.std.proofs.Common.{◌∙◌, ap, reverse}
use Rattle.circle_quotient.proofs.Weighing.{reversed-powers}
use Rattle.circle_quotient.proofs.weights.falling_powers.Goals as goal

pub returns : goal.returns
returns g c =
    c.reverse.ensures.items ∙ ap reverse c.in_ok-powers.ensures
    ∙ reversed-powers g.E.Operations.ops c.args.x c.args.count
