use Rattle.std.proofs.Common.{◌≡◌, ◌∙◌, true, false}
use Rattle.circle_cfft.proofs.QuarterTurns.{right-turn}
use Rattle.circle_cfft.proofs.twiddles.turned.Goals as goal

pub returns-else-left : goal.returns-else-left
returns-else-left g c =
    g.met.F.Field.neg_law _ c.neg.result c.neg.ensures
    ∙ right-turn g.F.Operations.laws g.met.F.ComplexExtendable.generators_law
    g.met.F.ComplexExtendable.at_least_two c.args.a
    (λ one. let t : c.args.left ≡ true = c.requires.1 one in let f : c.args.left ≡ false =
    c.if-left.false in cc)
