use Rattle.circle_air.proofs.Embedding.{values_embedded}
use Rattle.circle_air.specs.Values.{window}
use Rattle.circle_air.proofs.laws.values_commute.Goals as goal

pub returns : goal.returns
returns g c =
    values_embedded g.F.Operations.ops g.E.Operations.ops g.E.ExtensionField.embed
    g.met.E.ExtensionField.embedding c.args.nodes.now
    (window c.args.local.now c.args.next.now c.args.periodic.now c.args.public.now)
