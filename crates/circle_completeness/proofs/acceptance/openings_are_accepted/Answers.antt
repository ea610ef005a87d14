use Rattle.circle_completeness.proofs.Accepted.{accepts-openings}
use Rattle.circle_completeness.proofs.acceptance.openings_are_accepted.Goals as goal

pub returns : goal.returns
returns g c =
    let o = c.args.requests.now in
    let p = o.params.now in
    accepts-openings _ g.Val.Operations.laws g.EF.Operations.laws g.met.EF.ExtensionField.embedding
    g.met.Val.ComplexExtendable.generators_law g.met.Val.ComplexExtendable.at_most_62 _
    g.met.C.CanSampleBits.bits_below p g.InputMmcs.Mmcs.matrices
    (g.InputMmcs.Mmcs.commits o.mmcs.now) (g.InputMmcs.Mmcs.authenticates o.mmcs.now)
    (g.FriMmcs.Mmcs.commits p.mmcs) (g.FriMmcs.Mmcs.authenticates p.mmcs) o.requests.now o.fit
    o.binary o.openable
