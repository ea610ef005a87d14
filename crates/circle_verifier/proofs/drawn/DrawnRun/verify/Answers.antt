use Rattle.std.proofs.Common.{◌∙◌}
use Rattle.circle_relation.specs.StatementOf.{batch_claims}
use Rattle.circle_relation.specs.RunOf.{proof_of}
use Rattle.circle_relation.specs.Taken.{challenges_of}
use Rattle.circle_verifier.specs.OfDrawn.{drawn_run}
use Rattle.circle_verifier.specs.OfRun.{fields_of}
use Rattle.circle_verifier.proofs.Verified.{accepted, shape-of, claimed-of, large-of, holds-of}
use Rattle.circle_verifier.proofs.Verified.{reason-of, false_not}
use Rattle.circle_relation.proofs.Results.{on_both, if_err}
use Rattle.circle_verifier.proofs.drawn.DrawnRun.verify.Goals as goal

pub returns-clause-accepted : goal.returns-clause-accepted
returns-clause-accepted g c =
    let d = c.args.self.now in
    let p = d.run.params.now in
    let r = drawn_run d in
    let o = c.opened-run.result in
    let made = c.opened-run.ensures in
    let m = c.args.mmcs.now in
    on_both c.verify.result
    (λ opened holds. accepted (fields_of o) _ _ p (batch_claims d.run.claims.now)
    (proof_of d.run.proof.now) (challenges_of d.draws) d.count
    (λ w h. (g.met.Val.Field.eq_law w g.Val.Field.ZERO).0 h ∙ g.met.Val.Field.zero_law)
    (λ t h at. false_not _ h ((g.met.EF.Field.eq_law _ _).1 at)) d.run.tested
    (shape-of o m p r made.mmcs made.params made.run opened)
    (claimed-of o m p r made.mmcs made.params made.run opened)
    (large-of o m p r made.mmcs made.params made.run opened)
    (holds-of o m p r made.mmcs made.params made.run holds))
    c.verify.ensures.opened c.verify.ensures.holds

pub returns-clause-refused : goal.returns-clause-refused
returns-clause-refused g c =
    let d = c.args.self.now in
    let made = c.opened-run.ensures in
    if_err _ _ c.verify.result
    (reason-of c.opened-run.result c.args.mmcs.now d.run.params.now (drawn_run d) made.mmcs
    made.params made.run)
    c.verify.ensures.refused
