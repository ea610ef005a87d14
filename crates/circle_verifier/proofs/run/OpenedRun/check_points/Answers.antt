use Rattle.std.proofs.Common.{◌∙◌, sym, ap, subst, refl, arith}
use Rattle.std.specs.Prelude.{All}
use Rattle.std.specs.List.{position}
use Rattle.std.proofs.lemmas.List.{take_all}
use Rattle.circle_relation.specs.Reasons.{IsReason}
use Rattle.circle_verifier.specs.OfRun.{fields_of, run_of}
use Rattle.circle_verifier.proofs.Points.{unclaimed, Claimed, all-claimed, more-claimed}
use Rattle.circle_verifier.proofs.Points.{unclaimed-at}
use Rattle.circle_verifier.proofs.run.OpenedRun.check_points.Goals as goal

pub returns-in-Some-clause-refused : goal.returns-in-Some-clause-refused
unfolding IsReason
returns-in-Some-clause-refused g c =
    let run = c.args.self.now in
    let k = fields_of run in
    unclaimed-at k run.params.now (run_of run) run.claims.now c.loop-batch.batch c.in-Some.matrix
    c.claim-item.result refl (omega arith) c.claim-item.is
    (ap (position unclaimed) (sym c.deref.ensures.value) ∙ sym c.in-Some.ensures)

pub loop-batch-preserved : goal.loop-batch-preserved
loop-batch-preserved g c =
    more-claimed c.args.self.now.claims.now c.loop-batch.batch c.claim-item.result (omega arith)
    c.claim-item.is
    (ap (position unclaimed) (sym c.deref.ensures.value) ∙ sym c.first_unclaimed.ensures
    ∙ c.in_default.is) c.loop-batch.invariant

pub returns-clause-claimed : goal.returns-clause-claimed
returns-clause-claimed g c =
    let claims = c.args.self.now.claims.now in
    all-claimed claims
    (subst (λ bs. All (λ b. All Claimed b.matrices.items) bs)
    (take_all c.loop-batch.batch claims (omega arith)) c.loop-batch.invariant)
