use Rattle.std.proofs.Common.{◌≡◌, ap, ◌∙◌}
use Rattle.circle_relation.specs.RunOf.{proof_of, run_with}
use Rattle.circle_relation.specs.StatementOf.{batch_claims}
use Rattle.circle_relation.specs.Taken.{challenges_of}
use Rattle.circle_transcript.specs.Claims.{claims_of}
use Rattle.circle_verifier.specs.OfDrawn.{fields_of, drawn_run}
use Rattle.circle_verifier.proofs.Verified.{challenges, is_drawn, false_not}
use Rattle.circle_verifier.proofs.drawn.DrawnRun.opened.Given as given
use Rattle.circle_verifier.proofs.drawn.DrawnRun.opened.Goals as goal
use Rattle.circle_verifier.proofs.drawn.DrawnRun.opened.Goals.{After-deref-3}

-- the run is that of the claims and the proof, with these challenges
run-is : (g : given.Over) (c : After-deref-3 g) →
    let d = c.args.self.now in
    run_with d.run.claims.now d.run.proof.now
    (challenges d.draws.alpha d.draws.bivariate c.deref-2.result.now c.deref-3.result.now)
    ≡ drawn_run d
run-is g c =
    let d = c.args.self.now in
    let with = λ (betas : _) (queries : _). run_with d.run.claims.now d.run.proof.now
    (challenges d.draws.alpha d.draws.bivariate betas queries) in
    ap (λ betas. with betas c.deref-3.result.now) c.deref-2.ensures.value
    ∙ ap (with d.draws.betas.items) c.deref-3.ensures.value

pub returns-clause-run : goal.returns-clause-run
returns-clause-run g c = run-is g (goal.at.returns-clause-run g c).After-deref-3

pub invariant_of-result : goal.invariant_of-result
invariant_of-result g c =
    let d = c.args.self.now in
    record {
      listed = ap claims_of c.deref.ensures.value ∙ d.listed;
      drawn = is_drawn (fields_of d) _ _ d.run.params.now (batch_claims d.run.claims.now)
          (proof_of d.run.proof.now) (challenges_of d.draws) d.count
          (λ t h at. false_not _ h ((g.met.EF.Field.eq_law _ _).1 at)) d.run.tested d.run.top
          d.betas d.below (run-is g c);
    }
