use Rattle.std.proofs.Common.{◌∙◌, map, refl, ap}
use Rattle.std.proofs.lemmas.List.{take_all}
use Rattle.circle_commit.specs.Honest.{requested_points}
use Rattle.circle_commit.specs.Claims.{lists}
use Rattle.circle_round_trip.specs.declared.any_scheme.Committed.{Committed}
use Rattle.circle_commit.proofs.Lists.{mapped-more}
use Rattle.circle_round_trip.proofs.any_scheme.requests_of.Goals as goal

pub loop-batch-preserved : goal.loop-batch-preserved
loop-batch-preserved g c = record {
  kept =
      mapped-more (λ b. b.prover_data) (λ r. r.prover_data.now) c.args.committed.now
      c.loop-batch.batch-index _ c.batch-item.result c.loop-batch.requests.items
      c.push.new.self.items _
      refl c.loop-batch-test.true c.batch-item.is c.in_ok-push.ensures.items refl
      c.loop-batch.invariant.kept;
  points =
      mapped-more (λ b. lists b.known.points) requested_points c.args.committed.now
      c.loop-batch.batch-index _ c.batch-item.result c.loop-batch.requests.items
      c.push.new.self.items _
      refl c.loop-batch-test.true c.batch-item.is c.in_ok-push.ensures.items
      (c.in_ok-copies_of.ensures ∙ ap (λ vs. map (λ v. v.items) vs) c.deref.ensures.value)
      c.loop-batch.invariant.points;
}

pub returns-clause-kept : goal.returns-clause-kept
returns-clause-kept g c =
    c.loop-batch.invariant.kept
    ∙ ap
    (map (λ (b : Committed g.row.E.Denot g.row.Com.Denot g.row.Data.Denot g.row.D.Denot).
    b.prover_data))
    (take_all c.loop-batch.batch-index c.args.committed.now c.loop-batch-test.false)

pub returns-clause-points : goal.returns-clause-points
returns-clause-points g c =
    c.loop-batch.invariant.points
    ∙ ap
    (map (λ (b : Committed g.row.E.Denot g.row.Com.Denot g.row.Data.Denot g.row.D.Denot). lists
    b.known.points))
    (take_all c.loop-batch.batch-index c.args.committed.now c.loop-batch-test.false)
