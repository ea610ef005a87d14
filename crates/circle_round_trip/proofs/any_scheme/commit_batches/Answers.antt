use Rattle.std.proofs.Common.{sym, ◌∙◌, length, subst}
use Rattle.std.proofs.lemmas.Iterator.Adapters.{YieldsList-from_vec}
use Rattle.std.proofs.lemmas.Iterator.Consumers.{YieldsList-end, YieldsList-turn}
use Rattle.std.proofs.lemmas.List.{map-id}
use Rattle.circle_round_trip.specs.RoundTrip.{AreCommitted, IsUncommittedOf}
use Rattle.circle_round_trip.proofs.Batches.{handed, one-uncommitted, one-more-committed}
use Rattle.circle_round_trip.proofs.any_scheme.commit_batches.Goals as goal

pub returns-in_err-commit_batch-clause-refused : goal.returns-in_err-commit_batch-clause-refused
returns-in_err-commit_batch-clause-refused g c =
    let given = c.into_iter-batch-iterator.ensures.into_iter_gives in
    let road = YieldsList-from_vec c.args.batches.items given.0 (given.1 ∙ c.args.batches.ok.0) in
    let turn = YieldsList-turn road c.loop-batch.yielded _ c.loop-batch.yielded_by _ c.next.new.self
    c.in-Some.batch c.in-Some.is c.next.ensures.steps in
    handed (IsUncommittedOf (g.P.Pcs.commit_refuses c.args.pcs.now) c.args.batches.items)
    c.from_residual-in_err-commit_batch.result c.in_err-commit_batch.field-0.0
    c.from_residual-in_err-commit_batch.ensures.1
    (one-uncommitted (g.P.Pcs.commit_refuses c.args.pcs.now) c.args.batches.items
    (length c.loop-batch.yielded) c.in-Some.batch turn.0 turn.1 c.in_err-commit_batch.field-0.0
    c.in_err-commit_batch.ensures.refused)

pub loop-batch-preserved : goal.loop-batch-preserved
loop-batch-preserved g c =
    subst (AreCommitted (g.P.Pcs.commits c.args.pcs.now) _) (sym c.in_ok-push.ensures)
    (one-more-committed (g.P.Pcs.commits c.args.pcs.now) c.loop-batch.yielded
    c.loop-batch.committed.items c.in-Some.batch c.in_ok-commit_batch.field-0
    c.loop-batch.invariant c.in_ok-commit_batch.ensures.committed)

pub returns-clause-committed : goal.returns-clause-committed
returns-clause-committed g c =
    let given = c.into_iter-batch-iterator.ensures.into_iter_gives in
    let road = YieldsList-from_vec c.args.batches.items given.0 (given.1 ∙ c.args.batches.ok.0) in
    let last = YieldsList-end road c.loop-batch.yielded _ c.loop-batch.yielded_by _ c.next.new.self
    c.in-None.is c.next.ensures.steps in
    subst (λ bs. AreCommitted (g.P.Pcs.commits c.args.pcs.now) bs c.loop-batch.committed.items)
    (sym (map-id c.loop-batch.yielded) ∙ last.0) c.loop-batch.invariant
