use Rattle.std.proofs.Common.{◌≡◌, ◌<◌, ◌≤◌, length, get_or, subst, arith}
use Rattle.std.proofs.Common.{le_trans, le_of_lt}
use Rattle.std.specs.Prelude.{All, map, zip}
use Rattle.std.proofs.lemmas.Result.{IfOk-from_err}
use Rattle.std.proofs.lemmas.List.{take_all, length_push}
use Rattle.circle_relation.specs.Accepts.{InputAuthenticates}
use Rattle.circle_relation.specs.RunOf.{opened_batch}
use Rattle.circle_verifier.specs.OfRun.{fields_of, run_of, Refuses}
use Rattle.circle_relation.specs.Statement.{all_matrices, log_max_height}
use Rattle.circle_relation.specs.StatementOf.{batch_claim, batch_claims}
use Rattle.circle_verifier.proofs.Rows.{batch-within, rows-reason, handed-on, pairs-length}
use Rattle.circle_verifier.proofs.Rows.{pair-of-all, pair-more, turn-at, turns-end}
use Rattle.circle_verifier.proofs.run.OpenedRun.authenticate_inputs.Given as given
use Rattle.circle_verifier.proofs.run.OpenedRun.authenticate_inputs.Goals as goal
use Rattle.circle_verifier.proofs.run.OpenedRun.authenticate_inputs.Goals.{In-Some}

-- where this turn's pair is
turn-here : (g : given.Over) (c : In-Some g) →
    let claims = c.args.self.now.claims.now in
    let opened = c.args.self.now.proof.now.fri_proof.input_openings.input_openings.items in
    let i = length c.loop-batch.yielded in
    (i < length claims) × (i < length opened)
    × (c.in-Some.batch.now ≡ get_or claims i c.in-Some.batch.now)
    × (c.in-Some.opening.now ≡ get_or opened i c.in-Some.opening.now)
turn-here g c =
    turn-at c.loop-batch.yielded _ c.next.new.self
    c.into_iter-batch-iterator.ensures.into_iter_gives c.zip-batch-items.ensures.first
    c.iter.ensures.rest c.zip-batch-items.ensures.second.0 c.loop-batch.yielded_by c.in-Some.is
    c.next.ensures.steps

pub authenticate_batch-requires-clause-heights : goal.authenticate_batch-requires-clause-heights
authenticate_batch-requires-clause-heights g c =
    let run = c.args.self.now in
    let claims = run.claims.now in
    let turn = turn-here g (goal.at.authenticate_batch-requires-clause-heights g c).In-Some in
    let b = c.in-Some.batch.now in
    let most : log_max_height run.params.now.log_blowup (all_matrices (batch_claims claims)) ≤
    run.log_max_height = omega (arith, run.drawn.top) in
    batch-within run.params.now.log_blowup run.log_max_height claims (length c.loop-batch.yielded) b
    most turn.0 turn.2

pub authenticate_batch-requires-clause-small : goal.authenticate_batch-requires-clause-small
authenticate_batch-requires-clause-small g c =
    le_trans (le_of_lt c.args.self.now.drawn.in_group) g.met.Val.ComplexExtendable.at_most_62

pub loop-batch-preserved : goal.loop-batch-preserved
loop-batch-preserved g c =
    let run = c.args.self.now in
    let k = fields_of run in
    let claims = run.claims.now in
    let opened = run.proof.now.fri_proof.input_openings.input_openings.items in
    let turn = turn-here g (goal.at.loop-batch-preserved g c).In-Some in
    let b = c.in-Some.batch.now in
    let o = c.in-Some.opening.now in
    pair-more batch_claim opened_batch claims opened
    (InputAuthenticates k run.params.now (run_of run)
    (g.InputMmcs.Mmcs.authenticates run.mmcs.now)) (length c.loop-batch.yielded) b o turn.0
    turn.1 turn.2 turn.3 _
    (length_push c.loop-batch.yielded (c.in-Some.batch, c.in-Some.opening))
    c.loop-batch.invariant c.in_ok-authenticate_batch.ensures.shown

pub
    returns-in_err-authenticate_batch-clause-shown :
    goal.returns-in_err-authenticate_batch-clause-shown
returns-in_err-authenticate_batch-clause-shown g c =
    IfOk-from_err c.from_residual.result _ c.from_residual.ensures.0

pub
    returns-in_err-authenticate_batch-clause-refused :
    goal.returns-in_err-authenticate_batch-clause-refused
returns-in_err-authenticate_batch-clause-refused g c =
    let run = c.args.self.now in
    let k = fields_of run in
    let r = run_of run in
    let A = g.InputMmcs.Mmcs.authenticates run.mmcs.now in
    let claims = run.claims.now in
    let opened = run.proof.now.fri_proof.input_openings.input_openings.items in
    let turn = turn-here g (goal.at.returns-in_err-authenticate_batch-clause-refused g c).In-Some in
    let b = c.in-Some.batch.now in
    let o = c.in-Some.opening.now in
    handed-on (Refuses run) c.from_residual.result
    c.in_err-authenticate_batch.field-0.0 c.from_residual.ensures.1
    (rows-reason k run.params.now r A (g.FriMmcs.Mmcs.authenticates run.params.now.mmcs)
    g.InputMmcs.Mmcs.is_memory g.FriMmcs.Mmcs.is_memory
    (InputAuthenticates k run.params.now r A (batch_claim b, opened_batch o))
    c.in_err-authenticate_batch.field-0.0
    (pair-of-all batch_claim opened_batch claims opened (InputAuthenticates k run.params.now r A)
    (length c.loop-batch.yielded) b o turn.0 turn.1 turn.2 turn.3)
    c.in_err-authenticate_batch.ensures.refused)

pub returns-clause-shown : goal.returns-clause-shown
returns-clause-shown g c =
    let run = c.args.self.now in
    let k = fields_of run in
    let claims = run.claims.now in
    let opened = run.proof.now.fri_proof.input_openings.input_openings.items in
    let last = turns-end c.loop-batch.yielded _ c.next.new.self
    c.into_iter-batch-iterator.ensures.into_iter_gives c.zip-batch-items.ensures.first
    c.iter.ensures.rest c.zip-batch-items.ensures.second.0 c.loop-batch.yielded_by c.in-None.is
    c.next.ensures.steps in
    let pairs = zip (batch_claims claims) (map opened_batch opened) in
    subst
    (All
    (InputAuthenticates k run.params.now (run_of run)
    (g.InputMmcs.Mmcs.authenticates run.mmcs.now)))
    (take_all (length c.loop-batch.yielded) pairs
    (omega (arith, last, pairs-length batch_claim opened_batch claims opened)))
    c.loop-batch.invariant
