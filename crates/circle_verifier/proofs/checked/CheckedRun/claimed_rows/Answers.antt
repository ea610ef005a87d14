use Rattle.std.proofs.Common.{◌≡◌, ◌+◌, ◌<◌, ◌≤◌, ◌++◌, ◌∙◌, get_or, length, sym, ap, subst, arith}
use Rattle.std.proofs.Common.{take}
use Rattle.std.specs.Prelude.{All, map, zip}
use Rattle.std.proofs.lemmas.List.{take_all, length_push}
use Rattle.circle_domain.specs.Domain.{log_size}
use Rattle.circle_commit.specs.Mmcs.{opened_rows}
use Rattle.circle_relation.specs.RunOf.{opened_batch}
use Rattle.circle_relation.specs.Statement.{all_matrices, log_max_height}
use Rattle.circle_relation.specs.StatementOf.{batch_claim, batch_claims, matrix_claims}
use Rattle.circle_verifier.specs.Rows.{placed, all_placed, rows_claimed}
use Rattle.circle_verifier.proofs.ReducedRows.{all_rows-more}
use Rattle.circle_verifier.proofs.Rows.{batch-within, pairs-length, pair-at, turn-at, turns-end}
use Rattle.circle_verifier.proofs.checked.CheckedRun.claimed_rows.Given as given
use Rattle.circle_verifier.proofs.checked.CheckedRun.claimed_rows.Goals as goal
use Rattle.circle_verifier.proofs.checked.CheckedRun.claimed_rows.Goals.{In-Some}

-- where this turn's pair is
turn-here : (g : given.Over) (c : In-Some g) →
    let claims = c.args.self.now.run.claims.now in
    let opened = c.args.self.now.run.proof.now.fri_proof.input_openings.input_openings.items in
    let i = length c.loop-batch.yielded in
    (i < length claims) × (i < length opened)
    × (c.in-Some.batch.now ≡ get_or claims i c.in-Some.batch.now)
    × (c.in-Some.opening.now ≡ get_or opened i c.in-Some.opening.now)
turn-here g c =
    turn-at c.loop-batch.yielded _ c.next.new.self
    c.into_iter-batch-iterator.ensures.into_iter_gives c.zip-batch-items.ensures.first
    c.iter.ensures.rest c.zip-batch-items.ensures.second.0 c.loop-batch.yielded_by c.in-Some.is
    c.next.ensures.steps

pub push_rows-requires : goal.push_rows-requires
push_rows-requires g c =
    let run = c.args.self.now.run in
    let claims = run.claims.now in
    let turn = turn-here g (goal.at.push_rows-requires g c).In-Some in
    let blowup = run.params.now.log_blowup in
    let most : log_max_height blowup (all_matrices (batch_claims claims)) ≤ 62 =
    omega (arith, run.drawn.top, run.drawn.in_group, g.met.Val.ComplexExtendable.at_most_62) in
    subst (All (λ m. log_size m.domain + blowup ≤ 62)) (sym c.deref-in-loop-batch.ensures.value)
    (batch-within blowup 62 claims (length c.loop-batch.yielded) c.in-Some.batch.now most turn.0
    turn.2)

pub loop-batch-preserved : goal.loop-batch-preserved
loop-batch-preserved g c =
    let run = c.args.self.now.run in
    let claims = run.claims.now in
    let opened = run.proof.now.fri_proof.input_openings.input_openings.items in
    let turn = turn-here g (goal.at.loop-batch-preserved g c).In-Some in
    let blowup = run.params.now.log_blowup in
    let n = length c.loop-batch.yielded in
    let pairs = zip (batch_claims claims) (map opened_batch opened) in
    let b = c.in-Some.batch.now in
    let o = c.in-Some.opening.now in
    let so_far = rows_claimed blowup (all_placed (take n pairs)) in
    c.in_ok-push_rows.ensures
    ∙ ap (λ rs. rs ++ rows_claimed blowup (placed (opened_rows c.deref.result.now) 0
    (matrix_claims c.deref-in-loop-batch.result.now))) c.loop-batch.invariant
    ∙ ap (λ rs. so_far ++ rows_claimed blowup (placed (opened_rows rs) 0
    (matrix_claims c.deref-in-loop-batch.result.now))) c.deref.ensures.value
    ∙ ap (λ ms. so_far ++ rows_claimed blowup
    (placed (opened_rows o.opened_values.items) 0 (matrix_claims ms)))
    c.deref-in-loop-batch.ensures.value
    ∙ all_rows-more blowup pairs n (batch_claim b, opened_batch o)
    (omega (arith, turn.0, turn.1, pairs-length batch_claim opened_batch claims opened))
    (pair-at batch_claim opened_batch claims opened n b o turn.0 turn.1 turn.2 turn.3)
    ∙ ap (λ k. rows_claimed blowup (all_placed (take k pairs)))
    (sym (length_push c.loop-batch.yielded (c.in-Some.batch, c.in-Some.opening)))

pub returns : goal.returns
returns g c =
    let run = c.args.self.now.run in
    let claims = run.claims.now in
    let opened = run.proof.now.fri_proof.input_openings.input_openings.items in
    let last = turns-end c.loop-batch.yielded _ c.next.new.self
    c.into_iter-batch-iterator.ensures.into_iter_gives c.zip-batch-items.ensures.first
    c.iter.ensures.rest c.zip-batch-items.ensures.second.0 c.loop-batch.yielded_by c.in-None.is
    c.next.ensures.steps in
    c.loop-batch.invariant
    ∙ ap (λ ps. rows_claimed run.params.now.log_blowup (all_placed ps))
    (take_all (length c.loop-batch.yielded) (zip (batch_claims claims) (map opened_batch opened))
    (omega (arith, last, pairs-length batch_claim opened_batch claims opened)))
