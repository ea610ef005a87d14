use Rattle.std.specs.Prelude.{Vec}
use Rattle.std.specs.declared.alloc.Global.{Global}
use Rattle.std.proofs.Common.{◌∙◌, length, map, ap, zip}
use Rattle.std.proofs.lemmas.Iterator.{YieldsList-from_zip}
use Rattle.std.proofs.lemmas.Iterator.Adapters.{YieldsList-from_vec}
use Rattle.std.proofs.lemmas.Iterator.Consumers.{YieldsList-end, YieldsList-turn}
use Rattle.std.proofs.lemmas.List.{length_push}
use Rattle.circle_commit.specs.Mmcs.{opened_rows}
use Rattle.circle_commit.specs.Claims.{batch_claimed, batch_told}
use Rattle.circle_commit.specs.declared.claims.CommittedBatch.{CommittedBatch}
use Rattle.std.specs.Iterator.Adapters.{zip_first, zip_second}
use Rattle.std.specs.Vec.Iter.{into_iter_items, into_iter_len}
use Rattle.circle_commit.proofs.Lists.{mapped-more, pairwise-mapped, taken-all}
use Rattle.circle_commit.proofs.claims.claims_of.Goals as goal

pub loop-batch-preserved : goal.loop-batch-preserved
loop-batch-preserved g c =
    let all = zip c.args.batches.items c.args.values.items in
    let zipped = c.into_iter-batch-iterator.ensures.into_iter_gives in
    let both = c.zip-batch-items.ensures in
    let first = ap zip_first zipped ∙ both.first in
    let second = ap zip_second zipped in
    let of_batches =
    YieldsList-from_vec c.args.batches.items
    (ap into_iter_items first ∙ c.into_iter.ensures.rest)
    (ap into_iter_len first ∙ c.into_iter.ensures.len ∙ c.args.batches.ok.0) in
    let of_values =
    YieldsList-from_vec c.args.values.items (ap into_iter_items second ∙ both.second.0)
    (ap into_iter_len second ∙ both.second.1 ∙ c.args.values.ok.0) in
    let road = YieldsList-from_zip of_batches of_values in
    let done = c.loop-batch.yielded in
    let this : CommittedBatch g.row.Challenge.Denot g.row.Commitment.Denot g.row.Domain.Denot × Vec
    (Vec (Vec g.row.Challenge.Denot Global) Global) Global =
    (c.in-Some.batch, c.in-Some.values) in
    let turn = YieldsList-turn road done _ c.loop-batch.yielded_by _ c.next.new.self this
    c.in-Some.is c.next.ensures.steps in
    mapped-more (λ t. batch_claimed t.0 (opened_rows t.1.items)) batch_told all (length done) _ this
    c.loop-batch.claims.items c.push.new.self.items _
    (length_push done this) turn.0 turn.1 c.in_ok-push.ensures.items
    (ap (λ ms. (c.in-Some.batch.commitment, ms)) c.in_ok-matrix_claims.ensures)
    c.loop-batch.invariant

pub returns : goal.returns
returns g c =
    let all = zip c.args.batches.items c.args.values.items in
    let zipped = c.into_iter-batch-iterator.ensures.into_iter_gives in
    let both = c.zip-batch-items.ensures in
    let first = ap zip_first zipped ∙ both.first in
    let second = ap zip_second zipped in
    let of_batches =
    YieldsList-from_vec c.args.batches.items
    (ap into_iter_items first ∙ c.into_iter.ensures.rest)
    (ap into_iter_len first ∙ c.into_iter.ensures.len ∙ c.args.batches.ok.0) in
    let of_values =
    YieldsList-from_vec c.args.values.items (ap into_iter_items second ∙ both.second.0)
    (ap into_iter_len second ∙ both.second.1 ∙ c.args.values.ok.0) in
    let road = YieldsList-from_zip of_batches of_values in
    let last = YieldsList-end road c.loop-batch.yielded _ c.loop-batch.yielded_by _ c.next.new.self
    c.in-None.is c.next.ensures.steps in
    c.loop-batch.invariant ∙ ap (map (λ t. batch_claimed t.0 (opened_rows t.1.items)))
    (taken-all (length c.loop-batch.yielded) all last.1)
    ∙ pairwise-mapped batch_claimed (λ rows. opened_rows rows.items) c.args.batches.items
    c.args.values.items
