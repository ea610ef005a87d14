use Rattle.std.proofs.Common.{◌≡◌, ◌<◌, [], ◌++◌, ◌∙◌, List, Vec, Global, map, length, flat_map}
use Rattle.std.proofs.Common.{drop, sym, ap, subst, arith}
use Rattle.std.proofs.lemmas.List.{length_push, length-map, take_all}
use Rattle.std.proofs.lemmas.Slice.Zip.{AllZip-long, zip_turn, zip_end}
use Rattle.circle_commit.specs.DotProduct.{pairwise}
use Rattle.circle_commit.specs.Mmcs.{opened_rows}
use Rattle.circle_commit.specs.Pcs.{openings}
use Rattle.circle_commit.specs.declared.pcs.OpeningRequest.{OpeningRequest}
use Rattle.circle_relation.proofs.Pairs.{pair-sources}
use Rattle.circle_codewords.specs.Requests.{AreValuesOf, all_committed, batch_committed}
use Rattle.circle_codewords.specs.Requests.{committed, lists_of, points_of}
use Rattle.circle_codewords.specs.Words.{committed_of}
use Rattle.circle_prover.specs.OfRequests.{AreValued, asked_in, asked_of, fields_of}
use Rattle.circle_prover.proofs.KnownRequests.{batch-fits, batch-front, batch-left, divided}
use Rattle.circle_prover.proofs.KnownRequests.{request-valued}
use Rattle.circle_prover.proofs.Requested.{batch-committed, flat-after, map-at, pairwise-at}
use Rattle.circle_prover.proofs.Requested.{pairwise-long}
use Rattle.circle_prover.proofs.openable.OpenableRequests.opened_matrices.Goals as goal

pub split_at-requires : goal.split_at-requires
split_at-requires g c = c.loop-request.invariant.within

pub split_at-requires-in-loop-request : goal.split_at-requires-in-loop-request
split_at-requires-in-loop-request g c =
    let o = c.args.self.now in
    let batches = c.args.values.now in
    let i = length c.loop-request.yielded in
    let from = pair-sources c.into_iter-request-iterator.ensures.into_iter_gives
    c.zip-request-items.ensures.first c.iter.ensures.rest c.zip-request-items.ensures.second.0 in
    let turn = zip_turn o.requests.now batches c.loop-request.yielded _ _ c.next.new.self _ from.0
    from.1 c.loop-request.yielded_by _ c.in-Some.is c.next.ensures.steps in
    let r = c.in-Some.request.now in
    let rest = c.split_at.result.1.now in
    let left = ap (map asked_of) c.split_at.ensures.back ∙ c.loop-request.invariant.left in
    batch-fits o rest i c.len.result r turn.0 (turn.2 r) c.len.ensures left

pub push_opened-requires-clause-valued : goal.push_opened-requires-clause-valued
push_opened-requires-clause-valued g c =
    let o = c.args.self.now in
    let batches = c.args.values.now in
    let i = length c.loop-request.yielded in
    let from = pair-sources c.into_iter-request-iterator.ensures.into_iter_gives
    c.zip-request-items.ensures.first c.iter.ensures.rest c.zip-request-items.ensures.second.0 in
    let turn = zip_turn o.requests.now batches c.loop-request.yielded _ _ c.next.new.self _ from.0
    from.1 c.loop-request.yielded_by _ c.in-Some.is c.next.ensures.steps in
    let r = c.in-Some.request.now in
    let rest = c.split_at.result.1.now in
    let left = ap (map asked_of) c.split_at.ensures.back ∙ c.loop-request.invariant.left in
    let kept = g.InputMmcs.Mmcs.matrices in
    let b = c.in-Some.values.now in
    let here : map asked_of c.split_at-in-loop-request.result.0.now ≡ asked_in kept r =
    ap (map asked_of) c.split_at-in-loop-request.ensures.front
    ∙ batch-front o rest i c.len.result r turn.0 (turn.2 r) c.len.ensures left in
    let asked = map asked_of c.split_at-in-loop-request.result.0.now in
    subst (λ vs. AreValued o asked (opened_rows vs)) (sym c.deref.ensures.value)
    (subst (λ a. AreValued o a (opened_rows b.items)) (sym here)
    (request-valued o batches c.requires.values i r b turn.0 turn.1 (turn.2 r) (turn.3 b)))

pub push_opened-requires-clause-count : goal.push_opened-requires-clause-count
push_opened-requires-clause-count g c =
    let k = fields_of c.args.self.now in
    let batch = c.split_at-in-loop-request.result.0.now in
    let vs = c.deref.result.now in
    sym (length-map vs (λ v. lists_of v.items))
    ∙ AllZip-long
    (λ a v. AreValuesOf k c.args.self.now.params.now.log_blowup a.0 a.1 v)
    (map asked_of batch) (opened_rows vs) (push_opened-requires-clause-valued g c)
    ∙ length-map batch asked_of

pub loop-request-preserved : goal.loop-request-preserved
loop-request-preserved g c =
    let o = c.args.self.now in
    let batches = c.args.values.now in
    let i = length c.loop-request.yielded in
    let from = pair-sources c.into_iter-request-iterator.ensures.into_iter_gives
    c.zip-request-items.ensures.first c.iter.ensures.rest c.zip-request-items.ensures.second.0 in
    let turn = zip_turn o.requests.now batches c.loop-request.yielded _ _ c.next.new.self _ from.0
    from.1 c.loop-request.yielded_by _ c.in-Some.is c.next.ensures.steps in
    let r = c.in-Some.request.now in
    let rest = c.split_at.result.1.now in
    let left = ap (map asked_of) c.split_at.ensures.back ∙ c.loop-request.invariant.left in
    let kept = g.InputMmcs.Mmcs.matrices in
    let b = c.in-Some.values.now in
    let here : map asked_of c.split_at-in-loop-request.result.0.now ≡ asked_in kept r =
    ap (map asked_of) c.split_at-in-loop-request.ensures.front
    ∙ batch-front o rest i c.len.result r turn.0 (turn.2 r) c.len.ensures left in
    let k = fields_of o in
    let blowup = o.params.now.log_blowup in
    let old = map (committed_of k blowup) c.loop-request.list.items in
    let rows = λ (v : Vec (Vec (Vec g.row.EF.Denot Global) Global) Global). opened_rows v.items in
    let f = λ (q : OpeningRequest _ g.row.EF.Denot) (v : List (List (List g.row.EF.Denot))).
    batch_committed k blowup (kept q.prover_data.now) (points_of kept q) v in
    let inside : i < length (openings batches) = omega (arith, turn.1, length-map batches rows) in
    let next = length_push c.loop-request.yielded (c.in-Some.request, c.in-Some.values) in
    record {
      list = flat-after (λ b. b) (all_committed kept k blowup o.requests.now (openings batches)) i
          (f r (rows b))
          (omega (arith, turn.0, inside, pairwise-long f o.requests.now (openings batches)))
          (pairwise-at f o.requests.now (openings batches) i r (rows b) turn.0 inside (turn.2 r)
          (map-at rows batches i b turn.1 (turn.3 b)))
          _ [] old (map (committed_of k blowup) c.push_opened.new.list.items) next
          (c.in_ok-push_opened.ensures
          ∙ ap (λ vs. old ++ pairwise (λ a v. committed k blowup a.0 a.1 v)
          (map asked_of c.split_at-in-loop-request.result.0.now) (opened_rows vs))
          c.deref.ensures.value
          ∙ ap (λ a. old ++ pairwise (λ a v. committed k blowup a.0 a.1 v) a (rows b)) here
          ∙ ap (λ ds. old ++ ds)
          (batch-committed k blowup (kept r.prover_data.now) (points_of kept r) (rows b)))
          c.loop-request.invariant.list;
      within = omega (
        arith,
        c.split_at.ensures.back_len,
        c.split_at-in-loop-request.ensures.front_len,
        c.split_at-in-loop-request.ensures.back_len,
      );
      left = divided c.args.matrices.now c.loop-request.done c.len.result _ rest
          c.split_at-in-loop-request.ensures.front_len c.split_at.ensures.back
          ∙ batch-left o rest i c.len.result r turn.0 (turn.2 r) c.len.ensures left
          ∙ ap (λ a. flat_map (asked_in kept) (drop a o.requests.now)) (sym next);
    }

pub returns : goal.returns
returns g c =
    let o = c.args.self.now in
    let kept = g.InputMmcs.Mmcs.matrices in
    let batches = c.args.values.now in
    let from = pair-sources c.into_iter-request-iterator.ensures.into_iter_gives
    c.zip-request-items.ensures.first c.iter.ensures.rest c.zip-request-items.ensures.second.0 in
    let last = zip_end o.requests.now batches c.loop-request.yielded _ _ c.next.new.self _ from.0
    from.1 c.loop-request.yielded_by c.in-None.is c.next.ensures.steps in
    let rows = λ (v : Vec (Vec (Vec g.row.EF.Denot Global) Global) Global). opened_rows v.items in
    let f = λ (q : OpeningRequest _ g.row.EF.Denot) (v : List (List (List g.row.EF.Denot))).
    batch_committed (fields_of o) o.params.now.log_blowup (kept q.prover_data.now)
    (points_of kept q) v in
    c.loop-request.invariant.list
    ∙ ap (flat_map (λ b. b))
    (take_all (length c.loop-request.yielded) (pairwise f o.requests.now (openings batches))
    (omega (
      arith,
      last,
      pairwise-long f o.requests.now (openings batches),
      length-map batches rows,
    )))
