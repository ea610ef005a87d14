use Rattle.std.proofs.Common.{◌≡◌, ℕ, List, Vec, Global, [], ◌+◌, ◌++◌, ◌∙◌, ◌<◌, drop, flat_map}
use Rattle.std.proofs.Common.{length, map, refl, sym, ap, slice_index_or}
use Rattle.std.specs.Prelude.{zip}
use Rattle.std.proofs.lemmas.List.{drop_more, take_all}
use Rattle.circle_commit.specs.declared.pcs.OpeningRequest.{OpeningRequest}
use Rattle.circle_codewords.specs.Requests.{lists_of}
use Rattle.circle_prover.specs.OfRequests.{asked_in, asked_of}
use Rattle.circle_prover.proofs.KnownRequests.{request-openable}
use Rattle.circle_prover.proofs.Requested.{flat-after}
use Rattle.circle_prover.proofs.openable.OpenableRequests.matrices_at_points.Goals as goal

pub push_matrices-requires-clause-fit : goal.push_matrices-requires-clause-fit
push_matrices-requires-clause-fit g c =
    request-openable c.args.self.now c.loop-request.request-index c.request-item.result _ _
    c.loop-request-test.true c.request-item.is c.get_matrices-matrices.ensures
    c.deref.ensures.value

-- the points of the requests from one on begin with its own
begins : {D E : Type 0} (requests : List (OpeningRequest D E)) (i : ℕ) (r : OpeningRequest D E)
    (coords : List (Vec E Global)) (all : List E) → i < length requests →
    r ≡ slice_index_or requests i r → coords ≡ r.points.items →
    all ≡ flat_map (λ r. flat_map (λ v. v.items) r.points.items) (drop i requests) →
    all ≡ flat_map (λ v. v.items) coords
    ++ flat_map (λ r. flat_map (λ v. v.items) r.points.items) (drop (i + 1) requests)
begins requests i r coords all lt is same are =
    let points = λ (r : OpeningRequest _ _). flat_map (λ v. v.items) r.points.items in
    are ∙ ap (flat_map points) (drop_more requests i r lt)
    ∙ ap (λ q. points q ++ flat_map points (drop (i + 1) requests)) (sym is)
    ∙ ap (λ vs. flat_map (λ v. v.items) vs ++ flat_map points (drop (i + 1) requests)) (sym same)

pub push_matrices-requires-clause-front : goal.push_matrices-requires-clause-front
push_matrices-requires-clause-front g c = (
  _,
  begins c.args.self.now.requests.now c.loop-request.request-index c.request-item.result _ _
      c.loop-request-test.true c.request-item.is c.deref.ensures.value
      c.loop-request.invariant.rest,
)

pub loop-request-preserved : goal.loop-request-preserved
loop-request-preserved g c =
    let requests = c.args.self.now.requests.now in
    let kept = g.InputMmcs.Mmcs.matrices in
    let i = c.loop-request.request-index in
    let r = c.request-item.result in
    let old = map asked_of c.loop-request.list.items in
    record {
      list = flat-after (asked_in kept) requests i r c.loop-request-test.true c.request-item.is
          (i + 1) [] old (map asked_of c.push_matrices.new.list.items) refl
          (c.in_ok-rest.ensures.list
          ∙ ap (λ ms. old ++ zip ms (lists_of c.deref.result.now)) c.get_matrices-matrices.ensures
          ∙ ap (λ ps. old ++ zip (kept r.prover_data.now) (lists_of ps)) c.deref.ensures.value)
          c.loop-request.invariant.list;
      high = c.in_ok-rest.ensures.high c.loop-request.invariant.high;
      rest = c.in_ok-rest.ensures.rest _
          (begins requests i r _ _ c.loop-request-test.true c.request-item.is c.deref.ensures.value
          c.loop-request.invariant.rest);
    }

pub returns : goal.returns
returns g c = (
  c.loop-request.invariant.list
      ∙ ap (flat_map (asked_in g.InputMmcs.Mmcs.matrices))
      (take_all c.loop-request.request-index c.args.self.now.requests.now
      c.loop-request-test.false),
  c.loop-request.invariant.high,
)
