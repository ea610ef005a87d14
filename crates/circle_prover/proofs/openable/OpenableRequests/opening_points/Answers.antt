use Rattle.std.proofs.Common.{[], ◌+◌, ◌++◌, ◌∙◌, All, flat_map, refl, sym, ap, subst}
use Rattle.std.proofs.lemmas.List.{take_all}
use Rattle.circle_commit.specs.declared.pcs.OpeningRequest.{OpeningRequest}
use Rattle.circle_domain.specs.Selectors.{IsFinite}
use Rattle.circle_codewords.specs.Points.{coordinates_of}
use Rattle.circle_prover.proofs.KnownRequests.{request-finite}
use Rattle.circle_prover.proofs.Requested.{flat-after}
use Rattle.circle_prover.proofs.openable.OpenableRequests.opening_points.Goals as goal

pub push_batch_points-requires : goal.push_batch_points-requires
push_batch_points-requires g c =
    subst (All (λ v. All (IsFinite g.EF.Operations.ops) v.items)) (sym c.deref.ensures.value)
    (request-finite c.args.self.now c.loop-request.request-index c.request-item.result
    c.loop-request-test.true c.request-item.is)

pub loop-request-preserved : goal.loop-request-preserved
loop-request-preserved g c =
    let i = c.loop-request.request-index in
    let old = coordinates_of c.loop-request.list.items in
    flat-after (λ (r : OpeningRequest _ g.row.EF.Denot). flat_map (λ v. v.items) r.points.items)
    c.args.self.now.requests.now i c.request-item.result c.loop-request-test.true
    c.request-item.is (i + 1) [] old (coordinates_of c.push_batch_points.new.list.items) refl
    (c.in_ok-push_batch_points.ensures
    ∙ ap (λ vs. old ++ flat_map (λ v. v.items) vs) c.deref.ensures.value)
    c.loop-request.invariant

pub returns : goal.returns
returns g c =
    c.loop-request.invariant
    ∙ ap (flat_map (λ (r : OpeningRequest _ g.row.EF.Denot). flat_map (λ v. v.items)
    r.points.items))
    (take_all c.loop-request.request-index c.args.self.now.requests.now
    c.loop-request-test.false)
