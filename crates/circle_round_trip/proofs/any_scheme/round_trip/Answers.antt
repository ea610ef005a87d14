use Rattle.std.proofs.Common.{◌∙◌, ap, sym, subst}
use Rattle.circle_commit.specs.Pcs.{openings}
use Rattle.circle_commit.specs.DotProduct.{pairwise}
use Rattle.circle_commit.specs.Claims.{batch_claimed}
use Rattle.circle_round_trip.specs.RoundTrip.{AreHonestUnder, IsOfMemory, IsReasonUnder}
use Rattle.circle_round_trip.proofs.Batches.{are-answered, are-kept, are-requests, are-values}
use Rattle.circle_round_trip.proofs.Batches.{asks-for, handed, have-answers, honest-requests}
use Rattle.circle_round_trip.proofs.Batches.{of-memory, why-uncommitted}
use Rattle.circle_round_trip.proofs.any_scheme.round_trip.Goals as goal

pub returns-in_err-committed-clause-accepted : goal.returns-in_err-committed-clause-accepted
returns-in_err-committed-clause-accepted g c =
    let pcs = c.args.pcs.now in
    let batches = c.args.batches.items in
    let state = g.C.ChallengerState.state c.args.prover.now in
    handed
    (λ e. AreHonestUnder g.P.Pcs pcs batches state →
    IsOfMemory g.P.Pcs.is_prover_memory g.P.Pcs.is_memory e)
    c.from_residual.result c.in_err-committed.field-0.0 c.from_residual.ensures.1
    (λ honest. of-memory g.P.Pcs.is_prover_memory g.P.Pcs.is_memory (g.P.Pcs.opens_at pcs)
    (g.P.Pcs.commit_refuses pcs) (g.met.P.Pcs.honest_commit pcs) batches honest.opens
    c.in_err-committed.field-0.0 c.in_err-committed.ensures.refused)

pub returns-in_err-committed-clause-reason : goal.returns-in_err-committed-clause-reason
returns-in_err-committed-clause-reason g c =
    let pcs = c.args.pcs.now in
    let s = g.C.ChallengerState.state c.args.prover.now in
    handed
    (IsReasonUnder g.P.Pcs pcs c.args.batches.items g.P.Domain.PolynomialSpace.size s s
    (g.C.ChallengerState.state c.args.verifier.now))
    c.from_residual.result c.in_err-committed.field-0.0 c.from_residual.ensures.1
    (why-uncommitted g.P.Domain.PolynomialSpace.size (g.P.Pcs.commits pcs)
    (g.P.Pcs.commit_refuses pcs) (g.P.Pcs.open_gives pcs) (g.P.Pcs.open_refuses pcs)
    (g.P.Pcs.verify_refuses pcs) c.args.batches.items s
    (g.C.ChallengerState.state c.args.verifier.now) (sym c.requires.same)
    c.in_err-committed.field-0.0 c.in_err-committed.ensures.refused)

pub open_committed-requires : goal.open_committed-requires
open_committed-requires g c =
    let pcs = c.args.pcs.now in
    let commits = g.P.Pcs.commits pcs in
    let batches = c.args.batches.items in
    let committed = c.in_ok-committed.committed.items in
    let requests = c.in_ok-requests.requests.items in
    let made = c.in_ok-requests.ensures in
    let asked = asks-for c.deref.result.now committed requests c.deref.ensures.value made.kept
    made.points in
    let mine = are-requests commits batches committed requests c.in_ok-committed.ensures.committed
    asked in
    record { asks = g.met.P.Pcs.kept_asks pcs requests (are-kept commits batches requests mine) }

pub returns-in-Err-clause-accepted : goal.returns-in-Err-clause-accepted
returns-in-Err-clause-accepted g c =
    let pcs = c.args.pcs.now in
    let commits = g.P.Pcs.commits pcs in
    let batches = c.args.batches.items in
    let committed = c.in_ok-committed.committed.items in
    let requests = c.in_ok-requests.requests.items in
    let made = c.in_ok-requests.ensures in
    let asked = asks-for c.deref.result.now committed requests c.deref.ensures.value made.kept
    made.points in
    let mine = are-requests commits batches committed requests c.in_ok-committed.ensures.committed
    asked in
    let old = g.C.ChallengerState.state c.args.prover.now in
    let new = g.C.ChallengerState.state c.open_committed.new.challenger in
    λ honest.
    g.met.P.Pcs.honest_open pcs requests old new c.in-Err.error
    (honest-requests commits (g.P.Pcs.opens_at pcs) (g.P.Pcs.finds_witnesses pcs) batches
    requests old mine honest) (honest.finds requests mine) c.in-Err.ensures.refused

pub returns-in-Err-clause-reason : goal.returns-in-Err-clause-reason
returns-in-Err-clause-reason g c =
    let pcs = c.args.pcs.now in
    let commits = g.P.Pcs.commits pcs in
    let batches = c.args.batches.items in
    let committed = c.in_ok-committed.committed.items in
    let requests = c.in_ok-requests.requests.items in
    let made = c.in_ok-requests.ensures in
    let asked = asks-for c.deref.result.now committed requests c.deref.ensures.value made.kept
    made.points in
    let mine = are-requests commits batches committed requests c.in_ok-committed.ensures.committed
    asked in (
      record { requests = requests; asked = mine; refused = c.in-Err.ensures.refused },
      sym c.requires.same,
    )

pub returns-in-Ok-verify-clause-values : goal.returns-in-Ok-verify-clause-values
returns-in-Ok-verify-clause-values g c =
    let pcs = c.args.pcs.now in
    let commits = g.P.Pcs.commits pcs in
    let batches = c.args.batches.items in
    let committed = c.in_ok-committed.committed.items in
    let requests = c.in_ok-requests.requests.items in
    let made = c.in_ok-requests.ensures in
    let asked = asks-for c.deref.result.now committed requests c.deref.ensures.value made.kept
    made.points in
    let mine = are-requests commits batches committed requests c.in_ok-committed.ensures.committed
    asked in
    let old = g.C.ChallengerState.state c.args.prover.now in
    let new = g.C.ChallengerState.state c.open_committed.new.challenger in
    let ws = c.in-Ok.opened.0.items in
    let proof = c.in-Ok.opened.1 in
    are-values commits (g.P.Pcs.values_of pcs) batches requests (openings ws) mine
    (g.met.P.Pcs.true_values pcs requests (openings ws) proof old new c.in-Ok.ensures.opened)

pub returns-in-Ok-verify-clause-states : goal.returns-in-Ok-verify-clause-states
returns-in-Ok-verify-clause-states g c =
    let pcs = c.args.pcs.now in
    let commits = g.P.Pcs.commits pcs in
    let batches = c.args.batches.items in
    let committed = c.in_ok-committed.committed.items in
    let requests = c.in_ok-requests.requests.items in
    let made = c.in_ok-requests.ensures in
    let asked = asks-for c.deref.result.now committed requests c.deref.ensures.value made.kept
    made.points in
    let old = g.C.ChallengerState.state c.args.prover.now in
    let new = g.C.ChallengerState.state c.open_committed.new.challenger in
    let ws = c.in-Ok.opened.0.items in
    let proof = c.in-Ok.opened.1 in
    let claims = c.in_ok-claims.claims.items in
    let size = g.P.Domain.PolynomialSpace.size in
    let all = c.in_ok-committed.ensures.committed in
    let have = have-answers commits batches committed requests (openings ws) c.requires.points all
    asked
    (g.met.P.Pcs.each_point pcs requests (openings ws) proof old new c.in-Ok.ensures.opened) in
    let copied = c.in_ok-copies.ensures ∙ ap openings c.deref-2.ensures.value in
    let told = c.in_ok-claims.ensures
    ∙ (λ i. pairwise batch_claimed (c.in_ok-known_batches.ensures i) (copied i)) in
    let answered = are-answered commits size batches committed requests (openings ws) claims
    c.requires.points all asked have told in
    let accepted = subst (λ s. g.P.Pcs.verify_accepts pcs claims proof s new) c.requires.same
    (g.met.P.Pcs.complete pcs requests (openings ws) proof old new c.in-Ok.ensures.opened claims
    answered) in
    g.met.P.Pcs.one_state pcs claims proof _ new _ accepted c.in-Ok-verify.ensures.accepted

pub returns-in-Err-verify-clause-accepted : goal.returns-in-Err-verify-clause-accepted
returns-in-Err-verify-clause-accepted g c =
    let pcs = c.args.pcs.now in
    let commits = g.P.Pcs.commits pcs in
    let batches = c.args.batches.items in
    let committed = c.in_ok-committed.committed.items in
    let requests = c.in_ok-requests.requests.items in
    let made = c.in_ok-requests.ensures in
    let asked = asks-for c.deref.result.now committed requests c.deref.ensures.value made.kept
    made.points in
    let old = g.C.ChallengerState.state c.args.prover.now in
    let new = g.C.ChallengerState.state c.open_committed.new.challenger in
    let ws = c.in-Ok.opened.0.items in
    let proof = c.in-Ok.opened.1 in
    let claims = c.in_ok-claims.claims.items in
    let size = g.P.Domain.PolynomialSpace.size in
    let all = c.in_ok-committed.ensures.committed in
    let have = have-answers commits batches committed requests (openings ws) c.requires.points all
    asked
    (g.met.P.Pcs.each_point pcs requests (openings ws) proof old new c.in-Ok.ensures.opened) in
    let copied = c.in_ok-copies.ensures ∙ ap openings c.deref-2.ensures.value in
    let told = c.in_ok-claims.ensures
    ∙ (λ i. pairwise batch_claimed (c.in_ok-known_batches.ensures i) (copied i)) in
    let answered = are-answered commits size batches committed requests (openings ws) claims
    c.requires.points all asked have told in
    let accepted = subst (λ s. g.P.Pcs.verify_accepts pcs claims proof s new) c.requires.same
    (g.met.P.Pcs.complete pcs requests (openings ws) proof old new c.in-Ok.ensures.opened claims
    answered) in
    λ honest. c.in-Err-verify.ensures.refused new accepted

pub returns-in-Err-verify-clause-reason : goal.returns-in-Err-verify-clause-reason
returns-in-Err-verify-clause-reason g c =
    let pcs = c.args.pcs.now in
    let commits = g.P.Pcs.commits pcs in
    let batches = c.args.batches.items in
    let committed = c.in_ok-committed.committed.items in
    let requests = c.in_ok-requests.requests.items in
    let made = c.in_ok-requests.ensures in
    let asked = asks-for c.deref.result.now committed requests c.deref.ensures.value made.kept
    made.points in
    let mine = are-requests commits batches committed requests c.in_ok-committed.ensures.committed
    asked in
    let old = g.C.ChallengerState.state c.args.prover.now in
    let new = g.C.ChallengerState.state c.open_committed.new.challenger in
    let ws = c.in-Ok.opened.0.items in
    let proof = c.in-Ok.opened.1 in
    let claims = c.in_ok-claims.claims.items in
    let size = g.P.Domain.PolynomialSpace.size in
    let all = c.in_ok-committed.ensures.committed in
    let have = have-answers commits batches committed requests (openings ws) c.requires.points all
    asked
    (g.met.P.Pcs.each_point pcs requests (openings ws) proof old new c.in-Ok.ensures.opened) in
    let copied = c.in_ok-copies.ensures ∙ ap openings c.deref-2.ensures.value in
    let told = c.in_ok-claims.ensures
    ∙ (λ i. pairwise batch_claimed (c.in_ok-known_batches.ensures i) (copied i)) in
    let answered = are-answered commits size batches committed requests (openings ws) claims
    c.requires.points all asked have told in
    record {
      requests = requests;
      asked = mine;
      values = openings ws;
      proof = proof;
      opened = c.in-Ok.ensures.opened;
      claims = claims;
      answered = answered;
      refused =
          subst
          (λ s. g.P.Pcs.verify_refuses pcs claims proof s
          (g.C.ChallengerState.state c.verify.new.challenger) c.in-Err-verify.error)
          (sym c.requires.same) c.in-Err-verify.ensures.reason;
    }
