use Rattle.std.proofs.Common.{◌+◌, ◌^◌, ◌≤◌, [], ◌∷◌, arith, refl, subst, sym}
use Rattle.std.proofs.lemmas.Nat.{pow_pos}
use Rattle.circle_commit.specs.Mmcs.{HaveHeightsOfPowers}
use Rattle.circle_commit.specs.Pcs.{openings}
use Rattle.circle_domain.specs.Selectors.{IsFinite}
use Rattle.p3_circle.specs.SchemeFacts.{extended-powers}
use Rattle.p3_circle.specs.SchemeLaws.{asked-open}
use Rattle.circle_stark.specs.OfProvable.{fields_of, schemes_of}
use Rattle.circle_stark.proofs.Committable.{chunk-count, next-finite, requests-asked}
use Rattle.circle_stark.proofs.CommittedValues.{one-kept}
use Rattle.circle_stark.proofs.OpenedRuns.{are-opened, of-both, points-of, run-of}
use Rattle.circle_stark.proofs.Unopened.{unopened-for}
use Rattle.circle_stark.proofs.prover.open_run.Goals as goal

pub open_requests-requires-clause-asks : goal.open_requests-requires-clause-asks
open_requests-requires-clause-asks g c =
    let pcs = c.args.provable.now.pcs.now in
    let run = c.args.run.now in
    let (x, trace) = c.requires.trace in
    let chunks = c.requires.quotient.chunks in
    let powers = extended-powers g.Val.Operations.ops g.Val.ComplexExtendable.generators
    pcs.fri_params.log_blowup (g.InputMmcs.Mmcs.commits pcs.mmcs) in
    of-both (λ d. HaveHeightsOfPowers (g.InputMmcs.Mmcs.matrices d)) run.trace_data
    run.quotient_data
    (powers ((trace.domain, x) ∷ []) (g.InputMmcs.Mmcs.matrices run.trace_data)
    trace.committed.extended)
    (powers chunks.batch (g.InputMmcs.Mmcs.matrices run.quotient_data) chunks.committed.extended)
    c.in_ok-requests.requests.items c.in_ok-requests.ensures.kept

pub values_of_openings-requires : goal.values_of_openings-requires
values_of_openings-requires g c =
    let pcs = c.args.provable.now.pcs.now in
    let run = c.args.run.now in
    let (x, trace) = c.requires.trace in
    are-opened (fields_of c.args.provable.now) pcs.fri_params.log_blowup
    g.InputMmcs.Mmcs.matrices run.trace_data run.quotient_data
    (one-kept g.Val.Operations.ops g.Val.ComplexExtendable.generators pcs.fri_params.log_blowup
    (trace.domain, x) (g.InputMmcs.Mmcs.matrices run.trace_data) trace.committed.extended)
    run.drawn.zeta c.in-Some.next _ c.in_ok-requests.requests.items
    (openings c.in-Ok.opened.0.items) c.in_ok-requests.ensures.kept c.in_ok-requests.ensures.points
    c.in-Ok.ensures.opened.answers

pub refusal_of_opening-requires : goal.refusal_of_opening-requires
refusal_of_opening-requires g c =
    let t = c.args.provable.now in
    let o = schemes_of t in
    let k = fields_of t in
    let p = t.pcs.now.fri_params in
    let n = t.statement.log_n in
    let run = c.args.run.now in
    let (x, trace) = c.requires.trace in
    let chunks = c.requires.quotient.chunks in
    let laws = g.Val.Operations.laws in
    let gens = g.met.Val.ComplexExtendable.generators_law in
    let in_group = t.provable.domains.in_group in
    let small = g.met.Val.ComplexExtendable.at_most_62 in
    let foldable : p.log_final_poly_len + 2 ≤ n = omega (arith, t.provable.large) in
    let Commits = g.InputMmcs.Mmcs.commits t.pcs.now.mmcs in
    let fit = c.in-Some.ensures.some.0 refl in
    let known = requests-asked k p g.InputMmcs.Mmcs.matrices Commits n foldable t.provable.extended
    run.drawn.zeta c.in-Some.next fit.finite
    (subst (IsFinite k.extension) (sym c.in-Some.ensures.next)
    (next-finite g.EF.Operations.laws g.met.EF.ExtensionField.embedding gens n
    (omega (arith, in_group)) run.drawn.zeta fit))
    run.trace_data run.quotient_data x run.trace_commitment run.quotient_commitment trace
    chunks.batch (2 ^ t.log_chunks) (pow_pos t.log_chunks)
    (chunk-count laws gens p n foldable t.provable.extended t.log_chunks in_group chunks.batch
    chunks.shifts)
    chunks.sizes chunks.committed c.in_ok-requests.requests.items c.in_ok-requests.ensures.kept
    (points-of t.log_chunks (omega (arith, in_group, small)) run.drawn.zeta c.in-Some.next
    c.in-Some.next refl _ c.in_ok-requests.ensures.points) in
    asked-open k laws g.EF.Operations.laws g.met.EF.ExtensionField.embedding g.Val.PartialEq.eq
    g.met.Val.Field.eq_law g.EF.PartialEq.eq g.met.EF.Field.eq_law small gens p
    g.InputMmcs.Mmcs.matrices Commits o.words (g.FriMmcs.Mmcs.commits p.mmcs)
    c.in_ok-requests.requests.items _ _ c.in-Err.error known.0 known.1 c.requires.supported
    c.in-Err.ensures.refused

pub returns-in-Err-clause-unopened : goal.returns-in-Err-clause-unopened
returns-in-Err-clause-unopened g c =
    let t = c.args.provable.now in
    let run = c.args.run.now in
    unopened-for (fields_of t) _ t.statement.log_n (2 ^ t.log_chunks) run.trace_data
    run.quotient_data run.drawn.zeta _ _ c.in_ok-requests.requests.items
    c.in_ok-requests.ensures.kept
    (points-of t.log_chunks
    (omega (arith, t.provable.domains.in_group, g.met.Val.ComplexExtendable.at_most_62))
    run.drawn.zeta c.in-Some.next _ c.in-Some.ensures.next _ c.in_ok-requests.ensures.points) _
    c.in-Err.error c.refusal_of_opening.ensures c.in-Err.ensures.refused

pub returns-clause-opened : goal.returns-clause-opened
returns-clause-opened g c =
    let t = c.args.provable.now in
    run-of _ _ _ _ _ _ _ _ _ _ _ c.in_ok-requests.requests.items
    (openings c.in-Ok.opened.0.items) c.in_ok-values_of_openings.ensures
    c.in_ok-requests.ensures.kept
    (points-of t.log_chunks
    (omega (arith, t.provable.domains.in_group, g.met.Val.ComplexExtendable.at_most_62))
    c.args.run.now.drawn.zeta c.in-Some.next _ c.in-Some.ensures.next _
    c.in_ok-requests.ensures.points) c.in-Ok.ensures.opened c.in-Ok.ensures.only
