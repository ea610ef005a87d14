use Rattle.std.proofs.Common.{Bool, List, Vec, true, false, refl, sym, ◌∙◌, ap, subst, arith}
use Rattle.std.specs.Prelude.{◌≡◌, All}
use Rattle.std.specs.declared.alloc.Global.{Global}
use Rattle.circle_commit.specs.declared.matrix.RowMajorMatrix.{RowMajorMatrix}
use Rattle.circle_commit.specs.declared.pcs.OpeningRequest.{OpeningRequest}
use Rattle.circle_domain.specs.Selectors.{IsFinite}
use Rattle.circle_prover.specs.Requesting.{HasDomain, IsAtPoints, meets_standard}
use Rattle.circle_prover.proofs.CommittedHeights.{at-item}
use Rattle.circle_prover.proofs.RequestLists.{any-more, any-here, any-end}
use Rattle.circle_prover.proofs.requests.meet_domains.Given.{Over}
use Rattle.circle_prover.proofs.requests.meet_domains.Goals as goal

-- whether a matrix of a batch is to be opened on its domain
abbrev meets : (g : Over) → List (RowMajorMatrix g.row.F.Denot)
    → List (Vec g.row.EF.Denot Global) → Bool
meets g =
    meets_standard g.F.Operations.ops g.F.ComplexExtendable.generators g.EF.Operations.ops
    g.EF.ExtensionField.embed g.EF.PartialEq.eq

pub meet_domain-requires-clause-domains : goal.meet_domain-requires-clause-domains
meet_domain-requires-clause-domains g c =
    let matrices = g.M.Mmcs.matrices in
    let fits = HasDomain g.F.ComplexExtendable.CIRCLE_TWO_ADICITY in
    subst (All fits) (sym c.get_matrices.ensures)
    (at-item (λ r. All fits (matrices r.prover_data.now)) c.args.requests.now
    c.loop-request.request-index c.request-item.result c.requires.domains
    c.loop-request-test.true c.request-item.is)

pub meet_domain-requires-clause-finite : goal.meet_domain-requires-clause-finite
meet_domain-requires-clause-finite g c =
    let finite = IsFinite g.EF.Operations.ops in
    subst (All (λ (v : Vec g.row.EF.Denot Global). All finite v.items)) (sym c.deref.ensures.value)
    (at-item (IsAtPoints g.EF.Operations.ops) c.args.requests.now c.loop-request.request-index
    c.request-item.result c.requires.finite c.loop-request-test.true c.request-item.is)

pub returns-then-meet_domain : goal.returns-then-meet_domain
returns-then-meet_domain g c =
    let test : OpeningRequest g.row.M-ProverData.Denot g.row.EF.Denot → Bool =
    λ r. meets g (g.M.Mmcs.matrices r.prover_data.now) r.points.items in
    let r = c.request-item.result in
    let passes : test r ≡ true =
    ap (λ ms. meets g ms r.points.items) (sym c.get_matrices.ensures)
    ∙ ap (meets g c.get_matrices.result.now) (sym c.deref.ensures.value)
    ∙ sym c.meet_domain.ensures ∙ c.if-meet_domain.true in
    sym (any-here test c.args.requests.now c.loop-request.request-index r c.loop-request-test.true
    c.request-item.is passes)

pub loop-request-preserved : goal.loop-request-preserved
loop-request-preserved g c =
    let test : OpeningRequest g.row.M-ProverData.Denot g.row.EF.Denot → Bool =
    λ r. meets g (g.M.Mmcs.matrices r.prover_data.now) r.points.items in
    let r = c.request-item.result in
    let fails : test r ≡ false =
    ap (λ ms. meets g ms r.points.items) (sym c.get_matrices.ensures)
    ∙ ap (meets g c.get_matrices.result.now) (sym c.deref.ensures.value)
    ∙ sym c.meet_domain.ensures ∙ c.if-meet_domain.false in
    any-more test c.args.requests.now c.loop-request.request-index _ r c.loop-request-test.true
    c.request-item.is refl c.loop-request.invariant fails

pub returns : goal.returns
returns g c =
    let test : OpeningRequest g.row.M-ProverData.Denot g.row.EF.Denot → Bool =
    λ r. meets g (g.M.Mmcs.matrices r.prover_data.now) r.points.items in
    sym
    (any-end test c.args.requests.now c.loop-request.request-index (omega arith)
    c.loop-request.invariant)
