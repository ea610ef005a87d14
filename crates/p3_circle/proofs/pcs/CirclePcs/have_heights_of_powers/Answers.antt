use Rattle.std.proofs.Common.{◌∙◌, refl, sym, subst, All}
use Rattle.std.proofs.lemmas.Bool.{false≢true}
use Rattle.std.proofs.lemmas.List.{take_all}
use Rattle.std.proofs.lemmas.List.Elements.{All-more}
use Rattle.circle_commit.specs.Mmcs.{HaveHeightsOfPowers}
use Rattle.circle_prover.proofs.CommittedHeights.{at-item}
use Rattle.p3_circle.proofs.pcs.CirclePcs.have_heights_of_powers.Goals as goal

pub loop-request-preserved : goal.loop-request-preserved
loop-request-preserved g c =
    let r = c.request-item.result in
    let powers =
    c.if-not-heights_are_powers_of_two.ensures.yes refl
    (g.InputMmcs.Mmcs.matrices r.prover_data.now) c.get_matrices.ensures in
    All-more (λ r. HaveHeightsOfPowers (g.InputMmcs.Mmcs.matrices r.prover_data.now))
    c.args.requests.now c.loop-request.request-index r c.loop-request-test.true
    c.loop-request.invariant
    (subst (λ r. HaveHeightsOfPowers (g.InputMmcs.Mmcs.matrices r.prover_data.now))
    c.request-item.is powers)

pub returns-clause-yes : goal.returns-clause-yes
returns-clause-yes g c =
    λ _ list same. subst
    (All (λ r. HaveHeightsOfPowers (g.InputMmcs.Mmcs.matrices r.prover_data.now)))
    (take_all c.loop-request.request-index c.args.requests.now c.loop-request-test.false ∙ same)
    c.loop-request.invariant

pub
    returns-then-not-heights_are_powers_of_two-clause-no :
    goal.returns-then-not-heights_are_powers_of_two-clause-no
returns-then-not-heights_are_powers_of_two-clause-no g c =
    λ all.
    let r = c.request-item.result in
    let here = at-item (λ r. HaveHeightsOfPowers (g.InputMmcs.Mmcs.matrices r.prover_data.now))
    c.args.requests.now c.loop-request.request-index r all c.loop-request-test.true
    c.request-item.is in
    absurd
    (false≢true (sym c.if-not-heights_are_powers_of_two.true
    ∙ c.heights_are_powers_of_two.ensures.no
    (subst HaveHeightsOfPowers (sym c.get_matrices.ensures) here)))
