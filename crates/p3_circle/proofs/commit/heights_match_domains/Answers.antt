use Rattle.std.proofs.Common.{◌≡◌, ◌^◌, ◌∙◌, refl, sym, subst, All}
use Rattle.std.proofs.lemmas.Bool.{false≢true}
use Rattle.std.proofs.lemmas.List.{take_all}
use Rattle.std.proofs.lemmas.List.Elements.{All-more}
use Rattle.circle_commit.specs.RowMajorMatrix.{height_of}
use Rattle.circle_domain.specs.Domain.{log_size}
use Rattle.circle_prover.proofs.CommittedHeights.{at-item}
use Rattle.p3_circle.proofs.commit.heights_match_domains.Goals as goal

pub loop-domain-preserved : goal.loop-domain-preserved
loop-domain-preserved g c =
    let e = c.loop-domain-item.result in
    All-more (λ e. height_of e.1 ≡ 2 ^ log_size e.0) c.args.evaluations.now
    c.loop-domain.domain-index e c.loop-domain-test.true c.loop-domain.invariant
    (subst (λ e. height_of e.1 ≡ 2 ^ log_size e.0) c.loop-domain-item.is
    (c.if-not-height_matches.ensures.0 refl))

pub returns-clause-yes : goal.returns-clause-yes
returns-clause-yes g c =
    λ _ list same. subst (All (λ e. height_of e.1 ≡ 2 ^ log_size e.0))
    (take_all c.loop-domain.domain-index c.args.evaluations.now c.loop-domain-test.false ∙ same)
    c.loop-domain.invariant

pub returns-then-not-height_matches-clause-no : goal.returns-then-not-height_matches-clause-no
returns-then-not-height_matches-clause-no g c =
    λ all.
    let e = c.loop-domain-item.result in
    let matches = at-item (λ e. height_of e.1 ≡ 2 ^ log_size e.0) c.args.evaluations.now
    c.loop-domain.domain-index e all c.loop-domain-test.true c.loop-domain-item.is in
    absurd (false≢true (sym c.if-not-height_matches.true ∙ c.height_matches.ensures.1 matches))
