use Rattle.std.proofs.Common.{sym, ◌∙◌}
use Rattle.circle_prover.proofs.Unrefused.{unfit-refused, lacking-refused, counts-refused}
use Rattle.circle_prover.proofs.Unrefused.{heights-refused, infinity-refused, domains-refused}
use Rattle.circle_prover.proofs.Unrefused.{none-refused, heights-known, points-known}
use Rattle.circle_prover.proofs.Unrefused.{are-requests, fit-arity, fit-parameters, refusal-is}
use Rattle.circle_prover.proofs.openable.OpenableRequests.new.Goals as goal

pub returns-then-are_unfit-clause-tested : goal.returns-then-are_unfit-clause-tested
returns-then-are_unfit-clause-tested g c =
    let fit = sym c.are_unfit.ensures ∙ c.if-are_unfit.true in
    unfit-refused _ _ _ _ _ _ fit

pub returns-then-lack_matrices-clause-tested : goal.returns-then-lack_matrices-clause-tested
returns-then-lack_matrices-clause-tested g c =
    let fit = sym c.are_unfit.ensures ∙ c.if-are_unfit.false in
    let full = sym c.lack_matrices.ensures ∙ c.if-lack_matrices.true in
    lacking-refused _ _ _ _ _ _ fit full

pub returns-then-have_other_counts-clause-tested : goal.returns-then-have_other_counts-clause-tested
returns-then-have_other_counts-clause-tested g c =
    let fit = sym c.are_unfit.ensures ∙ c.if-are_unfit.false in
    let full = sym c.lack_matrices.ensures ∙ c.if-lack_matrices.false in
    let counts = sym c.have_other_counts.ensures ∙ c.if-have_other_counts.true in
    counts-refused _ _ _ _ _ _ fit full counts

pub
    returns-in_err-validate_request_heights-clause-tested :
    goal.returns-in_err-validate_request_heights-clause-tested
returns-in_err-validate_request_heights-clause-tested g c =
    let fit = sym c.are_unfit.ensures ∙ c.if-are_unfit.false in
    let full = sym c.lack_matrices.ensures ∙ c.if-lack_matrices.false in
    let counts = sym c.have_other_counts.ensures ∙ c.if-have_other_counts.false in
    let e = c.in_err-validate_request_heights.field-0.0 in
    refusal-is c.from_residual.result e _ c.from_residual.ensures.1
    (heights-refused _ _ _ _ _ _ fit full counts e
    (sym c.validate_request_heights.ensures ∙ c.in_err-validate_request_heights.was))

pub returns-then-have_infinite-clause-tested : goal.returns-then-have_infinite-clause-tested
returns-then-have_infinite-clause-tested g c =
    let fit = sym c.are_unfit.ensures ∙ c.if-are_unfit.false in
    let full = sym c.lack_matrices.ensures ∙ c.if-lack_matrices.false in
    let counts = sym c.have_other_counts.ensures ∙ c.if-have_other_counts.false in
    let tall = sym c.validate_request_heights.ensures ∙ c.in_ok-validate_request_heights.was in
    let infinite = sym c.have_infinite.ensures ∙ c.if-have_infinite.true in
    infinity-refused _ _ _ _ _ _ fit full counts tall infinite

pub meet_domains-requires-clause-domains : goal.meet_domains-requires-clause-domains
meet_domains-requires-clause-domains g c =
    let tall = sym c.validate_request_heights.ensures ∙ c.in_ok-validate_request_heights.was in
    λ i d lt j e lt'.
    (heights-known g.Val.ComplexExtendable.CIRCLE_TWO_ADICITY c.args.params.now
    g.InputMmcs.Mmcs.matrices c.args.requests.now c.requires.powers tall i d lt j e lt').domain

pub meet_domains-requires-clause-finite : goal.meet_domains-requires-clause-finite
meet_domains-requires-clause-finite g c =
    points-known g.EF.PartialEq.eq g.met.EF.Field.eq_law g.EF.Operations.ops c.args.requests.now
    (sym c.have_infinite.ensures ∙ c.if-have_infinite.false)

pub returns-then-meet_domains-clause-tested : goal.returns-then-meet_domains-clause-tested
returns-then-meet_domains-clause-tested g c =
    let fit = sym c.are_unfit.ensures ∙ c.if-are_unfit.false in
    let full = sym c.lack_matrices.ensures ∙ c.if-lack_matrices.false in
    let counts = sym c.have_other_counts.ensures ∙ c.if-have_other_counts.false in
    let tall = sym c.validate_request_heights.ensures ∙ c.in_ok-validate_request_heights.was in
    let finite = sym c.have_infinite.ensures ∙ c.if-have_infinite.false in
    let meets = sym c.meet_domains.ensures ∙ c.if-meet_domains.true in
    domains-refused _ _ _ _ _ _ fit full counts tall finite meets

pub invariant_of-result : goal.invariant_of-result
invariant_of-result g c =
    let fit = sym c.are_unfit.ensures ∙ c.if-are_unfit.false in
    let full = sym c.lack_matrices.ensures ∙ c.if-lack_matrices.false in
    let counts = sym c.have_other_counts.ensures ∙ c.if-have_other_counts.false in
    let tall = sym c.validate_request_heights.ensures ∙ c.in_ok-validate_request_heights.was in
    let finite = sym c.have_infinite.ensures ∙ c.if-have_infinite.false in
    let off = sym c.meet_domains.ensures ∙ c.if-meet_domains.false in
    record {
      fit = fit-parameters c.args.params.now fit;
      binary = fit-arity c.args.params.now fit;
      openable = are-requests _ _ _ _ _ g.EF.PartialEq.eq g.met.EF.Field.eq_law
          g.Val.Operations.laws g.EF.Operations.laws g.met.EF.ExtensionField.embedding
          g.met.Val.ComplexExtendable.generators_law c.requires.powers
          (none-refused _ _ _ _ _ _ fit full counts tall finite off);
    }

pub returns-clause-tested : goal.returns-clause-tested
returns-clause-tested g c =
    let fit = sym c.are_unfit.ensures ∙ c.if-are_unfit.false in
    let full = sym c.lack_matrices.ensures ∙ c.if-lack_matrices.false in
    let counts = sym c.have_other_counts.ensures ∙ c.if-have_other_counts.false in
    let tall = sym c.validate_request_heights.ensures ∙ c.in_ok-validate_request_heights.was in
    let finite = sym c.have_infinite.ensures ∙ c.if-have_infinite.false in
    let off = sym c.meet_domains.ensures ∙ c.if-meet_domains.false in
    none-refused _ _ _ _ _ _ fit full counts tall finite off
