use Rattle.std.proofs.Common.{◌∙◌, All, sym, ap, subst, refl, inl, inr}
use Rattle.std.specs.List.{AllZip}
use Rattle.circle_commit.specs.DotProduct.{pairwise}
use Rattle.circle_commit.specs.Pcs.{openings}
use Rattle.circle_challenger.specs.Sha256Challenger.{state_of}
use Rattle.circle_relation.specs.declared.error.ProverError.TheVariants.{Memory}
use Rattle.circle_commands.specs.Proved.{IsRequested, batch_claimed}
use Rattle.circle_commands.specs.Traces.{HasFittingRows}
use Rattle.circle_commands.proofs.Accepted.{verified}
use Rattle.circle_commands.proofs.Proved.{proved}
use Rattle.circle_commands.proofs.Unproved.{error-is}
use Rattle.circle_commands.proofs.Proving.{committed_fit, requested_powers}
use Rattle.circle_commands.proofs.prove.CommittedInput.open.Goals as goal

pub returns-in_err-requests-clause-reason : goal.returns-in_err-requests-clause-reason
returns-in_err-requests-clause-reason c =
    error-is _ _ Memory c.from_residual.ensures.1 (inl refl)

pub open-requires : goal.open-requires
open-requires c =
    let self = c.args.self.now in
    let requests = c.in_ok-requests.requests.items in
    requested_powers self.scheme.mmcs self.scheme.fri_params.log_blowup
    self.input.now.batches.items self.batches.items requests c.requires.batches
    (subst (λ cs. AllZip IsRequested cs requests) c.deref.ensures.value c.in_ok-requests.ensures)

pub returns-in_err-values-clause-reason : goal.returns-in_err-values-clause-reason
returns-in_err-values-clause-reason c =
    let requests = c.in_ok-requests.requests.items in
    error-is _ _ c.in_err-values.field-0.0 c.from_residual-in_err-values.ensures.1
    (inr (record {
      scheme = c.args.self.now.scheme;
      requests = requests;
      params = c.requires.params;
      batches = c.requires.batches;
      asked =
          subst (λ cs. AllZip IsRequested cs requests) c.deref.ensures.value
          c.in_ok-requests.ensures;
      refuses = c.in_err-values.ensures.failure;
    }))

pub claims-requires : goal.claims-requires
claims-requires c =
    let self = c.args.self.now in
    subst (All (λ c. All HasFittingRows c.traces.now)) (sym c.deref-2.ensures.value)
    (committed_fit self.scheme.mmcs self.scheme.fri_params.log_blowup
    self.input.now.batches.items self.batches.items c.requires.batches)

pub returns-in_err-claims-clause-reason : goal.returns-in_err-claims-clause-reason
returns-in_err-claims-clause-reason c =
    error-is _ _ Memory c.from_residual-in_err-claims.ensures.1 (inl refl)

pub returns-clause-opened : goal.returns-clause-opened
returns-clause-opened c =
    let self = c.args.self.now in
    let requests = c.in_ok-requests.requests.items in
    let values = c.in_ok-values.values.items in
    proved self.input.now _ self.scheme.mmcs self.scheme.fri_params.mmcs self.batches.items
    requests (openings values) (state_of c.args.challenger.now) (state_of c.open.new.challenger)
    self.scheme.fri_params c.requires.params c.requires.batches
    (subst (λ cs. AllZip IsRequested cs requests) c.deref.ensures.value c.in_ok-requests.ensures)
    c.in_ok-values.ensures.values c.in_ok-values.ensures.opened.opening
    (c.in_ok-claims.ensures ∙ ap (λ cs. pairwise batch_claimed cs (openings values))
    c.deref-2.ensures.value)
    c.with_mmcs.ensures

pub returns-clause-accepted : goal.returns-clause-accepted
returns-clause-accepted c =
    let self = c.args.self.now in
    let requests = c.in_ok-requests.requests.items in
    let values = c.in_ok-values.values.items in
    let given = c.in_ok-values.ensures.opened in
    verified self.input.now _ self.batches.items requests (openings values)
    (subst (λ cs. AllZip IsRequested cs requests) c.deref.ensures.value c.in_ok-requests.ensures)
    self.scheme.mmcs self.scheme.fri_params.mmcs (state_of c.args.challenger.now)
    (state_of c.open.new.challenger) self.scheme.fri_params c.requires.params given.parameters
    given.arity given.asked c.requires.batches given.answers given.opening
    (c.in_ok-claims.ensures ∙ ap (λ cs. pairwise batch_claimed cs (openings values))
    c.deref-2.ensures.value)
    c.with_mmcs.ensures
