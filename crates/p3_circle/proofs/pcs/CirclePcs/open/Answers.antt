use Rattle.std.proofs.Common.{◌∙◌, All, sym, subst, arith}
use Rattle.std.proofs.lemmas.Nat.{pow_pos}
use Rattle.circle_challenger.specs.Moves.{RunMoves, run_moves}
use Rattle.circle_field.specs.Field.{of_nat}
use Rattle.circle_commit.specs.Mmcs.{HaveHeightsOfPowers}
use Rattle.circle_commit.specs.Pcs.{openings}
use Rattle.circle_commit.specs.declared.pcs.OpeningRequest.{OpeningRequest}
use Rattle.circle_relation.specs.Accepts.{Fields}
use Rattle.circle_prover.specs.Opening.{IsFailure}
use Rattle.p3_circle.proofs.Degrees.{high-degree}
use Rattle.p3_circle.proofs.InOrder.{refuses-before, is-first}
use Rattle.p3_circle.proofs.OwnRows.{own-rows}
use Rattle.p3_circle.specs.SchemeLaws.{honest-open, opening-accepted, true-values}
use Rattle.p3_circle.proofs.Scheme.{if_both, prover-memory}
use Rattle.p3_circle.proofs.Verdicts.{later-by}
use Rattle.circle_relation.proofs.Results.{if_err}
use Rattle.p3_circle.proofs.pcs.CirclePcs.open.Given.{Over}
use Rattle.p3_circle.proofs.pcs.CirclePcs.open.Goals as goal

abbrev fields : (g : Over) → Fields g.row.Val.Denot g.row.EF.Denot
fields g = record {
  field = g.Val.Operations.ops;
  gen = g.Val.ComplexExtendable.generators;
  two_adicity = g.Val.ComplexExtendable.CIRCLE_TWO_ADICITY;
  is_zero =
      λ w. g.Val.PartialEq.eq w g.Val.Field.ZERO;
  extension = g.EF.Operations.ops;
  embed =
      g.EF.ExtensionField.embed;
  same = g.EF.PartialEq.eq;
}

-- what the challenger is to the run
abbrev challenger : (g : Over) →
    RunMoves g.row.C.Denot g.row.C-State.Denot g.row.Val.Denot g.row.EF.Denot
    g.row.FriMmcs-Commitment.Denot
challenger g = run_moves g.C.ChallengerState.state g.C.CanObserve-1.after_observe
    g.C.CanObserve-2.after_observe g.C.CanSample.sampled g.C.CanSample.after_sample
    g.C.CanSampleBits.sampled_bits g.C.CanSampleBits.after_bits g.C.GrindingChallenger.found_witness
    g.EF.ExtensionField.DEGREE g.EF.ExtensionField.coefficients (of_nat g.Val.Operations.ops)
    g.Val.Operations.ops.zero

pub new-requires-clause-powers : goal.new-requires-clause-powers
new-requires-clause-powers g c =
    subst
    (All
    (λ (r : OpeningRequest g.row.InputMmcs-ProverData.Denot g.row.EF.Denot). HaveHeightsOfPowers
    (g.InputMmcs.Mmcs.matrices r.prover_data.now))) (sym c.deref.ensures.value) c.requires

pub new-requires-clause-rows : goal.new-requires-clause-rows
new-requires-clause-rows g c = λ i d lt j e lt'.
    let power = new-requires-clause-powers g c i d lt j e lt' in
    let is = power.1 in
    let positive = pow_pos power.0 in
    omega (arith, is, positive)

pub returns-clause-values : goal.returns-clause-values
returns-clause-values g c =
    let same = c.in_ok-openable.ensures.requests in
    rw (same.1, same.2 ∙ c.deref.ensures.value) at c.open.ensures.values

pub returns-clause-opened : goal.returns-clause-opened
returns-clause-opened g c =
    let o = c.in_ok-openable.openable in
    let same = c.in_ok-openable.ensures.requests in
    let requests = same.2 ∙ c.deref.ensures.value in
    if_both c.open.result _ _ _
    (λ r values opening. record {
      parameters = rw same.1 at o.fit;
      arity = rw same.1 at o.binary;
      asked = rw (same.1, requests) at o.openable;
      answers = values;
      opening = opening;
    })
    (returns-clause-values g c)
    (rw (same.0, same.1, requests) at c.open.ensures.proof)

pub returns-clause-failure : goal.returns-clause-failure
returns-clause-failure g c =
    let o = c.in_ok-openable.openable in
    let p = c.args.self.now.fri_params in
    let kept = g.InputMmcs.Mmcs.matrices in
    let same = c.in_ok-openable.ensures.requests in
    let s = g.C.ChallengerState.state c.args.challenger.now in
    let ok = rw c.deref.ensures.value at c.in_ok-openable.ensures.tested in
    if_err _ _ c.open.result
    (λ e why. later-by _ _ e s (g.C.ChallengerState.state c.open.new.challenger) ok
    (subst
    (λ rs. IsFailure (fields g) (challenger g) p (g.FriMmcs.Mmcs.commits p.mmcs) kept rs s e)
    (same.2 ∙ c.deref.ensures.value)
    (subst
    (λ q. IsFailure (fields g) (challenger g) q (g.FriMmcs.Mmcs.commits q.mmcs) kept
    o.requests.now s e) same.1 why)))
    c.open.ensures.failure

pub returns-in_err-openable-clause-refused :
    goal.returns-in_err-openable-clause-refused
returns-in_err-openable-clause-refused g c =
    let first = rw c.deref.ensures.value at c.in_err-openable.ensures.tested in
    refuses-before _ c.from_residual.result c.in_err-openable.field-0.0 first
    c.from_residual.ensures.1 c.args.challenger.now

pub returns-in_err-openable-clause-failure :
    goal.returns-in_err-openable-clause-failure
returns-in_err-openable-clause-failure g c =
    let first = rw c.deref.ensures.value at c.in_err-openable.ensures.tested in
    is-first _ c.from_residual.result c.in_err-openable.field-0.0 first
    c.from_residual.ensures.1 _ (g.C.ChallengerState.state c.args.challenger.now)

pub returns-clause-honest : goal.returns-clause-honest
returns-clause-honest g c =
    let p = c.args.self.now.fri_params in
    if_err _ _ c.open.result
    (λ e why honest. prover-memory e
    (honest-open (fields g) g.Val.Operations.laws g.EF.Operations.laws
    g.met.EF.ExtensionField.embedding g.Val.PartialEq.eq g.met.Val.Field.eq_law
    g.EF.PartialEq.eq g.met.EF.Field.eq_law g.met.Val.ComplexExtendable.at_most_62
    g.met.Val.ComplexExtendable.generators_law p
    g.InputMmcs.Mmcs.matrices (g.InputMmcs.Mmcs.commits c.args.self.now.mmcs) (challenger g)
    (g.FriMmcs.Mmcs.commits p.mmcs) c.args.requests.items
    (g.C.ChallengerState.state c.args.challenger.now)
    (g.C.ChallengerState.state c.open.new.challenger) e honest.0 honest.1 why))
    (returns-clause-failure g c)

pub
    returns-in_err-openable-clause-honest :
    goal.returns-in_err-openable-clause-honest
returns-in_err-openable-clause-honest g c =
    let p = c.args.self.now.fri_params in
    if_err _ _ c.from_residual.result
    (λ e why honest. prover-memory e
    (honest-open (fields g) g.Val.Operations.laws g.EF.Operations.laws
    g.met.EF.ExtensionField.embedding g.Val.PartialEq.eq g.met.Val.Field.eq_law
    g.EF.PartialEq.eq g.met.EF.Field.eq_law g.met.Val.ComplexExtendable.at_most_62
    g.met.Val.ComplexExtendable.generators_law p
    g.InputMmcs.Mmcs.matrices (g.InputMmcs.Mmcs.commits c.args.self.now.mmcs) (challenger g)
    (g.FriMmcs.Mmcs.commits p.mmcs) c.args.requests.items
    (g.C.ChallengerState.state c.args.challenger.now)
    (g.C.ChallengerState.state c.args.challenger.now) e honest.0 honest.1 why))
    (returns-in_err-openable-clause-failure g c)

pub returns-clause-only : goal.returns-clause-only
returns-clause-only g c =
    let p = c.args.self.now.fri_params in
    let opened = returns-clause-opened g c in
    if_both c.open.result _ _ _
    (λ r given again. true-values _ (fields g) g.Val.Operations.laws g.EF.Operations.laws
    g.met.EF.ExtensionField.embedding g.Val.ComplexExtendable.CIRCLE_TWO_ADICITY
    g.met.Val.ComplexExtendable.generators_law p g.InputMmcs.Mmcs.matrices
    (g.InputMmcs.Mmcs.commits c.args.self.now.mmcs)
    (challenger g) (g.InputMmcs.Mmcs.authenticates c.args.self.now.mmcs)
    (g.FriMmcs.Mmcs.commits p.mmcs) (g.FriMmcs.Mmcs.authenticates p.mmcs) c.args.requests.items
    (openings r.0.items) r.1 _ _ given)
    opened opened

pub returns-clause-words : goal.returns-clause-words
returns-clause-words g c =
    let p = c.args.self.now.fri_params in
    let kept = g.InputMmcs.Mmcs.matrices in
    let opened = returns-clause-opened g c in
    if_both c.open.result _ _ _
    (λ r given again. own-rows (fields g) g.Val.Operations.laws
    g.met.Val.ComplexExtendable.generators_law p kept c.args.requests.items (openings r.0.items)
    given.asked given.answers)
    opened opened

pub returns-clause-accepted : goal.returns-clause-accepted
returns-clause-accepted g c =
    let p = c.args.self.now.fri_params in
    let opened = returns-clause-opened g c in
    if_both c.open.result _ _ _
    (λ r given again. opening-accepted (fields g) g.Val.Operations.laws g.EF.Operations.laws
    g.met.EF.ExtensionField.embedding g.Val.PartialEq.eq g.met.Val.Field.eq_law
    g.EF.PartialEq.eq g.met.EF.Field.eq_law g.met.Val.ComplexExtendable.at_most_62
    g.met.Val.ComplexExtendable.generators_law p
    g.InputMmcs.Mmcs.matrices (g.InputMmcs.Mmcs.commits c.args.self.now.mmcs) (challenger g)
    g.met.C.CanSampleBits.bits_below g.InputMmcs.Mmcs.authenticates g.FriMmcs.Mmcs.authenticates
    c.args.self.now.mmcs (g.FriMmcs.Mmcs.commits p.mmcs)
    c.args.requests.items (openings r.0.items) r.1 _ _ given)
    opened opened

pub returns-clause-degree : goal.returns-clause-degree
returns-clause-degree g c =
    let p = c.args.self.now.fri_params in
    if_err _ _ c.open.result
    (λ e why. high-degree (fields g) g.Val.Operations.laws g.EF.Operations.laws
    g.met.EF.ExtensionField.embedding g.Val.PartialEq.eq g.met.Val.Field.eq_law
    g.EF.PartialEq.eq g.met.EF.Field.eq_law g.met.Val.ComplexExtendable.generators_law p
    g.InputMmcs.Mmcs.matrices (challenger g) (g.FriMmcs.Mmcs.commits p.mmcs) c.args.requests.items
    c.requires (g.C.ChallengerState.state c.args.challenger.now)
    (g.C.ChallengerState.state c.open.new.challenger) e why)
    (returns-clause-failure g c)

pub
    returns-in_err-openable-clause-degree :
    goal.returns-in_err-openable-clause-degree
returns-in_err-openable-clause-degree g c =
    let p = c.args.self.now.fri_params in
    if_err _ _ c.from_residual.result
    (λ e why. high-degree (fields g) g.Val.Operations.laws g.EF.Operations.laws
    g.met.EF.ExtensionField.embedding g.Val.PartialEq.eq g.met.Val.Field.eq_law
    g.EF.PartialEq.eq g.met.EF.Field.eq_law g.met.Val.ComplexExtendable.generators_law p
    g.InputMmcs.Mmcs.matrices (challenger g) (g.FriMmcs.Mmcs.commits p.mmcs) c.args.requests.items
    c.requires (g.C.ChallengerState.state c.args.challenger.now)
    (g.C.ChallengerState.state c.args.challenger.now) e why)
    (returns-in_err-openable-clause-failure g c)
