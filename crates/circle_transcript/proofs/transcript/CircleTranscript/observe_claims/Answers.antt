use Rattle.std.proofs.Common.{◌+◌, ◌<◌, ◌++◌, ◌∷◌, [], length, drop, take, flat_map, refl, sym, ap}
use Rattle.std.proofs.Common.{◌∙◌, append_assoc, arith}
use Rattle.std.proofs.lemmas.List.{map-append, take_all, drop_all}
use Rattle.circle_transcript.specs.Shape.{claim_steps}
use Rattle.circle_transcript.specs.Draw.{widths_of, after_claims_by}
use Rattle.circle_transcript.specs.Claims.{claim_of, claims_of}
use Rattle.circle_transcript.proofs.Playing.{claims-append, drop_read, take_read}
use Rattle.circle_transcript.proofs.transcript.CircleTranscript.observe_claims.Goals as goal

pub loop-point-init : goal.loop-point-init
unfolding after_claims_by
loop-point-init g c = record {
  same = record { challenger = refl; shape = refl };
  due = λ rest e. e;
  state = refl;
}

pub loop-point-preserved : goal.loop-point-preserved
loop-point-preserved g c =
    let degree = g.EF.ExtensionField.DEGREE in
    let observe = g.C.CanObserve-1.after_observe in
    let coefficients = g.EF.ExtensionField.coefficients in
    let begun = g.C.ChallengerState.state c.args.self.now.challenger.now in
    let claims = c.args.claims.now in
    let i = c.loop-point.point-index in
    let item = c.loop-point-item.result in
    let within : i < length claims = omega arith in
    let rest_of = drop_read claims i item within c.loop-point-item.is in
    let front_of = take_read claims i item within c.loop-point-item.is in
    record {
      same = record {
        challenger = c.observe_claim.ensures.same.challenger
            ∙ c.loop-point.invariant.same.challenger;
        shape = c.observe_claim.ensures.same.shape ∙ c.loop-point.invariant.same.shape;
      };
      due = λ rest e.
          c.observe_claim.ensures.due _
          (c.loop-point.invariant.due rest e
          ∙ ap (λ xs. flat_map (claim_steps degree) (widths_of (claims_of xs)) ++ rest) rest_of
          ∙ append_assoc (claim_steps degree (length item.1.now))
          (flat_map (claim_steps degree) (widths_of (claims_of (drop (i + 1) claims)))) rest);
      state =
          c.observe_claim.ensures.state
          ∙ ap (λ s. after_claims_by observe coefficients s (claim_of item ∷ []))
          c.loop-point.invariant.state
          ∙ sym
          (claims-append observe coefficients begun (claims_of (take i claims))
          (claim_of item ∷ []))
          ∙ ap (after_claims_by observe coefficients begun)
          (sym (ap claims_of front_of ∙ map-append claim_of (take i claims) (item ∷ [])));
    }

pub returns-clause-due : goal.returns-clause-due
returns-clause-due g c = λ rest e.
    let degree = g.EF.ExtensionField.DEGREE in
    c.loop-point.invariant.due rest e
    ∙ ap (λ xs. flat_map (claim_steps degree) (widths_of (claims_of xs)) ++ rest)
    (drop_all c.loop-point.point-index c.args.claims.now c.loop-point-test.false)

pub returns-clause-state : goal.returns-clause-state
returns-clause-state g c =
    let begun = g.C.ChallengerState.state c.args.self.now.challenger.now in
    c.loop-point.invariant.state
    ∙ ap (λ xs. after_claims_by g.C.CanObserve-1.after_observe g.EF.ExtensionField.coefficients
    begun
    (claims_of xs))
    (take_all c.loop-point.point-index c.args.claims.now c.loop-point-test.false)
