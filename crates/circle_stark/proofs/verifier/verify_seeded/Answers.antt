use Rattle.std.proofs.Common.{refl}
use Rattle.circle_relation.specs.StatementOf.{batch_claims}
use Rattle.circle_stark.specs.OfProvable.{fields_of, stated_by}
use Rattle.circle_stark.specs.Statement.{proved_of}
use Rattle.circle_stark.specs.Verdict.{IsRefusedFor, refusal_of}
use Rattle.circle_stark.specs.declared.error.StarkError.TheVariants.{Memory}
use Rattle.circle_stark.proofs.Verdicts.{accepted-fit, accepted-identity, accepted-opens}
use Rattle.circle_stark.proofs.Verdicts.{accepts-of, claims-follow, memory-for, opens-of}
use Rattle.circle_stark.proofs.Verdicts.{refused-for, refuses-with}
use Rattle.circle_stark.proofs.verifier.verify_seeded.Goals as goal

pub returns-in-None-clause-complete : goal.returns-in-None-clause-complete
returns-in-None-clause-complete g c = λ h.
    let some = c.in-None.ensures.some.1
    (accepted-fit _ _ _ _ _ _ g.met.EF.ExtensionField.are_coefficients.determined _ _ _ _ _ _ _
    c.in_ok-drawn.ensures.drawn h.0 h.1) in
    absurd (cc)

pub returns-in-None-clause-reason : goal.returns-in-None-clause-reason
returns-in-None-clause-reason g c = record {
  alpha = c.in_ok-drawn.drawn.alpha;
  zeta = c.in_ok-drawn.drawn.zeta;
  drawn = c.in_ok-drawn.ensures.drawn;
  unfit = λ fit.
      let some = c.in-None.ensures.some.1 fit in
      cc;
}

pub returns-in_err-verify-clause-complete : goal.returns-in_err-verify-clause-complete
returns-in_err-verify-clause-complete g c =
    let t = c.args.provable.now in
    let e = c.in_err-verify.field-0.0 in
    refuses-with _ c.from_residual-in_err-verify.result (refusal_of e)
    c.from_residual-in_err-verify.ensures.1
    (λ h.
    let opens = accepted-opens _ _ _ _ _ _ g.met.EF.ExtensionField.are_coefficients.determined _ _ _
    _ _ _ _ c.in_ok-drawn.ensures.drawn h.0 h.1 in
    memory-for e
    (c.in_err-verify.ensures.complete h.0
    (accepts-of (fields_of t) (stated_by t) (proved_of c.args.proof.now)
    c.in_ok-drawn.drawn.zeta c.in-Some.next c.in-Some.ensures.next
    (batch_claims c.in_ok-claims.claims.items) c.in_ok-claims.ensures _ _ _ _ _ _ opens)))

pub returns-in_err-verify-clause-reason : goal.returns-in_err-verify-clause-reason
returns-in_err-verify-clause-reason g c =
    let t = c.args.provable.now in
    let e = c.in_err-verify.field-0.0 in
    refuses-with _ c.from_residual-in_err-verify.result (refusal_of e)
    c.from_residual-in_err-verify.ensures.1
    (refused-for (IsRefusedFor _ _ _ _ _ _ _ _ _ _ _ _ _) e (tt {0}) record {
      alpha = c.in_ok-drawn.drawn.alpha;
      zeta = c.in_ok-drawn.drawn.zeta;
      between = _;
      drawn = c.in_ok-drawn.ensures.drawn;
      fit = c.in-Some.ensures.some.0 refl;
      refused = record {
        claims = c.in_ok-claims.claims.items;
        claimed =
            claims-follow (fields_of t) (stated_by t)
            (proved_of c.args.proof.now) c.in_ok-drawn.drawn.zeta c.in-Some.next
            c.in-Some.ensures.next (batch_claims c.in_ok-claims.claims.items)
            c.in_ok-claims.ensures;
        refused = c.in_err-verify.ensures.reason;
      };
    })

pub returns-in_err-has_identity-clause-complete : goal.returns-in_err-has_identity-clause-complete
returns-in_err-has_identity-clause-complete g c =
    refuses-with _ c.from_residual-in_err-has_identity.result Memory
    c.from_residual-in_err-has_identity.ensures.1 (λ h. refl)

pub returns-then-not-branch-clause-complete : goal.returns-then-not-branch-clause-complete
returns-then-not-branch-clause-complete g c = λ h.
    let t = c.args.provable.now in
    let holds = c.in_ok-has_identity.ensures.1
    (accepted-identity _ _ _ _ _ _ g.met.EF.ExtensionField.are_coefficients.determined _ _ _ _ _ _ _
    c.in_ok-drawn.ensures.drawn h.0 h.1 t.log_chunks t.provable.domains.chunks) in
    let fails = c.if-not-branch.true in
    absurd (cc)

pub returns-then-not-branch-clause-reason : goal.returns-then-not-branch-clause-reason
returns-then-not-branch-clause-reason g c = let t = c.args.provable.now in record {
  alpha = c.in_ok-drawn.drawn.alpha;
  zeta = c.in_ok-drawn.drawn.zeta;
  between = _;
  drawn = c.in_ok-drawn.ensures.drawn;
  fit = c.in-Some.ensures.some.0 refl;
  opens =
      opens-of (fields_of t) (stated_by t) (proved_of c.args.proof.now)
      c.in_ok-drawn.drawn.zeta c.in-Some.next c.in-Some.ensures.next
      (batch_claims c.in_ok-claims.claims.items) c.in_ok-claims.ensures _ _ _ _ _ _
      c.in_ok-verify.ensures.accepted;
  mismatch = λ h.
      let holds = c.in_ok-has_identity.ensures.1 h in
      let fails = c.if-not-branch.true in
      cc;
}

pub returns-clause-accepted : goal.returns-clause-accepted
returns-clause-accepted g c = let t = c.args.provable.now in record {
  log_chunks = t.log_chunks;
  provable = t.provable;
  shape = c.requires.shape;
  alpha = c.in_ok-drawn.drawn.alpha;
  zeta = c.in_ok-drawn.drawn.zeta;
  between = _;
  drawn = c.in_ok-drawn.ensures.drawn;
  fit = c.in-Some.ensures.some.0 refl;
  opens =
      opens-of (fields_of t) (stated_by t) (proved_of c.args.proof.now)
      c.in_ok-drawn.drawn.zeta c.in-Some.next c.in-Some.ensures.next
      (batch_claims c.in_ok-claims.claims.items) c.in_ok-claims.ensures _ _ _ _ _ _
      c.in_ok-verify.ensures.accepted;
  identity =
      let passes = c.if-not-branch.false in
      c.in_ok-has_identity.ensures.0 (cc);
}
