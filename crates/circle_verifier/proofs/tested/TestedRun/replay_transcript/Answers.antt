use Rattle.std.proofs.Common.{◌≡◌, ◌^◌, ◌<◌, flat_map, refl, sym, ap, subst, ◌∙◌, arith}
use Rattle.std.specs.Prelude.{All}
use Rattle.circle_field.specs.Field.{of_nat}
use Rattle.circle_challenger.specs.Moves.{RunMoves}
use Rattle.circle_relation.specs.Statement.{all_matrices}
use Rattle.circle_relation.specs.StatementOf.{batch_claims}
use Rattle.circle_transcript.specs.Claims.{claims_of}
use Rattle.circle_transcript.specs.Draw.{widths_of}
use Rattle.circle_transcript.specs.ShapeOf.{batches_of, shape_of}
use Rattle.circle_relation.proofs.Described.{claims_widths, shape_is}
use Rattle.circle_relation.specs.RunOf.{proof_of}
use Rattle.circle_relation.specs.Taken.{challenges_of, shape_by}
use Rattle.circle_verifier.specs.Replay.{AreDrawn}
use Rattle.circle_verifier.proofs.Replayed.{high-of, taken_is, redrawn, refused_by}
use Rattle.circle_verifier.proofs.Replayed.{betas-drawn, queries-drawn}
use Rattle.circle_verifier.proofs.Finite.{finite_from}
use Rattle.circle_verifier.proofs.tested.TestedRun.replay_transcript.Given.{Over}
use Rattle.circle_verifier.proofs.tested.TestedRun.replay_transcript.Goals as goal
use Rattle.circle_verifier.proofs.tested.TestedRun.replay_transcript.Goals.{After-new-shape, In-Ok}

-- what the challenger is to the transcript
abbrev run : (g : Over) → RunMoves g.row.C.Denot g.row.C-State.Denot g.row.Val.Denot g.row.EF.Denot
    g.row.FriMmcs-Commitment.Denot
run g = record {
  base = record {
    state = g.C.ChallengerState.state;
    after_observe = g.C.CanObserve-1.after_observe;
    sampled = g.C.CanSample.sampled;
    after_sample = g.C.CanSample.after_sample;
    sampled_bits = g.C.CanSampleBits.sampled_bits;
    after_bits = g.C.CanSampleBits.after_bits;
    found = g.C.GrindingChallenger.found_witness;
    degree = g.EF.ExtensionField.DEGREE;
    coefficients = g.EF.ExtensionField.coefficients;
    of_nat = of_nat g.Val.Operations.ops;
    zero = g.Val.Operations.ops.zero;
  };
  after_commitment = g.C.CanObserve-2.after_observe;
}

pub new-shape-requires-clause-high : goal.new-shape-requires-clause-high
new-shape-requires-clause-high g c =
    let high = high-of c.args.self in omega (arith, high)

pub opening_claims-requires : goal.opening_claims-requires
opening_claims-requires g c =
    finite_from g.EF.Operations.ops g.EF.PartialEq.eq
    (all_matrices (batch_claims c.args.self.claims.now)) g.met.EF.Field.eq_law
    c.args.self.tested.finite

pub verifier_run-requires-clause-claims : goal.verifier_run-requires-clause-claims
verifier_run-requires-clause-claims g c =
    let batches = batch_claims c.args.self.claims.now in
    ap (λ cs. widths_of (claims_of cs)) c.deref-4.ensures.value
    ∙ ap (λ cs. widths_of cs) c.in_ok-points.ensures
    ∙ claims_widths g.EF.Operations.ops batches
    ∙ sym
    (ap (λ ws. flat_map (λ m. m) (flat_map (λ b. b) ws))
    (ap (λ s. batches_of s.opened_widths.items) c.new-shape.ensures ∙ c.in_ok-widths.ensures))

pub verifier_run-requires-clause-small : goal.verifier_run-requires-clause-small
verifier_run-requires-clause-small g c =
    let t = c.args.self.tested in
    let high = high-of c.args.self in
    let low = t.in_group in
    let most = g.met.Val.ComplexExtendable.at_most_62 in
    let one = c.extra_query_index_bits-extra_bits.ensures in
    record {
      batch = let is = ap (λ s. s.batch_pow_bits) c.new-shape.ensures in
          omega (arith, is, t.batch_work);
      commit = let is = ap (λ s. s.commit_pow_bits) c.new-shape.ensures in
          omega (arith, is, t.commit_work);
      query = let is = ap (λ s. s.query_pow_bits) c.new-shape.ensures in
          omega (arith, is, t.query_work);
      index = let is = ap (λ s. s.index_bits) c.new-shape.ensures in
          omega (arith, is, one, low, most, c.args.self.top);
      final_poly = let is = ap (λ s. s.log_final_poly_len) c.new-shape.ensures in
          omega (arith, is, high, low, most, c.args.self.top);
    }

-- the shape is the one that the parameters and the claims describe
described : (g : Over) (c : After-new-shape g) →
    shape_of c.new-shape.result
    ≡ shape_by c.args.self.params.now (batch_claims c.args.self.claims.now)
described g c =
    shape_is c.args.self.params.now (batch_claims c.args.self.claims.now)
    (batches_of c.in_ok-widths.widths.items) c.args.self.log_max_height
    c.extra_query_index_bits-extra_bits.result (shape_of c.new-shape.result)
    (ap shape_of c.new-shape.ensures) c.in_ok-widths.ensures c.args.self.top
    c.extra_query_index_bits-extra_bits.ensures

-- what is drawn is what the run draws
drawn-is : (g : Over) (c : In-Ok g) →
    shape_of c.new-shape.result
    ≡ shape_by c.args.self.params.now (batch_claims c.args.self.claims.now) →
    AreDrawn (run g) c.args.self c.args.challenger.now c.in-Ok.draws c.verifier_run.new.challenger
drawn-is g c shape =
    redrawn _ _ _ _ _ _ _ shape
    (taken_is _ _ _ _ _ _ _ _ _ _ _
    (ap claims_of c.deref-4.ensures.value ∙ c.in_ok-points.ensures) c.deref.ensures.value
    (c.in_ok-from_slice.ensures.items ∙ c.deref-3.ensures.value) c.deref-2.ensures.value)
    c.in-Ok.ensures.draws

pub returns-in-Ok-clause-drawn : goal.returns-in-Ok-clause-drawn
returns-in-Ok-clause-drawn g c =
    let at = goal.at.returns-in-Ok-clause-drawn g c in
    drawn-is g at.In-Ok (described g at.After-new-shape)

pub invariant_of-result : goal.invariant_of-result
invariant_of-result g c =
    let t = c.args.self in
    let p = t.params.now in
    let batches = batch_claims t.claims.now in
    let drawn = drawn-is g c (described g (goal.at.invariant_of-result g c).After-new-shape) in
    let high = high-of t in
    let bits : c.new-shape.result.index_bits ≡ t.log_max_height =
    let is = ap (λ s. s.index_bits) c.new-shape.ensures in
    omega (arith, is, c.extra_query_index_bits-extra_bits.ensures, high) in
    record {
      listed = c.in_ok-points.ensures;
      betas =
          betas-drawn (run g) p g.EF.Operations.ops batches (proof_of t.proof.now) _ _
          (challenges_of c.in-Ok.draws) drawn t.tested.commitments t.tested.witnesses;
      count =
          queries-drawn (run g) p g.EF.Operations.ops batches (proof_of t.proof.now) _ _
          (challenges_of c.in-Ok.draws) drawn;
      below = subst (λ n. All (λ q. q < 2 ^ n) c.in-Ok.draws.indices.items) bits
          c.in-Ok.ensures.below;
    }

pub returns-clause-failure : goal.returns-clause-failure
returns-clause-failure g c =
    refused_by _ _ _ c.in-Err.failure c.refusal_of.result
    (redrawn _ _ _ _ _ _ _ (described g (goal.at.returns-clause-failure g c).After-new-shape)
    (taken_is _ _ _ _ _ _ _ _ _ _ _
    (ap claims_of c.deref-4.ensures.value ∙ c.in_ok-points.ensures) c.deref.ensures.value
    (c.in_ok-from_slice.ensures.items ∙ c.deref-3.ensures.value) c.deref-2.ensures.value) refl)
    c.refusal_of.ensures c.in-Err.ensures.failure
