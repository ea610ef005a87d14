use Rattle.std.proofs.Common.{◌≡◌, ◌<◌, ◌^◌, All, map, flat_map, sym, ap, ◌∙◌, subst}
use Rattle.std.proofs.Common.{arith, refl, inl, inr}
use Rattle.std.specs.Prelude.{Ok}
use Rattle.circle_challenger.specs.Moves.{RunMoves, run_moves}
use Rattle.circle_commit.specs.Pcs.{openings}
use Rattle.circle_codewords.specs.Words.{committed_of}
use Rattle.circle_field.specs.Field.{of_nat}
use Rattle.circle_relation.specs.Taken.{claims_taken, shape_by}
use Rattle.circle_relation.proofs.Described.{claims_widths, shape_is}
use Rattle.circle_transcript.specs.Claims.{claims_of}
use Rattle.circle_transcript.specs.Draw.{seeded, widths_of}
use Rattle.circle_transcript.specs.Numbers.{numbers_of}
use Rattle.circle_transcript.specs.Runs.{drawn_of}
use Rattle.circle_transcript.specs.ShapeOf.{batches_of, shape_of}
use Rattle.circle_prover.specs.Failure.{IsStuck, IsTooHigh}
use Rattle.circle_prover.specs.OfRequests.{claims_with, fields_of, seen_with}
use Rattle.circle_prover.specs.Words.{taken_in, top_of}
use Rattle.circle_prover.specs.declared.run.CommittedWords.{CommittedWords}
use Rattle.circle_relation.specs.declared.error.ProverError.TheVariants.{Memory}
use Rattle.circle_prover.proofs.Answered.{if_ok2, matched-both, matched-err, matched-ok}
use Rattle.circle_relation.proofs.Counts.{queries-count}
use Rattle.circle_prover.proofs.KnownRequests.{listed-tall, taken-listed, top-high, top-listed}
use Rattle.circle_prover.proofs.KnownRequests.{top-low}
use Rattle.circle_prover.proofs.KnownRequests.{top-with, widths-with}
use Rattle.circle_prover.proofs.Stuck.{draw-moved}
use Rattle.circle_prover.proofs.openable.OpenableRequests.play.Given.{Over}
use Rattle.circle_prover.proofs.openable.OpenableRequests.play.Goals as goal

-- what the challenger is to the run
abbrev challenger : (g : Over) →
    RunMoves g.row.C.Denot g.row.C-State.Denot g.row.Val.Denot g.row.EF.Denot
    g.row.FriMmcs-Commitment.Denot
challenger g = run_moves g.C.ChallengerState.state g.C.CanObserve-1.after_observe
    g.C.CanObserve-2.after_observe g.C.CanSample.sampled g.C.CanSample.after_sample
    g.C.CanSampleBits.sampled_bits g.C.CanSampleBits.after_bits g.C.GrindingChallenger.found_witness
    g.EF.ExtensionField.DEGREE g.EF.ExtensionField.coefficients (of_nat g.Val.Operations.ops)
    g.Val.Operations.ops.zero

pub new-shape-requires-clause-high : goal.new-shape-requires-clause-high
new-shape-requires-clause-high g c =
    let o = c.args.self.now in
    let values = openings c.args.values.now in
    let top = rw c.deref-2.ensures.value at c.greatest_height-top.ensures in
    omega (
      arith,
      top-high o values c.requires.values,
      top,
      top-listed o values c.in_ok-matrices.matrices.items c.in_ok-matrices.ensures,
    )

pub open-requires-clause-claims : goal.open-requires-clause-claims
open-requires-clause-claims g c =
    let o = c.args.self.now in
    let values = openings c.args.values.now in
    let l = g.EF.Operations.ops in
    let taken = taken-listed o values l c.in_ok-matrices.matrices.items _ c.in_ok-matrices.ensures
    (rw c.deref.ensures.value at c.in_ok-claims.ensures) in
    let wide = c.in_ok-widths.ensures ∙ sym (widths-with o values c.requires.values) in
    ap (λ cs. widths_of (claims_of cs)) c.deref-4.ensures.value ∙ ap (λ cs. widths_of cs) taken
    ∙ claims_widths l (claims_with o values)
    ∙ sym
    (ap (λ ws. flat_map (λ m. m) (flat_map (λ b. b) ws))
    (ap (λ s. batches_of s.opened_widths.items) c.new-shape.ensures ∙ wide))

pub open-requires-clause-small : goal.open-requires-clause-small
open-requires-clause-small g c =
    let o = c.args.self.now in
    let values = openings c.args.values.now in
    let top = rw c.deref-2.ensures.value at c.greatest_height-top.ensures in
    let same = top-listed o values c.in_ok-matrices.matrices.items c.in_ok-matrices.ensures in
    let high = top-high o values c.requires.values in
    let low = top-low o values c.requires.values in
    let most = g.met.Val.ComplexExtendable.at_most_62 in
    let one = c.extra_query_index_bits-extra_bits.ensures in
    record {
      batch = let is = ap (λ s. s.batch_pow_bits) c.new-shape.ensures in
          omega (arith, is, o.fit.batch_work);
      commit = let is = ap (λ s. s.commit_pow_bits) c.new-shape.ensures in
          omega (arith, is, o.fit.commit_work);
      query = let is = ap (λ s. s.query_pow_bits) c.new-shape.ensures in
          omega (arith, is, o.fit.query_work);
      index = let is = ap (λ s. s.index_bits) c.new-shape.ensures in
          omega (arith, is, one, low, most, same, top);
      final_poly = let is = ap (λ s. s.log_final_poly_len) c.new-shape.ensures in
          omega (arith, is, high, low, most);
    }

pub invariant_of-foldable : goal.invariant_of-foldable
invariant_of-foldable g c =
    let o = c.args.self.now in
    let tall = listed-tall o (openings c.args.values.now) c.requires.values c.deref-3.result.now
    (rw c.deref-3.ensures.value c.in_ok-matrices.ensures) in
    record { blowup = o.fit.blowup; some = tall.0; tall = tall.1 }

pub returns-clause-below : goal.returns-clause-below
returns-clause-below g c =
    let o = c.args.self.now in
    let values = openings c.args.values.now in
    let top = rw c.deref-2.ensures.value at c.greatest_height-top.ensures in
    let same = top-listed o values c.in_ok-matrices.matrices.items c.in_ok-matrices.ensures in
    let high = top-high o values c.requires.values in
    let ms = ap top_of (ap (map (committed_of (fields_of o) o.params.now.log_blowup))
    c.deref-3.ensures.value ∙ c.in_ok-matrices.ensures) in
    let is = ap (λ s. s.index_bits) c.new-shape.ensures in
    let one = c.extra_query_index_bits-extra_bits.ensures in
    if_ok2 c.open.result _ _ _
    (λ w known low.
    let bits : c.new-shape.result.index_bits ≡ w.log_max_height = let here = known.top in
    omega (arith, is, one, high, same, top, ms, here) in
    subst (λ n. All (λ q. q < 2 ^ n) w.draws.indices.items) bits low)
    c.open.ensures.words c.open.ensures.below

pub returns-clause-some : goal.returns-clause-some
returns-clause-some g c =
    let is = ap (λ s. s.num_queries) c.new-shape.ensures in
    let drawn = matched-ok c.open.result _ _ c.open.ensures.outcome in
    if_ok2 c.open.result _ _ _
    (λ w drawn again.
    let count = queries-count (challenger g) (numbers_of (shape_of c.new-shape.result))
    (taken_in (claims_of c.deref-4.result.now) w) _ _ drawn in
    omega (arith, count, is, c.args.self.now.fit.queries))
    drawn drawn

pub returns-clause-easy : goal.returns-clause-easy
returns-clause-easy g c =
    let batch = ap (λ s. s.batch_pow_bits) c.new-shape.ensures in
    let commit = ap (λ s. s.commit_pow_bits) c.new-shape.ensures in
    let query = ap (λ s. s.query_pow_bits) c.new-shape.ensures in
    let Words : Type 0 =
    CommittedWords g.row.Val.Denot g.row.EF.Denot g.row.FriMmcs-Commitment.Denot
    g.row.FriMmcs-ProverData.Denot in
    let zero = g.Val.Operations.ops.zero in
    let Batch : Words → Type 0 = λ w. c.new-shape.result.batch_pow_bits ≡ 0 → w.witnesses.batch
    ≡ zero in
    let Rounds : Words → Type 0 = λ w. c.new-shape.result.commit_pow_bits ≡ 0 →
    All (λ a. a ≡ zero) w.witnesses.rounds.items in
    let Query : Words → Type 0 = λ w. c.new-shape.result.query_pow_bits ≡ 0 → w.witnesses.query
    ≡ zero in
    if_ok2 c.open.result (λ w. Batch w × Rounds w) Query _
    (λ w both last. record {
      batch = λ none. both.0 (batch ∙ none);
      rounds =
          λ none. both.1 (commit ∙ none);
      query = λ none. last (query ∙ none);
    })
    (if_ok2 c.open.result Batch Rounds (λ w. Batch w × Rounds w)
    (λ w first second. (first, second)) c.open.ensures.easy_batch
    c.open.ensures.easy_rounds) c.open.ensures.easy_query

pub returns-clause-words : goal.returns-clause-words
returns-clause-words g c =
    let o = c.args.self.now in
    let are = ap (map (committed_of (fields_of o) o.params.now.log_blowup)) c.deref-3.ensures.value
    ∙ c.in_ok-matrices.ensures in
    rw are at c.open.ensures.words

pub returns-in_err-matrices-clause-outcome : goal.returns-in_err-matrices-clause-outcome
returns-in_err-matrices-clause-outcome g c =
    matched-err c.from_residual.result Memory _ _ c.from_residual.ensures.1 (inl refl)

pub returns-in_err-claims-clause-outcome : goal.returns-in_err-claims-clause-outcome
returns-in_err-claims-clause-outcome g c =
    matched-err c.from_residual-in_err-claims.result Memory _ _
    c.from_residual-in_err-claims.ensures.1 (inl refl)

pub returns-in_err-widths-clause-outcome : goal.returns-in_err-widths-clause-outcome
returns-in_err-widths-clause-outcome g c =
    matched-err c.from_residual-in_err-widths.result Memory _ _
    c.from_residual-in_err-widths.ensures.1 (inl refl)

pub returns-clause-outcome : goal.returns-clause-outcome
returns-clause-outcome g c =
    let o = c.args.self.now in
    let values = openings c.args.values.now in
    let p = o.params.now in
    let r = challenger g in
    let k = fields_of o in
    let commits = g.FriMmcs.Mmcs.commits p.mmcs in
    let l = g.EF.Operations.ops in
    let claims = claims_with o values in
    let list = c.in_ok-matrices.matrices.items in
    let taken = ap claims_of c.deref-4.ensures.value
    ∙ taken-listed o values l list _ c.in_ok-matrices.ensures
    (rw c.deref.ensures.value at c.in_ok-claims.ensures) in
    let high = (rw c.deref-2.ensures.value at c.greatest_height-top.ensures)
    ∙ top-listed o values list c.in_ok-matrices.ensures ∙ sym (top-with o values) in
    let shape = shape_is p claims (batches_of c.in_ok-widths.widths.items)
    c.greatest_height-top.result c.extra_query_index_bits-extra_bits.result
    (shape_of c.new-shape.result) (ap shape_of c.new-shape.ensures)
    (c.in_ok-widths.ensures ∙ sym (widths-with o values c.requires.values)) high
    c.extra_query_index_bits-extra_bits.ensures in
    let s = g.C.ChallengerState.state c.args.challenger.now in
    let flat = seen_with o values in
    let are = ap (map (committed_of k p.log_blowup)) c.deref-3.ensures.value
    ∙ c.in_ok-matrices.ensures in
    let end = g.C.ChallengerState.state c.open.new.challenger in
    matched-both c.open.result _ _ _ _
    (λ w drawn.
    draw-moved r (shape_of c.new-shape.result) (shape_by p claims)
    (taken_in (claims_of c.deref-4.result.now) w) (taken_in (claims_taken l claims) w) s
    (Ok (drawn_of g.EF.ExtensionField.coefficients w.draws end)) shape
    (ap (λ cs. taken_in cs w) taken) drawn)
    (λ e why.
    elim why [
      | inl refused ↦ inl refused
      | inr rest ↦
          elim rest [
            | inl last ↦ inr
                (inl (subst (λ ms. IsTooHigh k p.log_blowup p.log_final_poly_len ms e) are last))
            | inr stuck ↦
                inr
                (inr
                (subst
                (λ cs. IsStuck r commits k p flat (numbers_of (shape_by p claims)) cs
                (seeded r (shape_by p claims) s) e) taken
                (subst
                (λ sh. IsStuck r commits k p flat (numbers_of sh)
                (claims_of c.deref-4.result.now) (seeded r sh s) e) shape
                (subst
                (λ ms. IsStuck r commits k p ms (numbers_of (shape_of c.new-shape.result))
                (claims_of c.deref-4.result.now) (seeded r (shape_of c.new-shape.result) s) e) are
                stuck))))
          ]
    ])
    c.open.ensures.outcome
