use Rattle.std.specs.Prelude.{Ok, Err, unwrap_or, zip}
use Rattle.std.proofs.Common.{◌≡◌, ◌<◌, ◌≤◌, ◌+◌, ◌^◌, [], All, length, map}
use Rattle.std.proofs.lemmas.List.{append-nil}
use Rattle.std.proofs.Common.{sym, ap, ◌∙◌, subst, inl, inr}
use Rattle.circle_commit.specs.declared.params.PowPhase.TheVariants.{CommitPhase, Query}
use Rattle.circle_transcript.specs.Claims.{claims_of}
use Rattle.circle_transcript.specs.Draw.{after_final_poly, draw_seeded, taken}
use Rattle.circle_transcript.specs.Runs.{NonePasses}
use Rattle.circle_transcript.specs.Transcript.{numbers, query_from, run_of, state_of}
use Rattle.circle_transcript.specs.declared.transcript.Numbers.{Numbers}
use Rattle.circle_transcript.proofs.Drawn.{drawn_parts}
use Rattle.circle_transcript.proofs.Phases.{missed_in}
use Rattle.circle_transcript.proofs.Playing.{handed_on, unwrap_none}
use Rattle.circle_domain.specs.Spans.{HasXValues}
use Rattle.circle_codewords.specs.Words.{HaveHeights}
use Rattle.circle_relation.specs.Failures.{prover_error}
use Rattle.circle_prover.specs.Folding.{word_of}
use Rattle.circle_prover.specs.OfFoldable.{IsRunFailure, fields_of}
use Rattle.circle_prover.proofs.Begun.{all-drawn, stuck-in-query, stuck-in-rounds}
use Rattle.circle_prover.proofs.Transcripts.{same-both}
use Rattle.circle_prover.proofs.TallMatrices.{top-is}
use Rattle.circle_prover.proofs.foldable.FoldableMatrices.play.Goals as goal

pub fold_layer-requires-clause-small : goal.fold_layer-requires-clause-small
fold_layer-requires-clause-small g c = c.requires.small.batch

pub fold_rounds-requires-clause-next : goal.fold_rounds-requires-clause-next
fold_rounds-requires-clause-next g c = rw c.fold_layer.ensures.same.shape c.in_ok-first.ensures.due

pub fold_rounds-requires-clause-small : goal.fold_rounds-requires-clause-small
fold_rounds-requires-clause-small g c =
    subst (λ n. n.commit_pow_bits ≤ 63) (sym c.fold_layer.ensures.same.shape)
    c.requires.small.commit

pub query_phase-requires-clause-small : goal.query_phase-requires-clause-small
query_phase-requires-clause-small g c =
    subst (λ n. n.query_pow_bits ≤ 63)
    (sym (c.fold_rounds.ensures.same.shape ∙ c.fold_layer.ensures.same.shape))
    c.requires.small.query

pub query_phase-requires-clause-narrow : goal.query_phase-requires-clause-narrow
query_phase-requires-clause-narrow g c =
    subst (λ n. n.index_bits ≤ 63)
    (sym (c.fold_rounds.ensures.same.shape ∙ c.fold_layer.ensures.same.shape))
    c.requires.small.index

pub query_phase-requires-clause-count : goal.query_phase-requires-clause-count
query_phase-requires-clause-count g c =
    ap length c.deref.ensures.value ∙ c.in_ok-rounds.ensures.count
    ∙ ap (λ n. 2 ^ n)
    (sym (ap (λ n. n.log_final_poly_len)
    (c.fold_rounds.ensures.same.shape ∙ c.fold_layer.ensures.same.shape)
    ∙ c.requires.coefficients))

pub returns-in_err-first-clause-same : goal.returns-in_err-first-clause-same
returns-in_err-first-clause-same g c = c.fold_layer.ensures.same

pub returns-in_err-rounds-clause-same : goal.returns-in_err-rounds-clause-same
returns-in_err-rounds-clause-same g c =
    same-both _ _ _ c.fold_layer.ensures.same c.fold_rounds.ensures.same

pub returns-in_err-indices-clause-same : goal.returns-in_err-indices-clause-same
returns-in_err-indices-clause-same g c =
    same-both _ _ _ c.fold_layer.ensures.same
    (same-both _ _ _ c.fold_rounds.ensures.same c.query_phase.ensures.same)

pub returns-clause-same : goal.returns-clause-same
returns-clause-same g c =
    same-both _ _ _ c.fold_layer.ensures.same
    (same-both _ _ _ c.fold_rounds.ensures.same c.query_phase.ensures.same)

pub returns-in_err-rounds-clause-failure : goal.returns-in_err-rounds-clause-failure
returns-in_err-rounds-clause-failure g c =
    handed_on c.from_residual-in_err-rounds.result c.in_err-rounds.field-0.0
    (IsRunFailure c.args.self.now (run_of c.args.transcript.now) g.M.Mmcs.commits c.args.claims.now
    c.args.transcript.now) c.from_residual-in_err-rounds.ensures.1
    (elim c.in_err-rounds.ensures.failure [
      | inl refused ↦ inl refused
      | inr rest ↦
          elim rest [
            | inl high ↦ inr (inl high)
            | inr stuck ↦
                inr (inr (
                  CommitPhase,
                  stuck.0,
                  stuck-in-rounds c.args.self.now g.M.Mmcs.commits g.M.Mmcs.matrices
                      c.in_ok-first.first c.in_ok-first.tallest.items c.in_ok-first.ensures.layer
                      c.args.transcript.now c.fold_layer.new.transcript
                      (claims_of c.args.claims.now) c.in_ok-first.ensures.begun
                      c.fold_layer.ensures.same stuck.1,
                ))
          ]
    ])

pub query_phase-requires-clause-next : goal.query_phase-requires-clause-next
query_phase-requires-clause-next g c =
    ([], c.in_ok-rounds.ensures.due ∙ sym (append-nil _))

pub returns-clause-due : goal.returns-clause-due
returns-clause-due g c =
    c.in_ok-indices.ensures.due [] (c.in_ok-rounds.ensures.due ∙ sym (append-nil _))

pub returns-in_err-indices-clause-failure : goal.returns-in_err-indices-clause-failure
returns-in_err-indices-clause-failure g c =
    let r = run_of c.args.transcript.now in
    handed_on c.from_residual-in_err-indices.result (prover_error c.in_err-indices.field-0.0)
    (IsRunFailure c.args.self.now r g.M.Mmcs.commits c.args.claims.now c.args.transcript.now)
    c.from_residual-in_err-indices.ensures.1
    (elim c.in_err-indices.ensures.failure [
      | inl refused ↦ inl (ap prover_error refused)
      | inr none ↦
          inr (inr (
            Query,
            ap prover_error none,
            stuck-in-query c.args.self.now g.M.Mmcs.commits g.M.Mmcs.matrices c.in_ok-first.first
                c.in_ok-first.tallest.items c.in_ok-first.ensures.layer c.args.transcript.now
                c.fold_layer.new.transcript (claims_of c.args.claims.now)
                c.in_ok-first.ensures.begun c.fold_layer.ensures.same c.fold_rounds.new.transcript
                c.in_ok-rounds.rounds c.in_ok-rounds.final_poly.items
                c.in_ok-rounds.ensures.rounds c.in_ok-rounds.ensures.played
                c.fold_rounds.ensures.same
                (subst
                (λ xs. NonePasses r.base
                (after_final_poly r.base (state_of c.fold_rounds.new.transcript) xs)
                (numbers c.fold_rounds.new.transcript).query_pow_bits) c.deref.ensures.value
                (λ w. missed_in Query _ _ _
                (c.query_phase.ensures.none (c.in_err-indices.was ∙ ap Err none) w))),
          ))
    ])

pub returns-clause-below : goal.returns-clause-below
returns-clause-below g c =
    subst (λ (v : Numbers). All (λ i. i < 2 ^ v.index_bits) c.in_ok-indices.indices.items)
    (c.fold_rounds.ensures.same.shape ∙ c.fold_layer.ensures.same.shape)
    c.in_ok-indices.ensures.below

pub returns-clause-easy_batch : goal.returns-clause-easy_batch
returns-clause-easy_batch g c = c.in_ok-first.ensures.easy

pub returns-clause-easy_rounds : goal.returns-clause-easy_rounds
returns-clause-easy_rounds g c = λ none.
    c.in_ok-rounds.ensures.easy
    (ap (λ v. v.commit_pow_bits) c.fold_layer.ensures.same.shape ∙ none)

pub returns-clause-easy_query : goal.returns-clause-easy_query
returns-clause-easy_query g c = λ none.
    let same = c.fold_rounds.ensures.same.shape ∙ c.fold_layer.ensures.same.shape in
    c.unwrap_or.ensures
    ∙ ap (unwrap_or c.in_ok-indices.query) (c.ZERO.ensures ∙ g.met.F.Field.zero_law)
    ∙ unwrap_none g.F.Operations.ops.zero c.in_ok-indices.query
    (c.in_ok-indices.ensures.needed.1 (ap (λ v. v.query_pow_bits) same ∙ none))

pub returns-clause-draws : goal.returns-clause-draws
returns-clause-draws g c =
    let old = c.args.transcript.now in
    let now = c.fold_rounds.new.transcript in
    let first = c.in_ok-first.first in
    let made = c.in_ok-rounds.rounds in
    let last = c.in_ok-rounds.final_poly.items in
    let claims = claims_of c.args.claims.now in
    let end = state_of c.query_phase.new.self in
    let w = unwrap_or c.in_ok-indices.query g.F.Operations.ops.zero in
    let given =
    all-drawn c.args.self.now g.M.Mmcs.commits g.M.Mmcs.matrices first c.in_ok-first.tallest.items
    c.in_ok-first.ensures.layer old c.fold_layer.new.transcript claims c.in_ok-first.ensures.begun
    c.fold_layer.ensures.same now made last c.in_ok-rounds.ensures.rounds
    c.in_ok-rounds.ensures.played c.fold_rounds.ensures.same w c.in_ok-indices.indices.items end
    (subst (λ xs. query_from now xs w ≡ Ok (c.in_ok-indices.indices.items, end))
    c.deref.ensures.value c.in_ok-indices.ensures.played) in
    let is : c.unwrap_or.result ≡ w = c.unwrap_or.ensures
    ∙ ap (unwrap_or c.in_ok-indices.query) (c.ZERO.ensures ∙ g.met.F.Field.zero_law) in
    let coefficients = g.EF.ExtensionField.coefficients in
    subst
    (λ x. draw_seeded (run_of old) (numbers old)
    (taken claims first.witness first.layer.commitment
    (zip made.commitments.items made.witnesses.items) last x) (state_of old)
    ≡ Ok (drawn_parts (coefficients first.alpha) (coefficients first.bivariate)
    (map coefficients made.betas.items) c.in_ok-indices.indices.items end)) (sym is) given

pub returns-clause-words : goal.returns-clause-words
returns-clause-words g c =
    let o = c.args.self.now in
    let k = fields_of o in
    let p = o.params.now in
    let first = c.in_ok-first.first in
    let layer = c.in_ok-first.ensures.layer in
    let made = c.in_ok-rounds.rounds in
    let known = c.in_ok-rounds.ensures.rounds in
    record {
      heights = layer.heights;
      top = c.greatest_height.ensures ∙ top-is o;
      lambdas = layer.lambdas;
      first_layer = layer.committed;
      shapes = subst (λ hs. HaveHeights hs (g.M.Mmcs.matrices first.layer.kept)) layer.heights
          layer.shapes;
      count = known.count;
      witnesses = known.witnesses ∙ sym known.count;
      rounds = known.committed;
      final_poly =
          subst
          (λ m. HasXValues k.field k.gen k.extension k.embed p.log_final_poly_len
          (p.log_blowup + p.log_final_poly_len) (word_of o first made.betas.items m)
          c.in_ok-rounds.final_poly.items) (sym known.count) known.final_poly;
    }
