use Rattle.std.specs.Prelude.{Ok, Some, unwrap_or}
use Rattle.std.proofs.Common.{◌≡◌, ◌<◌, ◌≤◌, ℕ, All, length, sym, ap, ◌∙◌, subst, arith, inr}
use Rattle.circle_commit.specs.declared.params.PowPhase.TheVariants.{Batch}
use Rattle.circle_transcript.specs.Claims.{claims_of}
use Rattle.circle_transcript.specs.Transcript.{batch_from, run_of, state_of}
use Rattle.circle_transcript.proofs.Phases.{missed_in}
use Rattle.circle_transcript.proofs.Playing.{handed_on, unwrap_none}
use Rattle.circle_relation.specs.Failures.{prover_error}
use Rattle.circle_prover.specs.OfFoldable.{IsRunFailure, fields_of, seen}
use Rattle.circle_prover.proofs.Transcripts.{same-both}
use Rattle.circle_prover.proofs.TallMatrices.{heights-fit, tall-seen}
use Rattle.circle_prover.proofs.Tops.{folds-are, some-heights}
use Rattle.circle_prover.proofs.foldable.FoldableMatrices.fold_layer.Goals as goal

pub batch_phase-requires-clause-next : goal.batch_phase-requires-clause-next
batch_phase-requires-clause-next g c = (_, c.requires.next)

pub batch_phase-requires-clause-small : goal.batch_phase-requires-clause-small
batch_phase-requires-clause-small g c = c.requires.small

pub first_layer-bivariate-requires : goal.first_layer-bivariate-requires
first_layer-bivariate-requires g c =
    record { next = (_, c.in_ok-alpha.ensures.due _ c.requires.next) }

pub fold_first_layer-requires-clause-some : goal.fold_first_layer-requires-clause-some
fold_first_layer-requires-clause-some g c =
    subst (λ hs. 1 ≤ length hs) (sym (c.deref.ensures.value ∙ c.in_ok-layer.ensures.heights))
    (some-heights (seen c.args.self.now) (tall-seen c.args.self.now).0)

pub fold_first_layer-requires-clause-heights : goal.fold_first_layer-requires-clause-heights
fold_first_layer-requires-clause-heights g c =
    let P : ℕ → Type 0 = λ h. (1 ≤ h) × (h < g.F.ComplexExtendable.CIRCLE_TWO_ADICITY) in
    subst (All P) (sym (c.deref.ensures.value ∙ c.in_ok-layer.ensures.heights))
    (λ i d lt. let fits = heights-fit c.args.self.now i d lt in (omega (arith, fits.0), fits.1))

pub returns-in_err-alpha-clause-failure : goal.returns-in_err-alpha-clause-failure
returns-in_err-alpha-clause-failure g c =
    handed_on c.from_residual.result (prover_error c.in_err-alpha.field-0.0)
    (IsRunFailure c.args.self.now (run_of c.args.transcript.now) g.M.Mmcs.commits c.args.claims.now
    c.args.transcript.now) c.from_residual.ensures.1
    (inr (inr (
      Batch,
      ap prover_error c.in_err-alpha.ensures.failure,
      λ w. missed_in Batch _ _ _ (c.in_err-alpha.ensures.none w),
    )))

pub returns-in_err-alpha-clause-same : goal.returns-in_err-alpha-clause-same
returns-in_err-alpha-clause-same g c = c.batch_phase.ensures.same

pub returns-in_err-layer-clause-same : goal.returns-in_err-layer-clause-same
returns-in_err-layer-clause-same g c = c.batch_phase.ensures.same

pub returns-in_err-tallest-clause-same : goal.returns-in_err-tallest-clause-same
returns-in_err-tallest-clause-same g c =
    same-both _ _ _ c.batch_phase.ensures.same c.first_layer-bivariate.ensures.same

pub returns-clause-same : goal.returns-clause-same
returns-clause-same g c =
    same-both _ _ _ c.batch_phase.ensures.same c.first_layer-bivariate.ensures.same

pub returns-clause-due : goal.returns-clause-due
returns-clause-due g c =
    c.first_layer-bivariate.ensures.due _ (c.in_ok-alpha.ensures.due _ c.requires.next)

pub returns-clause-easy : goal.returns-clause-easy
returns-clause-easy g c = λ none.
    c.unwrap_or.ensures
    ∙ ap (unwrap_or c.in_ok-alpha.batch) (c.ZERO.ensures ∙ g.met.F.Field.zero_law)
    ∙ unwrap_none g.F.Operations.ops.zero c.in_ok-alpha.batch (c.in_ok-alpha.ensures.needed.1 none)

pub returns-clause-begun : goal.returns-clause-begun
returns-clause-begun g c =
    let is_witness : c.unwrap_or.result ≡ unwrap_or c.in_ok-alpha.batch g.F.Operations.ops.zero =
    c.unwrap_or.ensures
    ∙ ap (unwrap_or c.in_ok-alpha.batch) (c.ZERO.ensures ∙ g.met.F.Field.zero_law) in
    record {
      found = c.in_ok-alpha.ensures.found ∙ ap Some (sym is_witness);
      after = state_of c.batch_phase.new.self;
      batch =
          subst
          (λ w. batch_from c.args.transcript.now (claims_of c.args.claims.now) w
          ≡ Ok (
            g.EF.ExtensionField.coefficients c.in_ok-alpha.alpha,
            state_of c.batch_phase.new.self,
          )) (sym is_witness) c.in_ok-alpha.ensures.played;
      layer = c.first_layer-bivariate.ensures.played;
    }

pub returns-clause-layer : goal.returns-clause-layer
returns-clause-layer g c =
    let o = c.args.self.now in
    let made = c.in_ok-layer.ensures in
    let listed = c.deref.ensures.value ∙ made.heights in
    record {
      heights = made.heights;
      lambdas = made.lambdas;
      committed = made.committed;
      shapes = made.shapes;
      folds =
          folds-are (fields_of o) o.params.now.log_blowup (seen o) c.in_ok-alpha.alpha
          c.first_layer-bivariate.result c.deref.result.now
          (g.M.Mmcs.matrices c.in_ok-layer.layer.kept) _ listed made.committed.rows
          c.in_ok-tallest.ensures.words;
      lengths = rw listed at c.in_ok-tallest.ensures.lengths;
    }
