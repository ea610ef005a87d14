use Rattle.std.specs.Prelude.{codes}
use Rattle.std.proofs.Common.{◌∙◌, ◌++◌, ap, map, flat_map}
use Rattle.circle_challenger.specs.Interaction.{step_of}
use Rattle.circle_transcript.specs.Shape.{claim_steps, batch_steps, first_layer_steps, rounds_steps}
use Rattle.circle_transcript.specs.Shape.{query_steps, guarded_challenge_steps, widths_in}
use Rattle.circle_transcript.specs.ShapeOf.{batches_of}
use Rattle.circle_transcript.proofs.Steps.{at_degree, five_after}
use Rattle.circle_transcript.proofs.shape.CirclePcsShape.pattern.Goals as goal

pub returns : goal.returns
unfolding batch_steps
returns g c =
    let s = c.args.self.now in
    let degree = g.EF.ExtensionField.DEGREE in
    c.new.ensures
    ∙ five_after _ _ _ _ _ _ _ _ _ _ _ (ap (map step_of) c.new-steps.ensures.items)
    (at_degree (λ d. flat_map (claim_steps d) (widths_in (batches_of c.deref.result.now))) _ _
    c.DEGREE.result degree c.in_ok-push_batches.ensures c.DEGREE.ensures
    ∙ ap (λ bs. map step_of c.new-steps.result.items
    ++ flat_map (claim_steps degree) (widths_in (batches_of bs))) c.deref.ensures.value)
    (at_degree
    (λ d. guarded_challenge_steps d (codes "batch_pow") s.batch_pow_bits
    (codes "batch_challenge")) _ _ c.DEGREE-2.result degree c.in_ok-push_batch_challenge.ensures
    c.DEGREE-2.ensures)
    (at_degree first_layer_steps _ _ c.DEGREE-3.result degree c.in_ok-push_first_layer.ensures
    c.DEGREE-3.ensures)
    (at_degree (λ d. rounds_steps d s.commit_pow_bits s.num_commit_rounds) _ _ c.DEGREE-4.result
    degree c.in_ok-push_rounds.ensures c.DEGREE-4.ensures)
    (at_degree (λ d. query_steps d s.log_final_poly_len s.query_pow_bits s.index_bits s.num_queries)
    _ _ c.DEGREE-5.result degree c.in_ok-push_query.ensures c.DEGREE-5.ensures)
