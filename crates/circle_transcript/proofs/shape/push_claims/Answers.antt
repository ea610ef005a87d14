use Rattle.std.proofs.Common.{◌<◌, ◌++◌, flat_map, length, map, ap, ◌∙◌, arith}
use Rattle.std.proofs.lemmas.List.{take_all, take_more}
use Rattle.circle_challenger.specs.Interaction.{step_of}
use Rattle.circle_transcript.specs.Shape.{claim_steps}
use Rattle.circle_transcript.proofs.Each.{one_more, each-push}
use Rattle.circle_transcript.proofs.shape.push_claims.Goals as goal

pub loop-width-preserved : goal.loop-width-preserved
loop-width-preserved c =
    let steps = claim_steps c.args.degree in
    let widths = c.args.widths.now in
    let i = c.loop-width.width-index in
    let within : i < length widths = omega arith in
    one_more (flat_map steps) _ widths i _ _ _ _ (take_more widths i 0 within) (each-push steps _ _)
    c.loop-width.invariant c.in_ok-push_claim.ensures

pub returns : goal.returns
returns c =
    let steps = claim_steps c.args.degree in
    c.loop-width.invariant ∙ ap (λ ws. map step_of c.args.steps.now.items ++ flat_map steps ws)
    (take_all c.loop-width.width-index c.args.widths.now c.loop-width-test.false)
