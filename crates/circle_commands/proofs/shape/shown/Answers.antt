use Rattle.std.proofs.Common.{◌≡◌, ◌∙◌, ap, length, sym, string_bytes}
use Rattle.std.proofs.lemmas.List.{length-map}
use Rattle.hex.specs.Hex.{encode_lower}
use Rattle.serde_json.specs.View.{view}
use Rattle.circle_challenger.specs.Interaction.{step_of}
use Rattle.circle_challenger.specs.Separator.{Separator, seed_text}
use Rattle.circle_transcript.specs.Shape.{layout, steps_of, text_of}
use Rattle.circle_transcript.specs.ShapeOf.{shape_of}
use Rattle.circle_commands.specs.Shape.{shape_object, shape_written}
use Rattle.circle_commands.proofs.Texts.{if-ok, second-items, shape-same}
use Rattle.circle_commands.proofs.shape.shown.Goals as goal

pub returns : goal.returns
returns c =
    let s = shape_of c.args.shape.now in
    let is = c.in_ok-separator.ensures.separator in
    let label = second-items c.labels.result.now c.index-labels-1.result _ (layout s.opened_widths)
    _ (c.labels.ensures ∙ ap (λ (x : Separator). x.labels) is) c.index-labels-1.is in
    let digits : string_bytes c.in_ok-layout.layout ≡ encode_lower (layout s.opened_widths) =
    c.in_ok-layout.ensures ∙ ap encode_lower (c.as_slice.ensures.value ∙ label) in
    let seed : string_bytes c.in_ok-seed.seed ≡ encode_lower (text_of 3 s) = c.in_ok-seed.ensures
    ∙ ap encode_lower (c.text.ensures.text ∙ ap seed_text is) in
    let steps : length c.steps-steps.result.now ≡ length (steps_of 3 s) =
    sym (length-map c.steps-steps.result.now step_of)
    ∙ ap length (c.steps-steps.ensures ∙ c.pattern.ensures
    ∙ ap (λ (x : Separator). x.steps) is) in
    if-ok c.object.result _ (λ value. view value ≡ shape_written 3 s)
    (λ value made. made ∙ shape-same 3 s _ _ _ digits seed steps) c.object.ensures
