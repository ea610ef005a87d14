use Rattle.std.proofs.Common.{◌++◌, map, ap, sym, ◌∙◌, append_assoc}
use Rattle.std.proofs.lemmas.List.{append-nil}
use Rattle.circle_challenger.specs.Interaction.{step_of}
use Rattle.circle_transcript.specs.Shape.{round_steps, rounds_steps}
use Rattle.circle_transcript.proofs.Steps.{rounds-push, rounds-zero}
use Rattle.circle_transcript.proofs.shape.push_rounds.Goals as goal

pub loop-round-init : goal.loop-round-init
loop-round-init c =
    let steps = map step_of c.args.steps.now.items in
    sym (append-nil steps) ∙ ap (λ v. steps ++ v) (sym (rounds-zero c.args.degree c.args.bits))

pub loop-round-preserved : goal.loop-round-preserved
loop-round-preserved c =
    let steps = map step_of c.args.steps.now.items in
    let round = round_steps c.args.degree c.args.bits in
    let rounds = rounds_steps c.args.degree c.args.bits c.loop-round._round in
    c.in_ok-push_round.ensures ∙ ap (λ v. v ++ round) c.loop-round.invariant
    ∙ append_assoc steps rounds round
    ∙ ap (λ v. steps ++ v) (sym (rounds-push c.args.degree c.args.bits c.loop-round._round))
