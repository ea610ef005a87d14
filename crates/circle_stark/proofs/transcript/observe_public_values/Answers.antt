use Rattle.std.proofs.Common.{◌∙◌, ap, map-id}
use Rattle.std.proofs.lemmas.List.Concat.{flat_map_single}
use Rattle.circle_challenger.specs.Observing.{after_all}
use Rattle.circle_challenger.specs.TranscriptState.{current}
use Rattle.circle_stark.proofs.transcript.observe_public_values.Goals as goal

pub returns-then-values-gt0-clause-state : goal.returns-then-values-gt0-clause-state
returns-then-values-gt0-clause-state g c =
    let before = g.C.ChallengerState.state (current c.args.transcript.now) in
    let values = c.args.values.now in
    c.observe_extensions.ensures.state
    ∙ ap (after_all g.C.CanObserve.after_observe before)
    (flat_map_single (λ x. x) values ∙ map-id values)
