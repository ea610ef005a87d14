use Rattle.std.proofs.Common.{◌≡◌, map, take}
use Rattle.circle_field.specs.Field.{of_nat}
use Rattle.circle_challenger.specs.Observing.{after_all}
use Rattle.circle_challenger.proofs.domain_separator.observe_bytes.Given as goal

-- the bytes so far were absorbed
abbrev pub invariant-loop-byte : goal.invariant-loop-byte
invariant-loop-byte g l =
    let state = g.C.ChallengerState.state in
    state l.challenger ≡ after_all g.C.CanObserve.after_observe (state l.initial.challenger)
    (map (of_nat g.F.Operations.ops) (take l.byte-index l.bytes))
