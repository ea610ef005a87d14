use Rattle.std.proofs.Common.{◌++◌, [], ◌∷◌, ◌∙◌, ap, sym, take, take_all}
use Rattle.std.proofs.lemmas.List.{map-append, map_more}
use Rattle.circle_codewords.specs.Requests.{lists_of}
use Rattle.circle_commands.specs.Proved.{points_of}
use Rattle.circle_commands.specs.declared.prove.Trace.{Trace}
use Rattle.circle_commands.proofs.prove.points.Goals as goal

pub loop-trace-preserved : goal.loop-trace-preserved
loop-trace-preserved c =
    let traces = c.args.traces.now in
    let i = c.loop-trace.trace-index in
    let t = c.trace-item.result in
    ap lists_of c.in_ok-push.ensures.items ∙ map-append (λ v. v.items) c.loop-trace.points.items
    (c.in_ok-from_slice.field-0 ∷ [])
    ∙ ap (λ ps. ps ++ c.in_ok-from_slice.field-0.items ∷ []) c.loop-trace.invariant
    ∙ ap (λ p. points_of (take i traces) ++ p ∷ []) (c.in_ok-from_slice.ensures.items
    ∙ c.deref.ensures.value ∙ ap (λ (t : Trace). t.points.items) c.trace-item.is)
    ∙ sym (map_more (λ (t : Trace). t.points.items) traces i t c.loop-trace-test.true)

pub returns : goal.returns
returns c = c.loop-trace.invariant
    ∙ ap points_of (take_all c.loop-trace.trace-index c.args.traces.now c.loop-trace-test.false)
