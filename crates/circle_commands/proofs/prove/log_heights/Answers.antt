use Rattle.std.proofs.Common.{◌≡◌, ◌++◌, [], ◌∷◌, ◌∙◌, ap, sym, take, take_all, subst, length}
use Rattle.std.proofs.Common.{vec_len, arith}
use Rattle.std.proofs.lemmas.List.{map_more}
use Rattle.circle_codewords.proofs.Logs.{log_of-power}
use Rattle.circle_codewords.specs.Requests.{log_of}
use Rattle.circle_commands.specs.Proved.{logs_of}
use Rattle.circle_commands.specs.Traces.{HasFittingRows}
use Rattle.circle_commands.specs.declared.prove.Trace.{Trace}
use Rattle.circle_commands.proofs.prove.log_heights.Goals as goal

pub log2_strict-requires : goal.log2_strict-requires
log2_strict-requires c =
    let t = c.trace-item.result in
    let fit : HasFittingRows t =
    subst HasFittingRows (sym c.trace-item.is)
    (c.requires c.loop-trace.trace-index _ c.loop-trace-test.true) in
    let same : vec_len t.rows ≡ length t.rows.items = omega (arith, t.rows.ok.0) in
    (fit.power.0, c.len.ensures ∙ same ∙ fit.power.1)

pub loop-trace-preserved : goal.loop-trace-preserved
loop-trace-preserved c =
    let traces = c.args.traces.now in
    let i = c.loop-trace.trace-index in
    let t = c.trace-item.result in
    let same : vec_len t.rows ≡ length t.rows.items = omega (arith, t.rows.ok.0) in
    let log : c.log2_strict.result ≡ log_of (length t.rows.items) =
    sym (log_of-power c.log2_strict.result c.log2_strict.ensures.bound)
    ∙ ap log_of (c.log2_strict.ensures.power ∙ c.len.ensures ∙ same) in
    c.in_ok-push.ensures.items
    ∙ ap (λ ls. ls ++ c.log2_strict.result ∷ []) c.loop-trace.invariant
    ∙ ap (λ l. logs_of (take i traces) ++ l ∷ [])
    (log ∙ ap (λ (t : Trace). log_of (length t.rows.items)) c.trace-item.is)
    ∙ sym (map_more (λ (t : Trace). log_of (length t.rows.items)) traces i t c.loop-trace-test.true)

pub returns : goal.returns
returns c = c.loop-trace.invariant
    ∙ ap logs_of (take_all c.loop-trace.trace-index c.args.traces.now c.loop-trace-test.false)
