use Rattle.std.proofs.Common.{◌++◌, [], ◌∷◌, ◌∙◌, ap, sym, take, take_all, map, subst, All}
use Rattle.std.proofs.lemmas.List.{map-append, map_more}
use Rattle.circle_commands.specs.Proved.{known_of, known_told}
use Rattle.circle_commands.specs.Traces.{HasFittingRows}
use Rattle.circle_commands.specs.declared.prove.Committed.{Committed}
use Rattle.circle_commands.proofs.prove.known_batches.Goals as goal

pub known_batch-requires : goal.known_batch-requires
known_batch-requires c =
    subst (λ (b : Committed). All HasFittingRows b.traces.now) (sym c.batch-item.is)
    (c.requires c.loop-batch.batch-index _ c.loop-batch-test.true)

pub loop-batch-preserved : goal.loop-batch-preserved
loop-batch-preserved c =
    let committed = c.args.committed.now in
    let i = c.loop-batch.batch-index in
    ap (map known_told) c.in_ok-push.ensures.items ∙ map-append known_told c.loop-batch.known.items
    (c.in_ok-known_batch.field-0 ∷ [])
    ∙ ap (λ bs. bs ++ known_told c.in_ok-known_batch.field-0 ∷ []) c.loop-batch.invariant
    ∙ ap (λ b. map known_of (take i committed) ++ b ∷ [])
    (c.in_ok-known_batch.ensures ∙ ap known_of c.batch-item.is)
    ∙ sym (map_more known_of committed i c.batch-item.result c.loop-batch-test.true)

pub returns : goal.returns
returns c = c.loop-batch.invariant
    ∙ ap (map known_of)
    (take_all c.loop-batch.batch-index c.args.committed.now c.loop-batch-test.false)
