use Rattle.std.proofs.Common.{◌++◌, [], ◌∷◌, ◌∙◌, ap, map, sym, take, take_all}
use Rattle.std.proofs.lemmas.List.{map_more}
use Rattle.circle_commands.specs.declared.prove.Committed.{Committed}
use Rattle.circle_commands.proofs.prove.CommittedInput.commitments.Goals as goal

pub loop-batch-preserved : goal.loop-batch-preserved
loop-batch-preserved c =
    let batches = c.deref-batch-items.result.now in
    let i = c.loop-batch.batch-index in
    c.in_ok-push.ensures.items
    ∙ ap (λ roots. roots ++ c.batch-item.result.commitment ∷ []) c.loop-batch.invariant
    ∙ ap (λ (x : Committed). map (λ (b : Committed). b.commitment) (take i batches)
    ++ x.commitment ∷ []) c.batch-item.is
    ∙ sym (map_more (λ (b : Committed). b.commitment) batches i c.batch-item.result
    c.loop-batch-test.true)

pub returns : goal.returns
returns c = c.loop-batch.invariant
    ∙ ap (map (λ (b : Committed). b.commitment))
    (take_all c.loop-batch.batch-index c.deref-batch-items.result.now c.loop-batch-test.false
    ∙ c.deref-batch-items.ensures.value)
