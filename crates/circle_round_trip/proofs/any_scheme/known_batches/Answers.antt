use Rattle.std.proofs.Common.{◌∙◌, [], ◌∷◌, ◌++◌, map, sym, ap}
use Rattle.std.proofs.lemmas.Iterator.Adapters.{YieldsList-from_vec}
use Rattle.std.proofs.lemmas.Iterator.Consumers.{YieldsList-end}
use Rattle.std.proofs.lemmas.List.{map-append, map-id}
use Rattle.circle_round_trip.proofs.any_scheme.known_batches.Goals as goal

pub loop-batch-preserved : goal.loop-batch-preserved
loop-batch-preserved g c =
    c.in_ok-push.ensures.items ∙ ap (λ l. l ++ c.in-Some.batch.known ∷ []) c.loop-batch.invariant
    ∙ sym (map-append (λ c. c.known) c.loop-batch.yielded (c.in-Some.batch ∷ []))

pub returns : goal.returns
returns g c =
    let given = c.into_iter-batch-iterator.ensures.into_iter_gives in
    let road =
    YieldsList-from_vec c.args.committed.items given.0 (given.1 ∙ c.args.committed.ok.0) in
    let last = YieldsList-end road c.loop-batch.yielded _ c.loop-batch.yielded_by _ c.next.new.self
    c.in-None.is c.next.ensures.steps in
    c.loop-batch.invariant ∙ ap (map (λ c. c.known)) (sym (map-id c.loop-batch.yielded) ∙ last.0)
