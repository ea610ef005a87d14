use Rattle.std.proofs.Common.{◌<◌, ◌∙◌, sym, subst, All}
use Rattle.circle_commit.specs.Mmcs.{max_height}
use Rattle.circle_prover.proofs.Sided.{places-below}
use Rattle.circle_prover.proofs.openings.open_rows.Goals as goal

pub open_multi_batch-requires-clause-in_range : goal.open_multi_batch-requires-clause-in_range
open_multi_batch-requires-clause-in_range g c =
    let top = max_height (g.M.Mmcs.matrices c.args.kept.now) in
    subst (All (λ i. i < top)) (sym (c.deref.ensures.value ∙ c.in_ok-places.ensures))
    (places-below top c.args.bits c.args.indices.now c.requires.below)
