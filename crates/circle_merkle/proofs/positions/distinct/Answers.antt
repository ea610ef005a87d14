use Rattle.std.proofs.Common.{◌∙◌, subst, eqb}
use Rattle.std.specs.List.Sorted.{IsPermutation}
use Rattle.std.proofs.lemmas.List.Filters.{dedup_is}
use Rattle.circle_merkle.proofs.Ascending.{known-sorted}
use Rattle.circle_merkle.proofs.positions.distinct.Goals as goal

pub returns : goal.returns
returns c levels below =
    let sorted = c.sort_unstable.new.self.items in
    dedup_is eqb sorted c.dedup.new.self.items c.dedup.ensures.filtered
    ∙ known-sorted c.args.indices.now sorted levels
    (subst (λ xs. IsPermutation xs sorted) c.in_ok-positions.ensures.items
    c.sort_unstable.ensures.permutation)
    c.sort_unstable.ensures.sorted below
