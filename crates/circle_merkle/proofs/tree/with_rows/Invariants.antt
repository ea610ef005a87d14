use Rattle.std.proofs.Common.{◌≡◌, ℕ, ◌+◌, ◌*◌, ◌<◌, [], get_or, length}
use Rattle.circle_merkle.proofs.tree.with_rows.Given as goal

abbrev pub invariant-loop-i : goal.invariant-loop-i
invariant-loop-i l = (length l.pairs.items ≡ 2 * l.i)
    × ((k : ℕ) → k < l.i → (get_or l.pairs.items (2 * k) [] ≡ get_or l.nodes k [])
    × (get_or l.pairs.items (2 * k + 1) [] ≡ get_or l.rows k []))
