use Rattle.std.proofs.Common.{◌≡◌, [], map, take}
use Rattle.circle_commit.specs.Mmcs.{opened_rows}
use Rattle.circle_folding.proofs.query.query_pairs.Given as goal

abbrev pub invariant-loop : goal.invariant-loop
invariant-loop g l = opened_rows l.rows.items ≡ map (λ _. []) (take l.index l.indices)
