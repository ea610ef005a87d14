use Rattle.std.proofs.Common.{◌≡◌, ◌+◌, ◌-◌, ◌^◌, map}
use Rattle.std.specs.List.{range_with_len}
use Rattle.sha2.specs.Sha256.{sha256}
use Rattle.circle_merkle.specs.Tree.{digest}
use Rattle.circle_merkle.specs.Rows.{matrix_rows}
use Rattle.circle_merkle.proofs.tree.levels_of.Given as goal

abbrev pub invariant-loop-level : goal.invariant-loop-level
invariant-loop-level g l =
    map (λ level. level.items) l.levels.items
    ≡ map (λ level. map (digest sha256 (matrix_rows g.T.ElementBytes.bytes l.matrices) level)
    (range_with_len 0 (2 ^ (l.count - level)))) (range_with_len 0 (l.level + 1))
