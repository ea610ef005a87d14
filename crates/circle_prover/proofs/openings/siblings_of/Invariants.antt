use Rattle.std.proofs.Common.{◌≡◌, length, map, take}
use Rattle.circle_codewords.specs.Openings.{siblings_at}
use Rattle.circle_prover.proofs.openings.siblings_of.Given as goal

-- the entries so far
abbrev pub invariant-loop-log_height : goal.invariant-loop-log_height
invariant-loop-log_height g l =
    l.siblings.items
    ≡ take (length l.yielded)
    (siblings_at g.EF.Operations.ops.zero l.log_max_height l.heights l.index
    (map (λ row. row.items) l.rows))
