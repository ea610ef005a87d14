use Rattle.std.proofs.Common.{◌≡◌, ◌==◌}
use Rattle.std.specs.List.{filter, list_any, range_with_len}
use Rattle.circle_prover.proofs.heights.committed_heights.Given as goal

-- the heights so far
abbrev pub invariant-loop-log_height : goal.invariant-loop-log_height
invariant-loop-log_height g l =
    l.heights.items ≡ filter (λ h. list_any (λ m. m.log_height == h) l.matrices)
    (range_with_len 0 l.log_height)
