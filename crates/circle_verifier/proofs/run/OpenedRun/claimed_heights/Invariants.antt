use Rattle.std.proofs.Common.{◌≡◌, ◌==◌}
use Rattle.std.specs.List.{filter, list_any, range_with_len}
use Rattle.circle_relation.specs.Statement.{all_matrices, log_height}
use Rattle.circle_relation.specs.StatementOf.{batch_claims}
use Rattle.circle_verifier.proofs.run.OpenedRun.claimed_heights.Given as goal

-- the heights so far
abbrev pub invariant-loop-log_height : goal.invariant-loop-log_height
invariant-loop-log_height g l =
    let matrices = all_matrices (batch_claims l.self.claims.now) in
    l.heights.items
    ≡ filter (λ h. list_any (λ m. log_height l.self.params.now.log_blowup m == h) matrices)
    (range_with_len 0 l.log_height)
