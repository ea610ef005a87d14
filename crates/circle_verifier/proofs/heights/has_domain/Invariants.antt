use Rattle.std.proofs.Common.{◌≡◌, ◌==◌, false, take}
use Rattle.std.specs.List.{list_any}
use Rattle.circle_domain.specs.Domain.{log_size}
use Rattle.circle_verifier.proofs.heights.has_domain.Given as goal

-- no batch so far has it
abbrev pub invariant-loop-batch : goal.invariant-loop-batch
invariant-loop-batch g l =
    list_any (λ b. list_any (λ m. log_size m.domain == l.log_n) b.matrices.items)
    (take l.batch-index l.claims) ≡ false
