use Rattle.std.proofs.Common.{◌≡◌, length, map, take}
use Rattle.circle_codewords.specs.Requests.{lists_of}
use Rattle.circle_prover.proofs.claims.matrix_widths.Given as goal

-- the widths so far are there
abbrev pub invariant-loop-columns : goal.invariant-loop-columns
invariant-loop-columns g l =
    l.widths.items ≡ map (λ w. length w) (lists_of (take l.columns-index l.values))
