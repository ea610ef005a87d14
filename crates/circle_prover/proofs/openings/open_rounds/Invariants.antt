use Rattle.std.proofs.Common.{◌≡◌, ◌-◌, ◌+◌, ◌∷◌, [], ℕ, Some, length, map, slice_get}
use Rattle.circle_codewords.specs.Openings.{OpensSiblings}
use Rattle.circle_prover.proofs.openings.open_rounds.Given as goal

-- the codewords so far are opened
abbrev pub invariant-loop-round : goal.invariant-loop-round
invariant-loop-round g l =
    record {
      count : length l.openings.items ≡ l.round;
      opened : (n : ℕ) (d : _) (step : _) → slice_get l.kept n ≡ Some d →
          slice_get l.openings.items n ≡ Some step →
          OpensSiblings (g.M.Mmcs.commits l.mmcs) (g.M.Mmcs.authenticates l.mmcs)
          (g.M.Mmcs.matrices d) g.EF.Operations.ops.zero l.log_max_height
          ((l.log_max_height - 1 - n) ∷ []) (n + 2) l.indices
          (map (λ s. s.items) step.sibling_values.items) step.opening_proof;
    }
