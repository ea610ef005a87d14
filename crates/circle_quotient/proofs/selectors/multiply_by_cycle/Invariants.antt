use Rattle.std.proofs.Common.{◌≡◌, ℕ, ◌+◌, ◌%◌, ◌<◌, ◌≤◌, length, get_or}
use Rattle.circle_air.specs.Values.{entry}
use Rattle.circle_quotient.proofs.selectors.multiply_by_cycle.Given as goal

abbrev pub invariant-loop-value : goal.invariant-loop-value
invariant-loop-value g l =
    let k = g.F.Operations.ops in record {
      at : l.at ≡ (0 + l.value-index) % length l.cycle;
      below : l.at < length l.cycle;
      written : (r : ℕ) (d : g.row.F.Denot) → r < l.value-index → get_or l.values r d
          ≡ k.mul (entry k l.fn.values r) (entry k l.cycle ((0 + r) % length l.cycle));
      others : (r : ℕ) (d : g.row.F.Denot) → l.value-index ≤ r →
          get_or l.values r d ≡ get_or l.fn.values r d;
    }
