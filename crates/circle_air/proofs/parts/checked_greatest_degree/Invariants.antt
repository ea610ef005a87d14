use Rattle.std.proofs.Common.{◌≡◌, ◌+◌, ◌^◌, ◌≤◌, drop, take, length}
use Rattle.circle_air.specs.Degrees.{greatest_degree}
use Rattle.circle_air.specs.Refusal.{constraints_refusal}
use Rattle.circle_air.proofs.parts.checked_greatest_degree.Given as goal

abbrev pub invariant-loop-constraint : goal.invariant-loop-constraint
invariant-loop-constraint l = record {
  refusal : constraints_refusal (length l.degrees) 0 l.constraints
      ≡ constraints_refusal (length l.degrees) l.constraint (drop l.constraint l.constraints);
  degree : l.greatest ≡ greatest_degree l.degrees (take l.constraint l.constraints);
  small : l.greatest ≤ 2 ^ 30 + 1;
}
