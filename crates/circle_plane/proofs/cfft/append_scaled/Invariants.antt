use Rattle.std.proofs.Common.{◌≡◌, ◌++◌, ◌≤◌, map, take}
use Rattle.std.specs.Prelude.{vec_len}
use Rattle.circle_plane.proofs.cfft.append_scaled.Given as goal

abbrev pub invariant-loop-i : goal.invariant-loop-i
invariant-loop-i g l = record {
  appended : l.entries.items ≡ l.fn.entries.items ++ map (λ b. g.F.Operations.ops.mul b l.factor)
      (take l.i l.fn.entries.items);
  long : vec_len l.fn.entries ≤ vec_len l.entries;
}
