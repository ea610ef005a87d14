use Rattle.std.proofs.Common.{◌≡◌, ℕ, ◌*◌, ◌<◌, length, take}
use Rattle.circle_air.specs.Lanes.{lane}
use Rattle.circle_air.specs.Values.{values}
use Rattle.circle_air.proofs.evaluate.write_values.Given as goal

abbrev pub invariant-loop-i : goal.invariant-loop-i
invariant-loop-i g l =
    let k = g.E.Operations.ops in record {
      count : length l.values ≡ length l.nodes * l.lanes;
      written : (r : ℕ) → r < l.lanes → lane k l.lanes r (take (l.i * l.lanes) l.values)
          ≡ values k g.E.ExtensionField.embed (take l.i l.nodes) (g.W.Windows.window l.windows r);
    }
