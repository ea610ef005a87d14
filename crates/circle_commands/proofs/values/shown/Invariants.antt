use Rattle.std.proofs.Common.{◌≡◌, map, take}
use Rattle.serde_json.specs.View.{view}
use Rattle.circle_commands.specs.Json.{row_written}
use Rattle.circle_commands.proofs.values.shown.Given as goal

abbrev pub invariant-loop-r : goal.invariant-loop-r
invariant-loop-r g l = map view l.rows.items ≡ map row_written (take l.r (g.M.Matrix.rows l.values))
