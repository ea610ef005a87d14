use Rattle.std.proofs.Common.{◌≡◌, ◌++◌, take}
use Rattle.circle_codewords.specs.Points.{coordinates_of}
use Rattle.circle_prover.proofs.points.push_points.Given as goal

-- the points so far are there
abbrev pub invariant-loop-coordinate : goal.invariant-loop-coordinate
invariant-loop-coordinate g l =
    coordinates_of l.list.items
    ≡ coordinates_of l.initial.list.items ++ take l.coordinate-index l.coordinates
