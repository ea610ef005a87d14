use Rattle.std.proofs.Common.{◌≡◌, ◌++◌, flat_map, take}
use Rattle.circle_codewords.specs.Points.{coordinates_of}
use Rattle.circle_prover.proofs.points.push_batch_points.Given as goal

-- the points of the matrices so far are there
abbrev pub invariant-loop-matrix : goal.invariant-loop-matrix
invariant-loop-matrix g l =
    coordinates_of l.list.items
    ≡ coordinates_of l.initial.list.items
    ++ flat_map (λ v. v.items) (take l.matrix-index l.coordinates)
