use Rattle.std.proofs.Common.{◌≡◌, ◌++◌, List, drop, flat_map, length, map, take}
use Rattle.std.specs.Prelude.{zip}
use Rattle.circle_codewords.specs.Points.{coordinates_of}
use Rattle.circle_codewords.specs.Requests.{lists_of}
use Rattle.circle_prover.specs.OfRequests.{AreHigh, asked_of}
use Rattle.circle_prover.proofs.openable.OpenableRequests.push_matrices.Given as goal

-- the matrices so far are there, and the points of the others are left
abbrev pub invariant-loop-matrix : goal.invariant-loop-matrix
invariant-loop-matrix g l =
    let i = length l.yielded in
    record {
      list : map asked_of l.list.items
          ≡ map asked_of l.initial.list.items ++ take i (zip l.matrices (lists_of l.coordinates));
      high : AreHigh l.self l.initial.list.items → AreHigh l.self l.list.items;
      rest : (tail : List _) →
          coordinates_of l.points ≡ flat_map (λ v. v.items) l.coordinates ++ tail →
          coordinates_of l.rest ≡ flat_map (λ v. v.items) (drop i l.coordinates) ++ tail;
    }
