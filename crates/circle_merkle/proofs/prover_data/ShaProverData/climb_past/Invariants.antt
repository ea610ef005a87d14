use Rattle.std.proofs.Common.{◌≡◌, ◌-◌, ◌<◌, ◌++◌, ◌^◌, All, length, map, vec_len}
use Rattle.sha2.specs.Sha256.{sha256}
use Rattle.circle_merkle.specs.Tree.{digest}
use Rattle.circle_merkle.specs.Rows.{matrix_rows}
use Rattle.circle_merkle.specs.Walk.{parents_of, siblings_of}
use Rattle.circle_merkle.proofs.prover_data.ShaProverData.climb_past.Given as goal

abbrev pub invariant-loop-position : goal.invariant-loop-position
invariant-loop-position g l =
    let at = digest sha256 (matrix_rows g.T.ElementBytes.bytes l.self.matrices.items) l.level in
    record {
      parents : l.parents.items ++ parents_of l.rest ≡ parents_of l.known;
      proof : l.proof.items ++ map at (siblings_of l.rest) ≡ l.initial.proof.items
          ++ map at (siblings_of l.known);
      within : All (λ i. i < 2 ^ (vec_len l.self.upper - l.level)) (siblings_of l.rest);
    }

abbrev pub decreases-loop-position : goal.decreases-loop-position
decreases-loop-position g l = length l.rest
