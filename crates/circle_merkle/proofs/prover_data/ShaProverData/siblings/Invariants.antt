use Rattle.std.proofs.Common.{◌≡◌, vec_len}
use Rattle.sha2.specs.Sha256.{sha256}
use Rattle.circle_merkle.specs.Tree.{known, digest, proof_of}
use Rattle.circle_merkle.specs.Rows.{matrix_rows}
use Rattle.circle_merkle.proofs.prover_data.ShaProverData.siblings.Given as goal

abbrev pub invariant-loop-level : goal.invariant-loop-level
invariant-loop-level g l = record {
  known : l.known.items ≡ known l.indices (vec_len l.self.upper) l.level;
  proof : l.proof.items
      ≡ proof_of (digest sha256 (matrix_rows g.T.ElementBytes.bytes l.self.matrices.items))
      l.indices (vec_len l.self.upper) l.level;
}
