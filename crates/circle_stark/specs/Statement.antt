-- What is proved and what a proof is made of, as contracts see them.
use Rattle.std.specs.Prelude.{ℕ, List, map}
use Rattle.circle_air.specs.Air.{air_of}
use Rattle.circle_air.specs.Parts.{Parts}
use Rattle.circle_air.specs.Text.{air_text}
use Rattle.circle_relation.specs.RunOf.{proof_of}
use Rattle.circle_relation.specs.Statement.{OpeningProof}
use Rattle.circle_stark.specs.Draw.{Described}
use Rattle.circle_stark.specs.declared.proof.StarkOpenedValues.{StarkOpenedValues}
use Rattle.circle_stark.specs.declared.proof.StarkProof.{StarkProof}
use Rattle.circle_stark.specs.declared.proof.StarkStatement.{StarkStatement}
use Rattle.sha2.specs.Sha256.{sha256}

-- rows of 2^log_n of a trace satisfy an AIR with these public values
pub record Statement (F : Type 0) : Type 0 where
  pub parts : Parts F
  pub log_n : ℕ
  pub public_values : List F

-- the values at the drawn point: of the trace's columns there and at the next point, and of each
-- chunk's columns
pub record OpenedValues (E : Type 0) : Type 0 where
  pub local : List E
  pub next : List E
  pub chunks : List (List E)

-- the commitments to the trace and to the quotient's chunks, what is opened of them, and the
-- scheme's proof
pub record Proved (F E InputCom Com InputProof WordProof : Type 0) : Type 0 where
  pub trace : InputCom
  pub quotient : InputCom
  pub opened : OpenedValues E
  pub opening : OpeningProof F E Com InputProof WordProof

-- a statement as contracts see it
abbrev pub statement_of : {F : Type 0} → StarkStatement F → Statement F
statement_of s = record {
  parts = air_of s.air.now;
  log_n = s.log_n;
  public_values = s.public_values.now;
}

-- what describes the run of a statement over a field whose elements have these bytes
abbrev pub described_by : {F : Type 0} → (F → List ℕ) → ℕ → Statement F → Described F
described_by bytes size s = record {
  digest = sha256 (air_text bytes size s.parts);
  log_n = s.log_n;
  public_values = s.public_values;
}

-- opened values as contracts see them
abbrev pub values_of : {E : Type 0} → StarkOpenedValues E → OpenedValues E
values_of v = record {
  local = v.trace_local.items;
  next = v.trace_next.items;
  chunks = map (λ chunk. chunk.items) v.quotient_chunks.items;
}

-- I and W are the schemes of the batches and of the codewords, each with its commitments, data,
-- proofs and errors
abbrev pub proved_of : {F E I W IC ID IP IE WC WD WP WE : Type 0}
    → StarkProof F E I W IC ID IP IE WC WD WP WE → Proved F E IC WC IP WP
proved_of p = record {
  trace = p.trace_commitment;
  quotient = p.quotient_commitment;
  opened = values_of p.opened_values;
  opening = proof_of p.opening_proof;
}
