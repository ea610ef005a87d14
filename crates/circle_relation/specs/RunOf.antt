-- What the records of a proof and of queries are to the relation.
use Rattle.std.specs.Prelude.{ℕ, List, map}
use Rattle.circle_field.specs.Circle.{Coordinates}
use Rattle.circle_commit.specs.Mmcs.{opened_rows}
use Rattle.circle_commit.specs.declared.pcs.BatchMultiOpening.{BatchMultiOpening}
use Rattle.circle_commit.specs.declared.pcs.CommitmentOpening.{CommitmentOpening}
use Rattle.circle_domain.specs.declared.domain.CircleDomain.{CircleDomain}
use Rattle.circle_point.specs.Point.{coordinates}
use Rattle.circle_relation.specs.declared.proof.CircleCommitPhaseMultiStep.{CircleCommitPhaseMultiStep}
use Rattle.circle_relation.specs.declared.proof.CirclePcsProof.{CirclePcsProof}
use Rattle.circle_relation.specs.Statement.{Challenges, Opened, OpeningProof}
use Rattle.circle_relation.specs.StatementOf.{batch_claims}
use Rattle.circle_relation.specs.declared.run.QueriedWord.{QueriedWord}
use Rattle.circle_relation.specs.declared.run.QueryValues.{QueryValues}
use Rattle.circle_relation.specs.Accepts.{Run}

-- what is opened of a batch, and of a round; I and W are the schemes of the batches and of the
-- codewords, each with its commitments, data, proofs and errors
abbrev pub opened_batch : {F I IC ID IP IE : Type 0} → BatchMultiOpening F I IC ID IP IE
    → Opened (List (List F)) IP
opened_batch b = record { entries = opened_rows b.opened_values.items; proof = b.opening_proof }

abbrev pub opened_round : {E W WC WD WP WE : Type 0} → CircleCommitPhaseMultiStep E W WC WD WP WE
    → Opened (List E) WP
opened_round o = record {
  entries = map (λ siblings. siblings.items) o.sibling_values.items;
  proof = o.opening_proof;
}

-- the proof of a statement, as the relation has it
module _ {F E I W IC ID IP IE WC WD WP WE : Type 0} where
  abbrev pub proof_of :
      CirclePcsProof F E I W F IC ID IP IE WC WD WP WE → OpeningProof F E WC IP WP
  proof_of p =
      let fri = p.fri_proof in
      let inputs = fri.input_openings in
      record {
        batch_witness = p.batch_pow_witness;
        first_layer = p.first_layer_commitment;
        lambdas = p.lambdas.items;
        commitments = fri.commit_phase_commits.items;
        witnesses = fri.commit_pow_witnesses.items;
        final_poly = fri.final_poly.items;
        query_witness = fri.pow_witness;
        inputs = map opened_batch inputs.input_openings.items;
        first_layer_opened = record {
          entries = map (λ siblings. siblings.items) inputs.first_layer_siblings.items;
          proof = inputs.first_layer_proof;
        };
        rounds_opened = map opened_round fri.commit_phase_openings.items;
      }

-- the claims and the proof, with challenges
abbrev pub run_with : {F E I W IC ID IP IE WC WD WP WE : Type 0} {g : _}
    → List (CommitmentOpening E IC (CircleDomain F g))
    → CirclePcsProof F E I W F IC ID IP IE WC WD WP WE → Challenges E → Run F E WC IC IP WP
run_with claims proof drawn = record {
  batches = batch_claims claims;
  proof = proof_of proof;
  drawn = drawn;
}

-- what contracts see of the queries of a codeword, and of those that join the rounds
abbrev pub queried : {F E : Type 0} {g : _} → QueriedWord F E g →
    ℕ × (List (Coordinates F) × List E)
queried w = (w.log_height, (map coordinates w.points.items, w.values.items))

abbrev pub joining_of : {E : Type 0} → QueryValues E → ℕ × List E
joining_of w = (w.log_height, w.values.items)
