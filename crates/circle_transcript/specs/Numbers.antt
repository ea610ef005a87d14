-- What the calls of a transcript read of a shape.
use Rattle.std.specs.Prelude.{ℕ, List, ◌++◌}
use Rattle.circle_challenger.specs.Step.{Step}
use Rattle.circle_commit.specs.declared.params.PowPhase.{PowPhase}
use Rattle.circle_commit.specs.declared.params.PowPhase.TheVariants.{Batch, CommitPhase, Query}
use Rattle.circle_transcript.specs.declared.transcript.Numbers.{Numbers}
use Rattle.circle_transcript.specs.Shape.{Shape, batch_steps, first_layer_steps, rounds_steps}
use Rattle.circle_transcript.specs.Shape.{query_steps}

-- the numbers of a shape that the calls read
abbrev pub numbers_of : Shape → Numbers
numbers_of s = record {
  batch_pow_bits = s.batch_pow_bits;
  commit_pow_bits = s.commit_pow_bits;
  query_pow_bits = s.query_pow_bits;
  num_queries = s.num_queries;
  index_bits = s.index_bits;
  log_final_poly_len = s.log_final_poly_len;
}

-- the difficulty of a phase's proof of work, in bits
abbrev pub difficulty_of : Numbers → PowPhase → ℕ
difficulty_of n Batch = n.batch_pow_bits
difficulty_of n CommitPhase = n.commit_pow_bits
difficulty_of n Query = n.query_pow_bits

-- the steps of the final polynomial and of the query indices
abbrev pub indices_steps : ℕ → Numbers → List Step
indices_steps degree n =
    query_steps degree n.log_final_poly_len n.query_pow_bits n.index_bits n.num_queries

-- the steps of a run with claims of these numbers of columns, and of `rounds` rounds
abbrev pub run_steps : ℕ → List ℕ → ℕ → Numbers → List Step
run_steps degree widths rounds n =
    batch_steps degree widths n.batch_pow_bits
    ++ (first_layer_steps degree
    ++ (rounds_steps degree n.commit_pow_bits rounds ++ indices_steps degree n))
