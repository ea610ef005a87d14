-- The parameters of FRI over a commitment scheme.
use Rattle.circle_commit.specs.declared.params.FriParameters.{FriParameters}

-- the same numbers, with another commitment scheme of the folded codewords
abbrev pub with_scheme : {A B : Type 0} → FriParameters A → B → FriParameters B
with_scheme p scheme = record {
  log_blowup = p.log_blowup;
  log_final_poly_len = p.log_final_poly_len;
  max_log_arity = p.max_log_arity;
  num_queries = p.num_queries;
  batch_proof_of_work_bits = p.batch_proof_of_work_bits;
  commit_proof_of_work_bits = p.commit_proof_of_work_bits;
  query_proof_of_work_bits = p.query_proof_of_work_bits;
  mmcs = scheme;
}
