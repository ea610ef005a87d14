-- Parameters as C passes them.
use Rattle.std.specs.Prelude.{◌≡◌, ⊤}
use Rattle.circle_commit.specs.declared.params.FriParameters.{FriParameters}
use Rattle.circle_commands.specs.declared.verify.Input.{Input as Claims}
use Rattle.circle_c.specs.declared.params.CircleParams.{CircleParams}

-- the numbers of the parameters
abbrev pub numbers_of : FriParameters ⊤ → CircleParams
numbers_of p = record {
  batch_pow_bits = p.batch_proof_of_work_bits;
  commit_pow_bits = p.commit_proof_of_work_bits;
  log_blowup = p.log_blowup;
  log_final_poly_len = p.log_final_poly_len;
  max_log_arity = p.max_log_arity;
  num_queries = p.num_queries;
  query_pow_bits = p.query_proof_of_work_bits;
}

-- the parameters have these numbers
abbrev pub HasParams : CircleParams → FriParameters ⊤ → Type 0
HasParams params p = params ≡ numbers_of p

-- an input, of which these are the parameters, has parameters with the numbers
abbrev pub HasNumbersBy : {Given : Type 0} → (Given → FriParameters ⊤) → CircleParams → Given →
    Type 0
HasNumbersBy params_of params input = HasParams params (params_of input)

-- claims have
abbrev pub HasNumbers : CircleParams → Claims → Type 0
HasNumbers params claims = HasParams params claims.params
