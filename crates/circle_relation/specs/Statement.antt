-- What a verifier is handed, as contracts see it: claims about committed matrices, and a proof.
use Rattle.std.specs.Prelude.{ℕ, ◌+◌, List, map, flat_map}
use Rattle.circle_commit.specs.Mmcs.{greatest}

-- values that are claimed at a point, given by its coordinate on the projective line
pub record PointClaim (E : Type 0) : Type 0 where
  pub point : E
  pub values : List E

-- what is claimed of a matrix that had 2^log_n rows before it was extended
pub record MatrixClaim (E : Type 0) : Type 0 where
  pub log_n : ℕ
  pub claims : List (PointClaim E)

-- what is claimed of the matrices that one commitment is of
pub record BatchClaim (Com E : Type 0) : Type 0 where
  pub commitment : Com
  pub matrices : List (MatrixClaim E)

-- what a proof opens of one commitment: for each query the entries, and what shows that they are
-- those that were committed to
pub record Opened (Entries Proof : Type 0) : Type 0 where
  pub entries : List Entries
  pub proof : Proof

-- a proof: for each query and matrix of a batch a row, for each query and height a sibling in the
-- first layer, for each round and query the siblings in its codeword
pub record OpeningProof (F E Com InputProof WordProof : Type 0) : Type 0 where
  pub batch_witness : F
  pub first_layer : Com
  pub lambdas : List E
  pub commitments : List Com
  pub witnesses : List F
  pub final_poly : List E
  pub query_witness : F
  pub inputs : List (Opened (List (List F)) InputProof)
  pub first_layer_opened : Opened (List E) WordProof
  pub rounds_opened : List (Opened (List E) WordProof)

-- what is drawn: the challenge that batches the claims, that which folds the first layer, one for
-- each round, and the queries
pub record Challenges (E : Type 0) : Type 0 where
  pub alpha : E
  pub bivariate : E
  pub betas : List E
  pub queries : List ℕ

-- the matrices of all batches, in order
abbrev pub all_matrices : {Com E : Type 0} → List (BatchClaim Com E) → List (MatrixClaim E)
all_matrices batches = flat_map (λ b. b.matrices) batches

-- the logarithms of the numbers of rows that matrices had
abbrev pub log_sizes : {E : Type 0} → List (MatrixClaim E) → List ℕ
log_sizes matrices = map (λ m. m.log_n) matrices

-- the logarithm of the height that a matrix is committed with
abbrev pub log_height : {E : Type 0} → ℕ → MatrixClaim E → ℕ
log_height blowup m = m.log_n + blowup

-- the logarithm of the greatest height of some matrices
abbrev pub log_max_height : {E : Type 0} → ℕ → List (MatrixClaim E) → ℕ
log_max_height blowup matrices = greatest (map (log_height blowup) matrices)
