-- What an opening is requested of, and what it returns.
use Rattle.std.specs.Prelude.{◌≡◌, ℕ, ◌+◌, ◌-◌, ◌^◌, ◌<◌, ◌≤◌, List, length, map, zip, flat_map}
use Rattle.std.specs.Prelude.{All, nat_le, Vec, [], ◌∷◌}
use Rattle.std.specs.Coded.{×_prop, Unit-prop}
use Rattle.std.specs.List.{AllZip, filter, range_with_len}
use Rattle.std.specs.declared.alloc.Global.{Global}
use Rattle.std.proofs.Common.{suc}
use Rattle.std.proofs.Props.{props}
use Rattle.circle_commit.specs.Mmcs.{HaveHeightsOfPowers, max_height}
use Rattle.circle_commit.specs.Pcs.{Openings}
use Rattle.circle_commit.specs.RowMajorMatrix.{rows, width_of, height_of}
use Rattle.circle_commit.specs.declared.matrix.RowMajorMatrix.{RowMajorMatrix}
use Rattle.circle_commit.specs.declared.params.FriParameters.{FriParameters}
use Rattle.circle_commit.specs.declared.pcs.BatchMultiOpening.{BatchMultiOpening}
use Rattle.circle_commit.specs.declared.pcs.OpeningRequest.{OpeningRequest}
use Rattle.circle_commit.specs.DotProduct.{pairwise}
use Rattle.circle_relation.specs.Accepts.{Authenticates, Fields}
use Rattle.circle_relation.specs.RunOf.{opened_batch}
use Rattle.circle_relation.specs.Statement.{BatchClaim, MatrixClaim, Opened}
use Rattle.circle_codewords.specs.Lifts.{read_rows}
use Rattle.circle_codewords.specs.Values.{AreOff, AreOpened}
use Rattle.circle_codewords.specs.Words.{Committed, claim_of, committed_of}
use Rattle.circle_codewords.specs.Openings.{OpensRows, places_of}
use Rattle.circle_codewords.specs.declared.matrix.OpenedMatrix.{OpenedMatrix}

-- the binary logarithm of a power of two below 2^64
abbrev pub log_of : ℕ → ℕ
log_of n = length (filter (λ h. nat_le (2 ^ suc h) n) (range_with_len 0 63))

module _ {F E : Type 0} where
  -- a matrix can be opened at points: its height leaves something without the blowup, the group has
  -- a domain for it, and that is clear of the points
  pub record IsOpenable (k : Fields F E) (two_adicity log_blowup : ℕ) (m : RowMajorMatrix F)
      (points : List E) : Type 0 where
    pub power : height_of m ≡ 2 ^ log_of (height_of m)
    pub blowup : log_blowup < log_of (height_of m)
    pub in_group : log_of (height_of m) < two_adicity
    pub off : AreOff k (log_of (height_of m)) points

  -- at each of the points the values of the polynomials that the matrix's first rows fix
  pub record AreValuesOf (k : Fields F E) (blowup : ℕ) (m : RowMajorMatrix F) (points : List E)
      (values : List (List E)) : Type 0 where
    pub count : length values ≡ length points
    pub widths : All (λ v. length v ≡ width_of m) values
    pub opened : AreOpened k blowup (log_of (height_of m)) m points values

  -- a matrix by the rows that codewords read of it, with its points and the values there
  abbrev pub committed : Fields F E → ℕ → RowMajorMatrix F → List E → List (List E)
      → Committed F E
  committed k blowup m points values = record {
    log_height = log_of (height_of m);
    rows = read_rows k blowup (log_of (height_of m)) (width_of m) (rows m);
    claims = pairwise claim_of points values;
  }

  -- the matrices of a batch
  abbrev pub batch_committed : Fields F E → ℕ → List (RowMajorMatrix F) → List (List E)
      → List (List (List E)) → List (Committed F E)
  batch_committed k blowup matrices points values =
      pairwise (λ m rest. committed k blowup m rest.0 rest.1) matrices (zip points values)

  -- for each of several points of each matrix of a batch the values that they request
  abbrev pub AreBatchValues : Fields F E → ℕ → List (RowMajorMatrix F) → List (List E)
      → List (List (List E)) → Type 0
  AreBatchValues k blowup matrices points values =
      AllZip (λ m rest. AreValuesOf k blowup m rest.0 rest.1) matrices (zip points values)

  -- a committed matrix with its claims, as a verifier is handed them
  abbrev pub claimed : ℕ → Committed F E → MatrixClaim E
  claimed blowup m = record { log_n = m.log_height - blowup; claims = m.claims }

  -- a batch of these, without its commitment
  abbrev pub claimed_batch : ℕ → List (Committed F E) → BatchClaim (Unit {0}) E
  claimed_batch blowup matrices =
      record { commitment = tt {0}; matrices = map (claimed blowup) matrices }

-- vectors as lists
abbrev pub lists_of : {E : Type 0} → List (Vec E Global) → List (List E)
lists_of vectors = map (λ v. v.items) vectors

-- kept of what a committer keeps are the matrices
module _ {D F E : Type 0} (kept : D → List (RowMajorMatrix F)) where
  -- the points of a request's matrices
  abbrev pub points_of : OpeningRequest D E → List (List E)
  points_of request = lists_of request.points.items

  module _ (k : Fields F E) (blowup : ℕ) where
    -- all requested matrices, batch by batch, with the values that are returned
    abbrev pub all_committed : List (OpeningRequest D E) → Openings E
        → List (List (Committed F E))
    all_committed requests values =
        pairwise (λ r v. batch_committed k blowup (kept r.prover_data.now) (points_of r) v)
        requests values

    -- these are they, one after another
    abbrev pub AreAllRequested : {over g : _} → List (OpeningRequest D E) → Openings E
        → List (OpenedMatrix F E over g) → Type 0
    AreAllRequested requests values list =
        map (committed_of k blowup) list ≡ flat_map (λ b. b) (all_committed requests values)

    -- the matrices of a request can be opened at its points, of which there is a list for each
    abbrev pub IsFit : ℕ → OpeningRequest D E → Type 0
    IsFit two_adicity r =
        AllZip (IsOpenable k two_adicity blowup) (kept r.prover_data.now) (points_of r)

    -- these are the values that a request is for
    abbrev pub AreAnswers : OpeningRequest D E → List (List (List E)) → Type 0
    AreAnswers r values =
        AreBatchValues k blowup (kept r.prover_data.now) (points_of r) values
        × (length values ≡ length (points_of r))

-- these are the values that requests are for
abbrev pub AreAnswered : {D F E M : Type 0} → Fields F E → (D → List (RowMajorMatrix F))
    → FriParameters M → List (OpeningRequest D E) → Openings E → Type 0
AreAnswered k kept p requests values = AllZip (AreAnswers kept k p.log_blowup) requests values

-- parameters that an opening is made under
pub record AreFit {M : Type 0} (p : FriParameters M) : Type 0 where
  pub batch_work : p.batch_proof_of_work_bits ≤ 30
  pub commit_work : p.commit_proof_of_work_bits ≤ 30
  pub query_work : p.query_proof_of_work_bits ≤ 30
  pub queries : 1 ≤ p.num_queries
  pub blowup : 1 ≤ p.log_blowup

-- requests of some matrix each, which can be opened at the points and leave something to fold
pub record AreRequests {D F E M : Type 0} (kept : D → List (RowMajorMatrix F))
    (k : Fields F E) (two_adicity : ℕ) (p : FriParameters M)
    (requests : List (OpeningRequest D E)) : Type 0 where
  pub some : 1 ≤ length requests
  pub matrices : All (λ r. 1 ≤ length (kept r.prover_data.now)) requests
  pub fit : All (IsFit kept k p.log_blowup two_adicity) requests
  pub tall : All (λ r. All (λ m.
      p.log_blowup + p.log_final_poly_len + 2 ≤ log_of (height_of m)) (kept r.prover_data.now))
      requests

AllZip-prop : {A B : Type 0} (R : A → B → Type 0) → ((x : A) (y : B) → IsProp (R x y))
    → (xs : List A) (ys : List B) → IsProp (AllZip R xs ys)
AllZip-prop R p [] [] = Unit-prop
AllZip-prop R p [] (y ∷ ys) = λ a b. absurd a
AllZip-prop R p (x ∷ xs) [] = λ a b. absurd a
AllZip-prop R p (x ∷ xs) (y ∷ ys) = ×_prop (p x y) (AllZip-prop R p xs ys)

pub AreRequests-prop : {D F E M : Type 0} (kept : D → List (RowMajorMatrix F)) (k : Fields F E)
    (two_adicity : ℕ) (p : FriParameters M) (requests : List (OpeningRequest D E))
    → IsProp (AreRequests kept k two_adicity p requests)
AreRequests-prop kept k two_adicity p requests = Prim.hlevel (AllZip-prop, props)

-- the heights of a batch: powers of two, of which the greatest is at most 2^top
pub record AreHeights {F : Type 0} (top : ℕ) (matrices : List (RowMajorMatrix F)) : Type 0 where
  pub powers : HaveHeightsOfPowers matrices
  pub power : max_height matrices ≡ 2 ^ log_of (max_height matrices)
  pub fits : log_of (max_height matrices) ≤ top

-- under a scheme, the rows of a request's matrices at the queries, and a proof that they are theirs
abbrev pub HasBatchRows : {D F E C P : Type 0} → (D → List (RowMajorMatrix F))
    → (List (RowMajorMatrix F) → C → Type 0) → Authenticates C F P → ℕ → List ℕ
    → OpeningRequest D E → Opened (List (List F)) P → Type 0
HasBatchRows kept Commits authenticates top queries request o =
    let matrices = kept request.prover_data.now in
    let places = places_of (top - log_of (max_height matrices)) queries in
    OpensRows Commits authenticates matrices places o.entries o.proof

-- so it is of each request, under a scheme whose relations take its value
abbrev pub OpensBatches : {D F E I C P IE : Type 0} → (D → List (RowMajorMatrix F))
    → (I → List (RowMajorMatrix F) → C → Type 0) → (I → Authenticates C F P) → I → ℕ → List ℕ
    → List (OpeningRequest D E) → List (BatchMultiOpening F I C D P IE) → Type 0
OpensBatches kept Commits authenticates mmcs top queries requests openings =
    AllZip (HasBatchRows kept (Commits mmcs) (authenticates mmcs) top queries) requests
    (map opened_batch openings)
