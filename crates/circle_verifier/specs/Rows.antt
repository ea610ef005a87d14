-- Where the rows of claims stand among those that are opened.
use Rattle.std.specs.Prelude.{ℕ, ◌+◌, List, [], ◌∷◌, flat_map, length, replicate}
use Rattle.circle_commit.specs.Mmcs.{opened_rows}
use Rattle.circle_relation.specs.Statement.{MatrixClaim, BatchClaim, Opened, log_height}
use Rattle.circle_verifier.specs.declared.reduced.ClaimedRows.{ClaimedRows}

-- a matrix's place in its batch, and what is opened of the batch at each query
abbrev pub Place : Type 0 → Type 0
Place F = ℕ × List (List (List F))

module _ {F E : Type 0} where
  -- a batch's matrices from place i on, each with its place
  abbrev pub placed : List (List (List F)) → ℕ → List (MatrixClaim E)
      → List (MatrixClaim E × Place F)
  placed entries i [] = []
  placed entries i (m ∷ ms) = (m, (i, entries)) ∷ placed entries (i + 1) ms

  -- the matrices of all batches, each with its place
  abbrev pub all_placed : {Com Proof : Type 0} →
      List (BatchClaim Com E × Opened (List (List F)) Proof) → List (MatrixClaim E × Place F)
  all_placed pairs = flat_map (λ p. placed p.1.entries 0 p.0.matrices) pairs

  -- for each claim on such matrices the height of its matrix, and this one's place
  abbrev pub rows_claimed : ℕ → List (MatrixClaim E × Place F) → List (ℕ × Place F)
  rows_claimed blowup matrices =
      flat_map (λ p. replicate (length p.0.claims) (log_height blowup p.0, p.1)) matrices

-- what contracts see of the rows of a claim
abbrev pub rows_at : {F : Type 0} → ClaimedRows F → ℕ × Place F
rows_at r = (r.log_height, (r.matrix, opened_rows r.opened.now))
