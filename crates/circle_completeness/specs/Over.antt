-- A verifier's run over committed matrices: what is claimed is claimed of them, and what is opened
-- are their rows and the entries of their codewords.
use Rattle.std.specs.Prelude.{◌≡◌, ℕ, ◌+◌, ◌-◌, ◌/◌, ◌^◌, ◌<◌, ◌≤◌, ◌==◌, List, length, map, All}
use Rattle.std.specs.Prelude.{Some, slice_get, slice_index_or, true}
use Rattle.std.specs.List.{list_any}
use Rattle.circle_commit.specs.declared.params.FriParameters.{FriParameters}
use Rattle.circle_codewords.specs.Requests.{claimed}
use Rattle.circle_prover.specs.Words.{first_fold, top_of}
use Rattle.circle_relation.specs.Accepts.{Fields, Run, claims_of, folded}
use Rattle.circle_relation.specs.Statement.{all_matrices}
use Rattle.circle_codewords.specs.Words.{Committed, claims_at}

module _ {F E M IC IP WC WP : Type 0} (k : Fields F E) (p : FriParameters M)
    (ms : List (Committed F E)) (r : Run F E WC IC IP WP) where
  -- the claims are on these matrices, which leave something to fold, and the queries below the
  -- greatest height
  pub record IsRunOver (two_adicity : ℕ) : Type 0 where
    pub some : 1 ≤ length ms
    pub tall : All (λ m. p.log_blowup + p.log_final_poly_len + 2 ≤ m.log_height) ms
    pub in_group : top_of ms < two_adicity
    pub blowup : 1 ≤ p.log_blowup
    pub claims : all_matrices r.batches ≡ map (claimed p.log_blowup) ms
    pub below : All (λ q. q < 2 ^ top_of ms) r.drawn.queries

  -- the claims on matrices of a height are opened at each query with the matrices' rows there
  abbrev pub ReadsRows : Type 0
  ReadsRows = (j q h : ℕ) → slice_get r.drawn.queries j ≡ Some q → h ≤ top_of ms
      → claims_of k p r h j ≡ claims_at h ms (q / 2 ^ (top_of ms - h))

  -- what the pairs of the first layer fold to at each query are the entries of the codewords' folds
  abbrev pub FoldsFirst : Type 0
  FoldsFirst = (j q h : ℕ) → slice_get r.drawn.queries j ≡ Some q
      → list_any (λ m. m.log_height == h) ms ≡ true
      → folded k p r j q h
      ≡ slice_index_or (first_fold k p.log_blowup ms r.drawn.alpha r.drawn.bivariate h)
      (q / 2 ^ (top_of ms - h) / 2) k.extension.zero
