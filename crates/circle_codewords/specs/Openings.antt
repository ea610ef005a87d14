-- What is opened of committed matrices at the queries.
use Rattle.std.specs.Prelude.{◌≡◌, ℕ, ◌+◌, ◌-◌, ◌/◌, ◌%◌, ◌^◌, List, [], ◌∷◌, map, Some, slice_get}
use Rattle.std.specs.Prelude.{slice_index_or, Vec}
use Rattle.std.specs.declared.alloc.Global.{Global}
use Rattle.circle_commit.specs.Mmcs.{IsShownOf, rows_at, rows_at_each}
use Rattle.circle_commit.specs.declared.matrix.Dimensions.{Dimensions}
use Rattle.circle_commit.specs.declared.matrix.RowMajorMatrix.{RowMajorMatrix}
use Rattle.circle_commit.specs.DotProduct.{pairwise}
use Rattle.circle_relation.specs.declared.proof.CircleCommitPhaseMultiStep.{CircleCommitPhaseMultiStep}

-- the queries without their lowest `bits` bits
abbrev pub places_of : ℕ → List ℕ → List ℕ
places_of bits queries = map (λ q. q / 2 ^ bits) queries

-- the entry beside that at a place, in the row of two that the place falls into
abbrev pub sibling_in : {E : Type 0} → E → ℕ → List E → E
sibling_in zero place pair = slice_index_or pair (1 - place % 2) zero

-- for each of the heights, at a query below 2^top, the entry beside the query's place among 2^h, in
-- a row of two
abbrev pub siblings_at : {E : Type 0} → E → ℕ → List ℕ → ℕ → List (List E) → List E
siblings_at zero top heights q rows =
    pairwise (λ h row. sibling_in zero (q / 2 ^ (top - h)) row) heights rows

module _ {T C P : Type 0} (Commits : List (RowMajorMatrix T) → C → Type 0)
    (Authenticates : C → List Dimensions → List ℕ → List (List (List T)) → P → Type 0)
    (matrices : List (RowMajorMatrix T)) where
  -- the rows of matrices at places, and a proof that they are theirs
  pub record OpensRows (places : List ℕ) (entries : List (List (List T))) (proof : P)
      : Type 0 where
    pub rows : entries ≡ rows_at_each matrices places
    pub shown : IsShownOf Commits Authenticates matrices places entries proof

  -- of the rows at the queries without their lowest `bits` bits, the entries beside the queries'
  -- places, and a proof of those rows
  pub record OpensSiblings (zero : T) (top : ℕ) (heights : List ℕ) (bits : ℕ) (queries : List ℕ)
      (siblings : List (List T)) (proof : P) : Type 0 where
    pub entries :
        siblings
        ≡ map (λ q. siblings_at zero top heights q (rows_at matrices (q / 2 ^ bits))) queries
    pub shown :
        let places = places_of bits queries in
        IsShownOf Commits Authenticates matrices places (rows_at_each matrices places) proof

-- under a scheme whose relations take its value
module _ {E W C P : Type 0} (Commits : W → List (RowMajorMatrix E) → C → Type 0)
    (authenticates : W → C → List Dimensions → List ℕ → List (List (List E)) → P → Type 0)
    (mmcs : W) (zero : E) where
  -- these siblings are opened of matrices
  abbrev pub AreOpenedSiblings : List (RowMajorMatrix E) → ℕ → List ℕ → ℕ → List ℕ
      → List (Vec E Global) → P → Type 0
  AreOpenedSiblings matrices top heights bits queries siblings proof =
      OpensSiblings (Commits mmcs) (authenticates mmcs) matrices zero top heights bits queries
      (map (λ s. s.items) siblings) proof

  -- and those of each round, whose codeword is committed to alone
  abbrev pub AreOpenedRounds : {D WD WE : Type 0} → (D → List (RowMajorMatrix E)) → ℕ → List ℕ
      → List D → List (CircleCommitPhaseMultiStep E W C WD P WE) → Type 0
  AreOpenedRounds {D = D} {WD = WD} {WE = WE} kept_of top queries kept steps =
      (n : ℕ) (d : D) (step : CircleCommitPhaseMultiStep E W C WD P WE) →
      slice_get kept n ≡ Some d → slice_get steps n ≡ Some step →
      OpensSiblings (Commits mmcs) (authenticates mmcs) (kept_of d) zero top ((top - 1 - n) ∷ [])
      (n + 2) queries (map (λ s. s.items) step.sibling_values.items) step.opening_proof
