-- Columns as vectors, and as the lists that these have.
use Rattle.std.proofs.Common.{◌≡◌, ℕ, ◌≤◌, List, [], ◌∷◌, length, map, All, Vec, Global, arith}
use Rattle.std.proofs.Common.{zero, suc, vec_len}
use Rattle.circle_field.specs.declared.mersenne31.Mersenne31.{Mersenne31}

pub short_lists : (count : ℕ) (columns : List (Vec Mersenne31 Global)) →
    All (λ column. vec_len column ≤ count) columns →
    All (λ column. length column ≤ count) (map (λ column. column.items) columns)
short_lists count [] short k d lt = absurd (omega arith)
short_lists count (c ∷ cs) short zero d lt =
    let here : vec_len c ≤ count = short 0 c (omega arith) in
    let same : vec_len c ≡ length c.items = c.ok.0 in
    omega arith
short_lists count (c ∷ cs) short (suc k) d lt =
    short_lists count cs (λ i e below. short (suc i) e (omega arith)) k d (omega arith)

pub short_columns : (count : ℕ) (columns : List (Vec Mersenne31 Global)) →
    All (λ column. length column ≤ count) (map (λ column. column.items) columns) →
    All (λ column. vec_len column ≤ count) columns
short_columns count [] short k d lt = absurd (omega arith)
short_columns count (c ∷ cs) short zero d lt =
    let here : length c.items ≤ count = short 0 c.items (omega arith) in
    let same : vec_len c ≡ length c.items = c.ok.0 in
    omega arith
short_columns count (c ∷ cs) short (suc k) d lt =
    short_columns count cs (λ i e below. short (suc i) e (omega arith)) k d (omega arith)
