-- What the command `check` finds of its input.
use Rattle.std.proofs.Common.{◌≡◌, ℕ, ◌≤◌, List, [], ◌∷◌, length, map, All, Vec, Global, arith}
use Rattle.std.proofs.Common.{subst, zero, suc, vec_len, Option}
use Rattle.std.specs.Prelude.{MatchOption}
use Rattle.circle_air.specs.Parts.{Parts}
use Rattle.circle_air.specs.Satisfies.{IsFirstViolation, Satisfies}
use Rattle.circle_air.specs.declared.check.Violation.{Violation}
use Rattle.circle_field.specs.Mersenne31.{operations}
use Rattle.circle_field.specs.declared.mersenne31.Mersenne31.{Mersenne31}
use Rattle.circle_commands.specs.Rows.{lists}
use Rattle.stark_commands.specs.Check.{parts_given, rows_given}
use Rattle.stark_commands.specs.declared.check.Input.{Input}

-- what is found on the rows of an AIR
abbrev pub Finds : Parts Mersenne31 → List (List Mersenne31) → List Mersenne31 → Option Violation →
    Type 0
Finds p rows public found =
    MatchOption found (Satisfies operations p rows public)
    (IsFirstViolation operations p rows public)

-- what is so of a trace that is the input's is so of the input
pub of_given : (P : Parts Mersenne31 → List (List Mersenne31) → List Mersenne31 → Type 0)
    (input : Input) (p : Parts Mersenne31) (rows : List (List Mersenne31))
    (public : List Mersenne31) → p ≡ parts_given input → rows ≡ rows_given input →
    public ≡ input.public_values.items → P p rows public →
    P (parts_given input) (rows_given input) input.public_values.items
of_given P input p rows public is same given holds =
    subst (λ (q : Parts Mersenne31). P q (rows_given input) input.public_values.items) is
    (subst (λ (r : List (List Mersenne31)). P p r input.public_values.items) same
    (subst (λ (v : List Mersenne31). P p rows v) given holds))

-- columns that have at most so many entries, and the lists in them
pub short_lists : (count : ℕ) (columns : List (Vec Mersenne31 Global)) →
    All (λ column. vec_len column ≤ count) columns →
    All (λ column. length column ≤ count) (map (λ column. column.items) columns)
short_lists count [] short k d lt = absurd (omega arith)
short_lists count (c ∷ cs) short zero d lt =
    let here : vec_len c ≤ count = short 0 c (omega arith) in
    let same : vec_len c ≡ length c.items = c.ok.0 in
    omega arith
short_lists count (c ∷ cs) short (suc k) d lt =
    short_lists count cs (λ i e below. short (suc i) e (omega arith)) k d (omega arith)

pub short_columns : (count : ℕ) (columns : List (Vec Mersenne31 Global)) →
    All (λ column. length column ≤ count) (map (λ column. column.items) columns) →
    All (λ column. vec_len column ≤ count) columns
short_columns count [] short k d lt = absurd (omega arith)
short_columns count (c ∷ cs) short zero d lt =
    let here : length c.items ≤ count = short 0 c.items (omega arith) in
    let same : vec_len c ≡ length c.items = c.ok.0 in
    omega arith
short_columns count (c ∷ cs) short (suc k) d lt =
    short_columns count cs (λ i e below. short (suc i) e (omega arith)) k d (omega arith)
