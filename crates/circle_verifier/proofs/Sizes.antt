-- Whether each claimed domain leaves something to fold.
use Rattle.std.proofs.Common.{◌≡◌, ℕ, ◌+◌, ◌≤◌, ◌==◌, true, false, List, [], ◌∷◌, length, get_or}
use Rattle.std.proofs.Common.{sym, ◌∙◌, arith, eq-eqb, ⊎_elim}
use Rattle.std.proofs.lemmas.Bool.{cases_eq, eqb-true}
use Rattle.std.specs.Prelude.{All}
use Rattle.std.specs.List.{list_any, Any}
use Rattle.std.proofs.lemmas.List.Elements.{All-head}
use Rattle.std.proofs.lemmas.List.Folds.{Any-from_list_any, list_any_at}
use Rattle.circle_relation.specs.Statement.{MatrixClaim, log_max_height}

-- a claimed height is at most the greatest
pub room : {E : Type 0} (blowup final : ℕ) (ms : List (MatrixClaim E)) → 1 ≤ length ms →
    All (λ m. final + 1 ≤ m.log_n) ms → final + 1 + blowup ≤ log_max_height blowup ms
room blowup final [] some large = absurd (omega arith)
room blowup final (m ∷ ms) some large = let first =
    All-head (λ d. final + 1 ≤ d.log_n) m ms large in omega arith

pub some-size : {E : Type 0} (n : ℕ) (ms : List (MatrixClaim E)) → list_any (λ m. m.log_n == n) ms
    ≡ true → Any (λ m. m.log_n ≡ n) ms
some-size n ms is = let found = Any-from_list_any (λ m. m.log_n == n) ms is in
    (found.0, found.1, found.2, found.3, eqb-true found.1.log_n n found.4)

pub all-larger : {E : Type 0} (final : ℕ) (ms : List (MatrixClaim E)) →
    list_any (λ m. m.log_n == final + 1) ms ≡ false → All (λ m. final + 1 ≤ m.log_n) ms →
    All (λ m. final + 2 ≤ m.log_n) ms
all-larger final ms none large = λ k d lt.
    let n = (get_or ms k d).log_n in
    let here : final + 1 ≤ n = large k d lt in
    ⊎_elim
    (λ same. absurd (let e : true ≡ false =
    sym (list_any_at (λ m. m.log_n == final + 1) ms k d lt (eq-eqb n (final + 1) same))
    ∙ none in cc))
    (λ other. omega arith)
    (cases_eq n (final + 1))
