-- What is tested of the lengths of a proof's lists.
use Rattle.std.specs.Prelude.{ℕ, Bool, ◌==◌, ◌&&◌, List, length, zip, Vec, vec_len}
use Rattle.std.specs.List.{list_all}
use Rattle.std.specs.declared.alloc.Global.{Global}
use Rattle.circle_commit.specs.declared.pcs.PointOpening.{PointOpening}
use Rattle.circle_commit.specs.declared.pcs.MatrixOpening.{MatrixOpening}
use Rattle.circle_commit.specs.declared.pcs.CommitmentOpening.{CommitmentOpening}
use Rattle.circle_commit.specs.declared.pcs.BatchMultiOpening.{BatchMultiOpening}

-- whether all claims have `count` values
abbrev pub have_values : {E : Type 0} → List (PointOpening E) → ℕ → Bool
have_values points count = list_all (λ p. vec_len p.values == count) points

-- whether there is a row of each matrix, as long as the claims of its values
abbrev pub rows_fit :
    {E D T : Type 0} → List (MatrixOpening E D) → List (Vec T Global) → Bool
rows_fit matrices rows =
    (length rows == length matrices)
    && list_all (λ p. have_values p.0.points.items (vec_len p.1)) (zip matrices rows)

-- whether there are such rows for each query
abbrev pub opened_fit :
    {E D T : Type 0} → ℕ → List (MatrixOpening E D) → List (Vec (Vec T Global) Global) → Bool
opened_fit queries matrices opened =
    (length opened == queries) && list_all (λ rows. rows_fit matrices rows.items) opened

-- whether there are such rows of each batch
abbrev pub inputs_fit :
    {E C D T M MC MD MP ME : Type 0} → ℕ → List (CommitmentOpening E C D)
    → List (BatchMultiOpening T M MC MD MP ME) → Bool
inputs_fit queries claims inputs =
    (length inputs == length claims)
    && list_all (λ p. opened_fit queries p.0.matrices.items p.1.opened_values.items)
    (zip claims inputs)

-- whether there are `count` siblings for each query
abbrev pub siblings_fit : {T : Type 0} → ℕ → ℕ → List (Vec T Global) → Bool
siblings_fit queries count siblings =
    (length siblings == queries) && list_all (λ s. vec_len s == count) siblings
