-- Each part of a quotient has a row for each point of its domain.
use Rattle.std.specs.Prelude.{◌≡◌, ℕ, ◌+◌, ◌/◌, ◌^◌, ◌<◌, List, [], length, map, All}
use Rattle.std.specs.Prelude.{slice_index_or}
use Rattle.std.specs.List.{range_with_len}
use Rattle.std.proofs.Common.{◌∙◌, ap, arith, pow-add, sym}
use Rattle.std.proofs.Math.Nat.{mul-div_cancel}
use Rattle.std.proofs.lemmas.List.{get_or-map, length-map}
use Rattle.std.proofs.lemmas.List.FromFn.{length-range_with_len}
use Rattle.std.proofs.lemmas.Nat.{pow_pos}
use Rattle.circle_commit.specs.Matrix.{mapped_rows}
use Rattle.circle_commit.specs.RowFacts.{length-mapped_rows}
use Rattle.circle_commit.specs.RowMajorMatrix.{length-rows, rows}
use Rattle.circle_commit.specs.declared.matrix.RowMajorMatrix.{RowMajorMatrix}
use Rattle.circle_domain.specs.Domain.{log_size}
use Rattle.circle_domain.specs.Splitting.{place_of, split_rows}
use Rattle.circle_domain.specs.declared.domain.CircleDomain.{CircleDomain}
use Rattle.circle_field.specs.declared.field.Operations.{Ghosts}
use Rattle.p3_circle.specs.Committing.{HaveRowsForPoints}

-- the parts of 2^(n + kk) rows have 2^n each
part-long : {T : Type 0} (n kk : ℕ) (all : List (List T)) (j : ℕ) → j < 2 ^ kk →
    length (slice_index_or (split_rows (2 ^ kk) (2 ^ (n + kk)) all) j []) ≡ 2 ^ n
part-long n kk all j below =
    let c = 2 ^ kk in
    let height = 2 ^ (n + kk) in
    let part = λ (i : ℕ). mapped_rows (place_of c i) (height / c) all in
    let inside : j < length (range_with_len 0 c) =
    omega (arith, below, length-range_with_len 0 c) in
    ap length (get_or-map part (range_with_len 0 c) j 0 [] inside)
    ∙ length-mapped_rows (place_of c (slice_index_or (range_with_len 0 c) j 0)) (height / c) all
    ∙ ap (λ t. t / c) (pow-add 2 n kk) ∙ mul-div_cancel (2 ^ n) (pow_pos kk)

pub have-rows : {F : Type 0} {g : Ghosts F} (n kk : ℕ)
    (batch : List (CircleDomain F g × RowMajorMatrix F)) → All (λ c. log_size c.0 ≡ n) batch →
    (all : List (List F)) →
    map (λ c. rows c.1) batch ≡ split_rows (2 ^ kk) (2 ^ (n + kk)) all → HaveRowsForPoints batch
have-rows n kk batch sizes all same = λ j d below.
    let c = slice_index_or batch j d in
    let long = ap length same in
    let count : length batch ≡ 2 ^ kk =
    sym (length-map batch (λ c. rows c.1)) ∙ long
    ∙ length-map (range_with_len 0 (2 ^ kk)) _ ∙ length-range_with_len 0 (2 ^ kk) in
    sym (length-rows c.1)
    ∙ sym (ap length (get_or-map (λ c. rows c.1) batch j d [] below))
    ∙ ap (λ rs. length (slice_index_or rs j [])) same
    ∙ part-long n kk all j (omega (arith, below, count))
    ∙ ap (λ i. 2 ^ i) (sym (sizes j d below))
