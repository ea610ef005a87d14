-- The definitions at worked examples over the numbers modulo 31, whose circle has 32 points.
use Rattle.std.specs.Prelude.{◌≡◌, ℕ, ◌+◌, ◌*◌, ◌-◌, ◌%◌, ◌^◌, [], ◌∷◌, refl, map}
use Rattle.std.proofs.Common.{zero, suc}
use Rattle.circle_field.specs.Field.{FieldOps}
use Rattle.circle_field.specs.Circle.{Coordinates, at, plus}
use Rattle.circle_folding.specs.Fold.{folds, fold_x_twiddles, y_folds}
use Rattle.circle_folding.specs.Lambda.{lambda_of}
use Rattle.circle_folding.specs.Spans.{Splits, IsOrthogonal, RowsSpan}
use Rattle.circle_folding.specs.Chain.{first_layer_twiddle, round_twiddle, asked_pairs, next_value}

abbrev ops : FieldOps ℕ
ops = record {
  zero = 0;
  one = 1;
  add = λ a b. (a + b) % 31;
  mul = λ a b. (a * b) % 31;
  neg = λ a. (31 - a) % 31;
  inv = λ a. a ^ 29 % 31;
}

abbrev doubled_times : ℕ → Coordinates ℕ → Coordinates ℕ
doubled_times zero q = q
doubled_times (suc n) q = doubled_times n (plus ops q q)

-- (2, 11) has order 32
abbrev gen : ℕ → Coordinates ℕ
gen n = doubled_times (5 - n) (at 2 11)

-- twice the square less one of each twiddle is, up to the sign, one of the next round's
twiddles_row : map (fold_x_twiddles ops gen) (2 ∷ 1 ∷ 0 ∷ [])
    ≡ (2 ∷ 11 ∷ 21 ∷ 5 ∷ []) ∷ (7 ∷ 13 ∷ []) ∷ (4 ∷ []) ∷ []
twiddles_row = refl

-- a codeword of 8 entries folded twice
folded_row : folds ops 2 (fold_x_twiddles ops gen 2)
    ((3 ∷ 1 ∷ []) ∷ (4 ∷ 1 ∷ []) ∷ (5 ∷ 9 ∷ []) ∷ (2 ∷ 6 ∷ []) ∷ []) ≡ 3 ∷ 7 ∷ 26 ∷ 28 ∷ []
folded_row = refl

folded_again_row : folds ops 7 (fold_x_twiddles ops gen 1)
    ((3 ∷ 7 ∷ []) ∷ (26 ∷ 28 ∷ []) ∷ []) ≡ 3 ∷ 5 ∷ []
folded_again_row = refl

-- 3 + 2 y at (4, 27), (4, 4), (27, 4) and (27, 27), plus 5 times x there
split_row : Splits ops gen ops (λ a. a) 1 2 (15 ∷ 0 ∷ 22 ∷ 6 ∷ []) (26 ∷ 11 ∷ 11 ∷ 26 ∷ []) 5
split_row = record {
  span = (3 ∷ 2 ∷ [], record { count = refl; values = refl });
  sum = refl;
}

lambda_row : lambda_of ops gen ops (λ a. a) 1 2 (15 ∷ 0 ∷ 22 ∷ 6 ∷ []) ≡ 5
lambda_row = refl

-- what is left is orthogonal to x
orthogonal_row : IsOrthogonal ops gen ops (λ a. a) 1 2 (26 ∷ 11 ∷ 11 ∷ 26 ∷ [])
orthogonal_row = refl

-- by 7 it folds to 3 + 2 * 7 at both pairs
span_row : RowsSpan ops gen ops (λ a. a) 1 1 ((26 ∷ 11 ∷ []) ∷ (11 ∷ 26 ∷ []) ∷ [])
span_row = (3 ∷ 2 ∷ [], record { count = refl; values = refl })

folded_span_row :
    y_folds ops gen ops (λ a. a) 1 7 ((26 ∷ 11 ∷ []) ∷ (11 ∷ 26 ∷ []) ∷ []) ≡ 17 ∷ 17 ∷ []
folded_span_row = refl

-- queries 13, 2 and 7 of 16 read the pairs 6, 1 and 3 of the first codeword of 16 entries, and for
-- 3, 0 and 1 of that of 8
first_layer_twiddles_row :
    map (λ h. map (first_layer_twiddle ops gen h 4) (13 ∷ 2 ∷ 7 ∷ [])) (4 ∷ 3 ∷ [])
    ≡ (10 ∷ 20 ∷ 2 ∷ []) ∷ (7 ∷ 13 ∷ 18 ∷ []) ∷ []
first_layer_twiddles_row = refl

-- in the rounds they read the entries 6, 1 and 3 of that codeword, and then for entries 3, 0 and 1
query_twiddles_row : map (round_twiddle ops gen 4 0) (13 ∷ 2 ∷ 7 ∷ []) ≡ 5 ∷ 2 ∷ 11 ∷ []
query_twiddles_row = refl

next_twiddles_row : map (round_twiddle ops gen 4 1) (13 ∷ 2 ∷ 7 ∷ []) ≡ 13 ∷ 7 ∷ 7 ∷ []
next_twiddles_row = refl

asked_pairs_row : asked_pairs {E = ℕ} 1 (13 ∷ 2 ∷ 7 ∷ []) (2 ∷ 1 ∷ 1 ∷ []) (6 ∷ 3 ∷ 4 ∷ [])
    ≡ (2 ∷ 6 ∷ []) ∷ (3 ∷ 1 ∷ []) ∷ (4 ∷ 1 ∷ []) ∷ []
asked_pairs_row = refl

-- of a codeword that has as many entries as there are indices a query is itself the place
asked_pairs-themselves_row :
    asked_pairs {E = ℕ} 0 (13 ∷ 2 ∷ 7 ∷ []) (2 ∷ 1 ∷ 1 ∷ []) (6 ∷ 3 ∷ 4 ∷ [])
    ≡ (6 ∷ 2 ∷ []) ∷ (1 ∷ 3 ∷ []) ∷ (4 ∷ 1 ∷ []) ∷ []
asked_pairs-themselves_row = refl

-- query 13 meets entry 3 of the codeword folded once, and entry 1 of the codeword folded twice
first_value_row : next_value ops 2 (round_twiddle ops gen 4 0 13) 6 2 6 ≡ 28
first_value_row = refl

second_value_row : next_value ops 7 (round_twiddle ops gen 4 1 13) 3 28 26 ≡ 5
second_value_row = refl
