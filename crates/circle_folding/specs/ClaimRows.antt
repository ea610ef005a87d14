-- The definitions at worked examples over the numbers modulo 31, whose circle has 32 points.
use Rattle.std.specs.Prelude.{◌≡◌, ℕ, ◌+◌, ◌*◌, ◌-◌, ◌%◌, ◌^◌, List, [], ◌∷◌, refl}
use Rattle.std.proofs.Common.{zero, suc}
use Rattle.circle_field.specs.Field.{FieldOps}
use Rattle.circle_field.specs.Circle.{Coordinates, at, plus}
use Rattle.circle_folding.specs.Claims.{row_quotients, word_quotients}
use Rattle.circle_folding.specs.WideSpans.{wide_value, HasWideValues}

abbrev ops : FieldOps ℕ
ops = record {
  zero = 0;
  one = 1;
  add = λ a b. (a + b) % 31;
  mul = λ a b. (a * b) % 31;
  neg = λ a. (31 - a) % 31;
  inv = λ a. a ^ 29 % 31;
}

abbrev doubled_times : ℕ → Coordinates ℕ → Coordinates ℕ
doubled_times zero q = q
doubled_times (suc n) q = doubled_times n (plus ops q q)

-- (2, 11) has order 32
abbrev gen : ℕ → Coordinates ℕ
gen n = doubled_times (5 - n) (at 2 11)

-- 3 + y + 4 x + x y at the 8 points of a standard domain
abbrev word : List ℕ
word = 11 ∷ 20 ∷ 22 ∷ 21 ∷ 19 ∷ 29 ∷ 22 ∷ 4 ∷ []

word_row : HasWideValues ops gen ops (λ a. a) 2 3 word (3 ∷ 1 ∷ 4 ∷ 1 ∷ []) 0
word_row = record { count = refl; values = refl }

-- and at (2, 11), where its value is 13: its quotients are the values of one plus 16 times v_2
value_row : wide_value ops 2 (3 ∷ 1 ∷ 4 ∷ 1 ∷ []) 0 (at 2 11) ≡ 13
value_row = refl

quotients_row : word_quotients ops gen ops (λ a. a) 3 2 (at 2 11) word 13
    ≡ 21 ∷ 28 ∷ 18 ∷ 15 ∷ 29 ∷ 10 ∷ 6 ∷ 21 ∷ []
quotients_row = refl

quotients_span_row : HasWideValues ops gen ops (λ a. a) 2 3
    (word_quotients ops gen ops (λ a. a) 3 2 (at 2 11) word 13) (3 ∷ 1 ∷ 5 ∷ 16 ∷ []) 16
quotients_span_row = record { count = refl; values = refl }

-- that column beside 2 + 7 y + x + 8 x y plus 5 times v_2, whose value at (2, 11) is 13 too
wide_value_row : wide_value ops 2 (2 ∷ 7 ∷ 1 ∷ 8 ∷ []) 5 (at 2 11) ≡ 13
wide_value_row = refl

row_quotients_row : row_quotients ops gen ops (λ a. a) 3 3 (at 2 11)
    ((11 ∷ 11 ∷ []) ∷ (20 ∷ 16 ∷ []) ∷ (22 ∷ 1 ∷ []) ∷ (21 ∷ 29 ∷ []) ∷ (19 ∷ 24 ∷ [])
    ∷ (29 ∷ 28 ∷ []) ∷ (22 ∷ 3 ∷ []) ∷ (4 ∷ 28 ∷ []) ∷ []) (13 ∷ 13 ∷ [])
    ≡ 20 ∷ 12 ∷ 29 ∷ 18 ∷ 5 ∷ 28 ∷ 28 ∷ 24 ∷ []
row_quotients_row = refl
