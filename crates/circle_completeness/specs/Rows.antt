-- The definitions at a worked example over the numbers modulo 31, whose circle has 32 points. It
-- was computed apart from these definitions.
use Rattle.std.specs.Prelude.{◌≡◌, ◌==◌, ℕ, ◌+◌, ◌*◌, ◌-◌, ◌%◌, ◌^◌, List, [], ◌∷◌, map, take, refl}
use Rattle.std.proofs.Common.{zero, suc, ap}
use Rattle.std.proofs.lemmas.Bool.{eqb-false}
use Rattle.std.proofs.lemmas.List.Elements.{All-from_recursion}
use Rattle.circle_field.specs.Field.{FieldOps}
use Rattle.circle_field.specs.Circle.{Coordinates, at, plus, lifted}
use Rattle.circle_folding.specs.Spans.{Splits}
use Rattle.circle_prover.specs.Words.{round_word}
use Rattle.circle_point.specs.Projective.{from_line}
use Rattle.circle_relation.specs.Accepts.{Fields}
use Rattle.circle_relation.specs.Statement.{PointClaim}
use Rattle.circle_codewords.specs.Lifts.{extended_rows, read_rows}
use Rattle.circle_codewords.specs.Ratios.{points_of_height}
use Rattle.circle_codewords.specs.Words.{Committed, reduced_word, corrected_word, claim_of}
use Rattle.circle_completeness.specs.LowDegree.{IsTrue, IsTrueClaim}

abbrev ops : FieldOps ℕ
ops = record {
  zero = 0;
  one = 1;
  add = λ a b. (a + b) % 31;
  mul = λ a b. (a * b) % 31;
  neg = λ a. (31 - a) % 31;
  inv = λ a. a ^ 29 % 31;
}

abbrev doubled_times : ℕ → Coordinates ℕ → Coordinates ℕ
doubled_times zero q = q
doubled_times (suc n) q = doubled_times n (plus ops q q)

-- (2, 11) has order 32
abbrev fields : Fields ℕ ℕ
fields = record {
  field = ops;
  gen = λ n. doubled_times (5 - n) (at 2 11);
  two_adicity = 5;
  is_zero = λ a. a == 0;
  extension = ops;
  embed = λ a. a;
  same = λ a b. a == b;
}

-- 3 + 2 y at (4, 27), (4, 4), (27, 4) and (27, 27), and at (18, 7), whose coordinate on the
-- projective line is 2
abbrev claim : PointClaim ℕ
claim = claim_of 2 (17 ∷ [])

abbrev matrix : Committed ℕ ℕ
matrix = record {
  log_height = 2;
  rows = (26 ∷ []) ∷ (11 ∷ []) ∷ (11 ∷ []) ∷ (26 ∷ []) ∷ [];
  claims = claim ∷ [];
}

-- rows of which the first two are those of the matrix, and the others are of no such polynomial
abbrev other_rows : List (List ℕ)
other_rows = (26 ∷ []) ∷ (11 ∷ []) ∷ (0 ∷ []) ∷ (0 ∷ []) ∷ []

-- the first two extend to all rows of the matrix: so are they read of 1024 columns, and of one
-- column the rows are read as they are
extended_lines : extended_rows fields 1 2 1 other_rows ≡ matrix.rows
extended_lines = refl

wide_lines : map (take 1) (read_rows fields 1 2 1024 other_rows) ≡ matrix.rows
wide_lines = refl

narrow_lines : read_rows fields 1 2 1 other_rows ≡ other_rows
narrow_lines = refl

-- the claim is true
claim_row : IsTrueClaim fields 1 matrix 1 ((3 ∷ []) ∷ (2 ∷ []) ∷ []) claim
claim_row = record {
  finite = eqb-false 4 30 refl;
  apart = All-from_recursion (λ p. lifted (λ a. a) p ≡ from_line ops 2 → ⊥)
      (points_of_height ops fields.gen 2) (
        λ e. eqb-false 4 18 refl (ap (λ (p : Coordinates ℕ). p.x) e),
        (
          λ e. eqb-false 4 18 refl (ap (λ (p : Coordinates ℕ). p.x) e),
          (
            λ e. eqb-false 27 18 refl (ap (λ (p : Coordinates ℕ). p.x) e),
            (λ e. eqb-false 27 18 refl (ap (λ (p : Coordinates ℕ). p.x) e), tt),
          ),
        ),
      );
  values = refl;
}

true_row : IsTrue fields 1 matrix
true_row = record {
  width = 1;
  coeffs = (3 ∷ []) ∷ (2 ∷ []) ∷ [];
  columns = record { count = refl; values = refl };
  claims = All-from_recursion (IsTrueClaim fields 1 matrix 1 ((3 ∷ []) ∷ (2 ∷ []) ∷ []))
      (claim ∷ []) (claim_row, tt);
}

-- combined by 5, its codeword is 21 + y plus 5 times x
word_row : reduced_word fields 5 (matrix ∷ []) 2 ≡ 6 ∷ 14 ∷ 5 ∷ 28 ∷ []
word_row = refl

split_row : Splits ops fields.gen ops (λ a. a) 1 2 (reduced_word fields 5 (matrix ∷ []) 2)
    (17 ∷ 25 ∷ 25 ∷ 17 ∷ []) 5
split_row = record {
  span = (21 ∷ 1 ∷ [], record { count = refl; values = refl });
  sum = refl;
}

corrected_row : corrected_word fields 5 (matrix ∷ []) 1 2 ≡ 17 ∷ 25 ∷ 25 ∷ 17 ∷ []
corrected_row = refl

-- by 7 it folds into the constant 21 + 7
last_row : round_word fields 1 (matrix ∷ []) 5 7 [] 0 ≡ 28 ∷ 28 ∷ []
last_row = refl
