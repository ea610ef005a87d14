-- The definitions at a worked opening over the numbers modulo 31, whose circle has 32 points. It
-- was computed apart from these definitions, by the formulas of the paper.
use Rattle.std.specs.Prelude.{◌≡◌, ℕ, ◌+◌, ◌*◌, ◌-◌, ◌%◌, ◌^◌, ◌==◌, List, [], ◌∷◌, map, refl, ⊤}
use Rattle.std.proofs.Common.{zero, suc}
use Rattle.circle_field.specs.Field.{FieldOps}
use Rattle.circle_field.specs.Circle.{Coordinates, at, plus}
use Rattle.circle_commit.specs.declared.params.FriParameters.{FriParameters}
use Rattle.circle_relation.specs.Statement.{PointClaim, BatchClaim, Opened, OpeningProof}
use Rattle.circle_relation.specs.Accepts.{Fields, Run, claimed_heights, rounds, at_queries}
use Rattle.circle_relation.specs.Accepts.{first_pair, round_value, final_value}

abbrev ops : FieldOps ℕ
ops = record {
  zero = 0;
  one = 1;
  add = λ a b. (a + b) % 31;
  mul = λ a b. (a * b) % 31;
  neg = λ a. (31 - a) % 31;
  inv = λ a. a ^ 29 % 31;
}

abbrev doubled_times : ℕ → Coordinates ℕ → Coordinates ℕ
doubled_times zero q = q
doubled_times (suc n) q = doubled_times n (plus ops q q)

-- (2, 11) has order 32
abbrev fields : Fields ℕ ℕ
fields = record {
  field = ops;
  gen = λ n. doubled_times (5 - n) (at 2 11);
  two_adicity = 5;
  is_zero = λ a. a == 0;
  extension = ops;
  embed = λ a. a;
  same = λ a b. a == b;
}

-- the blowup is 2, there are three queries, and folding goes on to 2^final coefficients
abbrev numbers : ℕ → FriParameters ⊤
numbers final = record {
  log_blowup = 1;
  log_final_poly_len = final;
  max_log_arity = 1;
  num_queries = 3;
  batch_proof_of_work_bits = 0;
  commit_proof_of_work_bits = 0;
  query_proof_of_work_bits = 0;
  mmcs = tt;
}

abbrev whole : FriParameters ⊤
whole = numbers 0

abbrev short : FriParameters ⊤
short = numbers 1

abbrev claim : ℕ → List ℕ → PointClaim ℕ
claim point values = record { point = point; values = values }

-- a batch of a matrix of 4 rows and two columns at two points, and of one of 8 rows and one column
abbrev batches : List (BatchClaim ℕ ℕ)
batches = record {
  commitment = 0;
  matrices =
      record { log_n = 2; claims = claim 1 (4 ∷ 14 ∷ []) ∷ claim 7 (8 ∷ 21 ∷ []) ∷ [] }
      ∷ record { log_n = 3; claims = claim 2 (27 ∷ []) ∷ [] }
      ∷ [];
} ∷ []

abbrev opened : {T : Type 0} → List T → Opened T ℕ
opened entries = record { entries = entries; proof = 0 }

abbrev proof : List ℕ → OpeningProof ℕ ℕ ℕ ℕ ℕ
proof final_poly = record {
  batch_witness = 0;
  first_layer = 0;
  lambdas = 9 ∷ 11 ∷ [];
  commitments = 0 ∷ 0 ∷ [];
  witnesses = 0 ∷ 0 ∷ [];
  final_poly = final_poly;
  query_witness = 0;
  inputs = opened (
      ((22 ∷ 23 ∷ []) ∷ (13 ∷ []) ∷ [])
      ∷ ((20 ∷ 7 ∷ []) ∷ (2 ∷ []) ∷ [])
      ∷ ((21 ∷ 27 ∷ []) ∷ (26 ∷ []) ∷ [])
      ∷ []) ∷ [];
  first_layer_opened = opened ((26 ∷ 25 ∷ []) ∷ (0 ∷ 1 ∷ []) ∷ (14 ∷ 25 ∷ []) ∷ []);
  rounds_opened =
      opened ((18 ∷ []) ∷ (28 ∷ []) ∷ (27 ∷ []) ∷ [])
      ∷ opened ((1 ∷ []) ∷ (14 ∷ []) ∷ (8 ∷ []) ∷ [])
      ∷ [];
}

abbrev run : List ℕ → Run ℕ ℕ ℕ ℕ ℕ ℕ
run final_poly = record {
  batches = batches;
  proof = proof final_poly;
  drawn = record { alpha = 11; bivariate = 6; betas = 17 ∷ 22 ∷ []; queries = 13 ∷ 2 ∷ 7 ∷ [] };
}

-- two heights are claimed, and the codewords are folded in two rounds
heights_row : claimed_heights fields whole (run (6 ∷ [])) ≡ 3 ∷ 4 ∷ []
heights_row = refl

rounds_row : rounds fields whole (run (6 ∷ [])) ≡ 2
rounds_row = refl

-- the opening that ends in a constant, and that which ends in two coefficients
abbrev constant : Run ℕ ℕ ℕ ℕ ℕ ℕ
constant = run (6 ∷ [])

abbrev linear : Run ℕ ℕ ℕ ℕ ℕ ℕ
linear = run (11 ∷ 4 ∷ [])

-- each query's pairs in the first layer, at both heights
first_pairs_row :
    at_queries fields whole constant
    (λ j q. map (first_pair fields whole constant j q) (3 ∷ 4 ∷ []))
    ≡ ((10 ∷ 26 ∷ []) ∷ (25 ∷ 19 ∷ []) ∷ [])
    ∷ ((0 ∷ 1 ∷ []) ∷ (2 ∷ 1 ∷ []) ∷ [])
    ∷ ((14 ∷ 27 ∷ []) ∷ (25 ∷ 8 ∷ []) ∷ [])
    ∷ []
first_pairs_row = refl

-- its values from round to round, and the constant that they end in
round_values_row :
    at_queries fields whole constant
    (λ j q. map (round_value fields whole constant j q) (0 ∷ 1 ∷ 2 ∷ []))
    ≡ (30 ∷ 21 ∷ 6 ∷ []) ∷ (28 ∷ 8 ∷ 6 ∷ []) ∷ (11 ∷ 14 ∷ 6 ∷ []) ∷ []
round_values_row = refl

final_values_row :
    at_queries fields whole constant (final_value fields whole constant) ≡ 6 ∷ 6 ∷ 6 ∷ []
final_values_row = refl

-- where folding stops at two coefficients there is one round, and each query ends in their value
linear_rounds_row : rounds fields short linear ≡ 1
linear_rounds_row = refl

linear_values_row :
    at_queries fields short linear (λ j q. round_value fields short linear j q 1)
    ≡ 21 ∷ 8 ∷ 14 ∷ []
linear_values_row = refl

linear_final_values_row :
    at_queries fields short linear (final_value fields short linear) ≡ 21 ∷ 8 ∷ 14 ∷ []
linear_final_values_row = refl
