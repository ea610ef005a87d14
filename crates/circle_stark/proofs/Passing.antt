-- The tests of a statement and of opened values, and what they establish.
use Rattle.std.proofs.Common.{◌≡◌, ℕ, ◌+◌, ◌^◌, ◌≤◌, ◌||◌, ◌==◌, Bool, true, false, List, []}
use Rattle.std.proofs.Common.{◌∷◌, length, refl, ◌∙◌, suc, arith}
use Rattle.std.proofs.lemmas.Bool.{le-ltb, lt-leb, ltb-false, leb-false}
use Rattle.std.proofs.lemmas.List.Elements.{All-nil, All-cons}
use Rattle.std.specs.Prelude.{Ok, All, nat_lt, not, is_some, Option, Some, if◌then◌else◌}
use Rattle.circle_air.specs.Degrees.{IsLogOfChunks, degree_of_parts}
use Rattle.circle_commit.specs.declared.params.FriParameters.{FriParameters}
use Rattle.circle_relation.specs.TestsInOrder.{answer}
use Rattle.circle_relation.proofs.Answering.{answer-none, passing, skipped}
use Rattle.circle_stark.specs.Provable.{HasShape, IsProvable}
use Rattle.circle_stark.specs.Refusals.{chunk_tests, first_longer, statement_tests}
use Rattle.circle_stark.specs.Refusals.{value_tests}
use Rattle.circle_stark.specs.Statement.{OpenedValues, Statement}

or-false : (a b : Bool) → (a || b) ≡ false → (a ≡ false) × (b ≡ false)
or-false true b is = cc
or-false false b is = (refl, is)

neither : (a b : Bool) → a ≡ false → b ≡ false → (a || b) ≡ false
neither true b x y = cc
neither false b x y = y

pub same_count : (got expected : ℕ) → not (got == expected) ≡ false → got ≡ expected
same_count got expected is = grind arith

counted : (got expected : ℕ) → got ≡ expected → not (got == expected) ≡ false
counted got expected same = grind arith

branch : (b : Bool) (j : ℕ) (rest : Option ℕ) → is_some (if b then Some j else rest) ≡ false →
    (b ≡ false) × (is_some rest ≡ false)
branch true j rest is = cc
branch false j rest is = (refl, is)

joined : (b : Bool) (j : ℕ) (rest : Option ℕ) → b ≡ false → is_some rest ≡ false →
    is_some (if b then Some j else rest) ≡ false
joined true j rest x y = cc
joined false j rest x y = y

module _ {F : Type 0} (n : ℕ) where
  -- no column is longer than 2^n
  none_longer : (j : ℕ) (columns : List (List F)) → is_some (first_longer n j columns) ≡ false →
      All (λ c. length c ≤ 2 ^ n) columns
  unfolding first_longer
  none_longer j [] is = All-nil (λ c. length c ≤ 2 ^ n)
  none_longer j (c ∷ columns) is =
      let here = branch (nat_lt (2 ^ n) (length c)) j (first_longer n (j + 1) columns) is in
      All-cons (λ c. length c ≤ 2 ^ n) c columns (ltb-false (2 ^ n) (length c) here.0)
      (none_longer (j + 1) columns here.1)

  all_short : (j : ℕ) (columns : List (List F)) → All (λ c. length c ≤ 2 ^ n) columns →
      is_some (first_longer n j columns) ≡ false
  unfolding first_longer
  all_short j [] short = refl
  all_short j (c ∷ columns) short =
      joined (nat_lt (2 ^ n) (length c)) j (first_longer n (j + 1) columns)
      (le-ltb (2 ^ n) (length c) (short 0 c (omega arith)))
      (all_short (j + 1) columns (λ i d below. short (suc i) d (omega (arith, below))))

module _ {E Err : Type 0} (refusal : ℕ → ℕ → ℕ → Err) (degree : ℕ) where
  -- each chunk has `degree` columns
  even_chunks : (j : ℕ) (chunks : List (List E)) →
      answer {A = Unit {0}} (chunk_tests refusal degree j chunks) (tt {0}) ≡ Ok (tt {0}) →
      All (λ c. length c ≡ degree) chunks
  unfolding chunk_tests
  even_chunks j [] passed = All-nil (λ c. length c ≡ degree)
  even_chunks j (c ∷ chunks) passed =
      let here = passing _ _ passed in
      All-cons (λ c. length c ≡ degree) c chunks (same_count (length c) degree here.0)
      (even_chunks (j + 1) chunks here.1)

  all_even : (j : ℕ) (chunks : List (List E)) → All (λ c. length c ≡ degree) chunks →
      answer {A = Unit {0}} (chunk_tests refusal degree j chunks) (tt {0}) ≡ Ok (tt {0})
  unfolding chunk_tests
  all_even j [] even = answer-none (tt {0})
  all_even j (c ∷ chunks) even =
      skipped _ _ (tt {0}) (counted (length c) degree (even 0 c (omega arith)))
      ∙ all_even (j + 1) chunks (λ i d below. even (suc i) d (omega (arith, below)))

module _ {Opening F M : Type 0} (two_adicity : ℕ) (params : FriParameters M) (k : ℕ)
    (s : Statement F) where
  -- a statement that passes can be proved
  pub provable : IsLogOfChunks (degree_of_parts s.parts) k →
      answer (statement_tests {Opening = Opening} two_adicity params k s) (tt {0}) ≡ Ok (tt {0}) →
      IsProvable two_adicity params s k
  provable chunks passed =
      let first = passing _ _ passed in
      let second = passing _ _ first.1 in
      let third = passing _ _ second.1 in
      let fourth = passing _ _ third.1 in
      let large : 2 + params.log_final_poly_len ≤ s.log_n =
      ltb-false s.log_n (2 + params.log_final_poly_len) second.0 in
      let small = or-false _ _ third.0 in
      record {
        domains = record {
          chunks = chunks;
          public = same_count (length s.public_values) s.parts.num_public_values first.0;
          positive = omega (arith, large);
          in_group = leb-false two_adicity (s.log_n + k) small.1;
          periods = none_longer s.log_n 0 s.parts.periodic_columns fourth.0;
        };
        large = large;
        extended = leb-false two_adicity (s.log_n + params.log_blowup) small.0;
      }

  -- and one that can be proved passes
  pub tested : IsProvable two_adicity params s k →
      answer (statement_tests {Opening = Opening} two_adicity params k s) (tt {0}) ≡ Ok (tt {0})
  tested can =
      skipped _ _ (tt {0})
      (counted (length s.public_values) s.parts.num_public_values can.domains.public)
      ∙ skipped _ _ (tt {0}) (le-ltb s.log_n (2 + params.log_final_poly_len) can.large)
      ∙ skipped _ _ (tt {0})
      (neither _ _ (lt-leb two_adicity (s.log_n + params.log_blowup) can.extended)
      (lt-leb two_adicity (s.log_n + k) can.domains.in_group))
      ∙ skipped _ _ (tt {0}) (all_short s.log_n 0 s.parts.periodic_columns can.domains.periods)
      ∙ answer-none (tt {0})

module _ {Opening E : Type 0} (k degree width : ℕ) (v : OpenedValues E) where
  -- values that pass have the shape that is due
  pub shaped : answer (value_tests {Opening = Opening} k degree width v) (tt {0}) ≡ Ok (tt {0}) →
      HasShape degree width k v
  shaped passed =
      let first = passing _ _ passed in
      let second = passing _ _ first.1 in
      let third = passing _ _ second.1 in
      record {
        local = same_count (length v.local) width first.0;
        next = same_count (length v.next) width second.0;
        chunks = same_count (length v.chunks) (2 ^ k) third.0;
        columns = even_chunks _ degree 0 v.chunks third.1;
      }

  pub passed-values : HasShape degree width k v →
      answer (value_tests {Opening = Opening} k degree width v) (tt {0}) ≡ Ok (tt {0})
  passed-values shape =
      skipped _ _ (tt {0}) (counted (length v.local) width shape.local)
      ∙ skipped _ _ (tt {0}) (counted (length v.next) width shape.next)
      ∙ skipped _ _ (tt {0}) (counted (length v.chunks) (2 ^ k) shape.chunks)
      ∙ all_even _ degree 0 v.chunks shape.columns

-- one number of chunks is the least
pub same-log : (degree j k : ℕ) → IsLogOfChunks degree j → IsLogOfChunks degree k → j ≡ k
same-log degree j k one other =
    omega (arith, one.least k other.positive other.enough, other.least j one.positive one.enough)
