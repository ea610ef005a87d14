-- What is refused of a statement and a proof before the challenger is seeded, in order.
use Rattle.std.specs.Prelude.{◌≡◌, ℕ, ◌+◌, ◌^◌, ◌==◌, Bool, not, ◌||◌, List, [], ◌∷◌, ◌++◌, length}
use Rattle.std.specs.Prelude.{nat_le, nat_lt, Result, Ok, Err, IfErr, Option, Some, None, is_some}
use Rattle.std.specs.Prelude.{unwrap_or, if◌then◌else◌}
use Rattle.circle_commit.specs.declared.params.FriParameters.{FriParameters}
use Rattle.circle_air.specs.Degrees.{IsLogOfChunks, degree_of_parts}
use Rattle.circle_relation.specs.TestsInOrder.{Test, answer}
use Rattle.circle_stark.specs.Statement.{OpenedValues, Statement, statement_of, values_of}
use Rattle.circle_stark.specs.declared.error.StarkError.{StarkError}
use Rattle.circle_stark.specs.declared.error.StarkError.TheVariants.{PublicValuesMismatch}
use Rattle.circle_stark.specs.declared.error.StarkError.TheVariants.{HeightTooSmall, HeightTooLarge}
use Rattle.circle_stark.specs.declared.error.StarkError.TheVariants.{PeriodTooLong}
use Rattle.circle_stark.specs.declared.error.StarkError.TheVariants.{TraceLocalLength}
use Rattle.circle_stark.specs.declared.error.StarkError.TheVariants.{TraceNextLength}
use Rattle.circle_stark.specs.declared.error.StarkError.TheVariants.{QuotientChunkCount}
use Rattle.circle_stark.specs.declared.error.StarkError.TheVariants.{QuotientChunkLength}
use Rattle.circle_stark.specs.declared.proof.StarkOpenedValues.{StarkOpenedValues}
use Rattle.circle_stark.specs.declared.proof.StarkStatement.{StarkStatement}

-- what a function returns that tests in order: the first refusal whose test applies, and a value
-- where none does
abbrev pub IsTested : {A Err : Type 0} → List (Test Err) → Result A Err → Type 0
IsTested tests (Ok value) = answer tests (tt {0}) ≡ Ok (tt {0})
IsTested tests (Err e) = answer tests (tt {0}) ≡ Err e

-- the first of columns from j on that is longer than 2^n rows
unfoldable pub first_longer : {F : Type 0} → ℕ → ℕ → List (List F) → Option ℕ
first_longer n j [] = None
first_longer n j (column ∷ columns) =
    if nat_lt (2 ^ n) (length column) then Some j else first_longer n (j + 1) columns

module _ {Err : Type 0} where
  -- there are `got` of them, and another number is expected
  abbrev pub count_test : (ℕ → ℕ → Err) → ℕ → ℕ → Test Err
  count_test refusal expected got = (not (got == expected), refusal expected got)

  -- the first periodic column that is longer than 2^n rows
  abbrev pub period_test : {F : Type 0} → (ℕ → Err) → ℕ → List (List F) → Test Err
  period_test refusal n columns =
      let found = first_longer n 0 columns in
      (is_some found, refusal (unwrap_or found 0))

  -- the chunks from j on, each of which has a column for each coefficient of an element
  unfoldable pub chunk_tests : {E : Type 0} → (ℕ → ℕ → ℕ → Err) → ℕ → ℕ → List (List E)
      → List (Test Err)
  chunk_tests refusal degree j [] = []
  chunk_tests refusal degree j (chunk ∷ chunks) =
      count_test (refusal j) degree (length chunk)
      ∷ chunk_tests refusal degree (j + 1) chunks

-- 2^n rows are too few to be folded; they are too many for a group of order 2^two_adicity, where it
-- has no domain for their extension, or none for their quotient in 2^log_chunks chunks
abbrev pub is_too_small : {M : Type 0} → FriParameters M → ℕ → Bool
is_too_small params n = nat_lt n (2 + params.log_final_poly_len)

abbrev pub is_too_large : {M : Type 0} → ℕ → FriParameters M → ℕ → ℕ → Bool
is_too_large two_adicity params log_chunks n =
    nat_le two_adicity (n + params.log_blowup) || nat_le two_adicity (n + log_chunks)

-- the opened values of a trace of this width, with 2^log_chunks chunks, where an element has this
-- many coefficients
abbrev pub value_tests : {Opening E : Type 0} → ℕ → ℕ → ℕ → OpenedValues E
    → List (Test (StarkError Opening))
value_tests log_chunks degree width v =
    count_test TraceLocalLength width (length v.local)
    ∷ count_test TraceNextLength width (length v.next)
    ∷ count_test QuotientChunkCount (2 ^ log_chunks) (length v.chunks)
    ∷ chunk_tests QuotientChunkLength degree 0 v.chunks

module _ {Opening M : Type 0} (two_adicity : ℕ) (params : FriParameters M) (log_chunks : ℕ) where
  -- those of the statement, in order, and then those of the opened values
  abbrev pub statement_tests : {F : Type 0} → Statement F → List (Test (StarkError Opening))
  statement_tests s =
      count_test PublicValuesMismatch s.parts.num_public_values (length s.public_values)
      ∷ (is_too_small params s.log_n, HeightTooSmall)
      ∷ (is_too_large two_adicity params log_chunks s.log_n, HeightTooLarge)
      ∷ period_test PeriodTooLong s.log_n s.parts.periodic_columns
      ∷ []

  abbrev pub stark_tests : {F E : Type 0} → ℕ → Statement F → OpenedValues E
      → List (Test (StarkError Opening))
  stark_tests degree s v = statement_tests s ++ value_tests log_chunks degree s.parts.width v

-- where a test applies, the first refusal is returned, and the challenger stays as it was
abbrev pub IsFirstRefusal : {C Opening M F E : Type 0} → ℕ → FriParameters M → ℕ
    → StarkStatement F → StarkOpenedValues E → Result (Unit {0}) (StarkError Opening) → C → C
    → Type 0
IsFirstRefusal two_adicity params degree s v result old new =
    (k : ℕ) → IsLogOfChunks (degree_of_parts (statement_of s).parts) k →
    IfErr (answer (stark_tests two_adicity params k degree (statement_of s) (values_of v)) (tt {0}))
    (λ e. (result ≡ Err e) × (new ≡ old))
