-- A table of the sequence passes every test of the prover, so that only ill luck is left.
use Rattle.std.specs.Prelude.{◌≡◌, ℕ, ◌+◌, ◌*◌, ◌/◌, ◌%◌, ◌^◌, ◌<◌, ◌≤◌, ◌||◌, ◌==◌, Bool}
use Rattle.std.specs.Prelude.{true, false, not, List}
use Rattle.std.specs.Prelude.{[], length, MatchResult, Ok, count_ones, is_some}
use Rattle.std.specs.Int.{is_power_of_two}
use Rattle.std.specs.Int.Count.{ones-ones, ones_step}
use Rattle.std.proofs.Common.{◌∙◌, ap, arith, eq-eqb, lit<, refl, subst, suc, sym, zero, ⊎_elim}
use Rattle.std.proofs.Math.Nat.{pow-le-pow_right, pow-suc}
use Rattle.std.proofs.lemmas.Bool.{le-ltb, lt-leb}
use Rattle.std.proofs.lemmas.Nat.{pow_pos}
use Rattle.std.proofs.lemmas.List.FromFn.{length-map-range_with_len}
use Rattle.circle_air.specs.Degrees.{IsLogOfChunks, degree_of_parts}
use Rattle.circle_air.specs.Parts.{Parts}
use Rattle.circle_air.specs.Satisfies.{IsFirstViolation, Satisfies}
use Rattle.circle_air.specs.declared.check.Violation.{Violation}
use Rattle.circle_air.specs.declared.node.Place.TheVariants.{First}
use Rattle.circle_airs.specs.Fibonacci.{at, fibonacci_parts, fibonacci_row, fibonacci_rows}
use Rattle.circle_callers.specs.Sums.{Fits}
use Rattle.circle_callers.specs.Unlucky.{IsUnlucky}
use Rattle.circle_codewords.proofs.Logs.{log_of-power}
use Rattle.circle_codewords.specs.Requests.{log_of}
use Rattle.circle_commit.specs.RowMajorMatrix.{height_of, length-rows, rows, rows-width, width_of}
use Rattle.circle_commit.specs.declared.matrix.RowMajorMatrix.{RowMajorMatrix}
use Rattle.circle_commit.specs.declared.params.FriParameters.{FriParameters}
use Rattle.circle_commit.specs.declared.pcs.OpeningRequest.{OpeningRequest}
use Rattle.circle_field.specs.Field.{FieldOps}
use Rattle.circle_prover.specs.Requesting.{is_unfit}
use Rattle.circle_relation.proofs.Answering.{answer-none, skipped}
use Rattle.circle_relation.specs.Accepts.{Fields}
use Rattle.circle_relation.specs.TestsInOrder.{answer}
use Rattle.circle_relation.specs.declared.error.ProverError.{ProverError}
use Rattle.circle_stark.specs.Refusals.{first_longer}
use Rattle.circle_stark.specs.Schemes.{Schemes}
use Rattle.circle_stark.specs.Statement.{Statement}
use Rattle.circle_stark.specs.Trace.{trace_tests}
use Rattle.circle_stark.specs.Unproved.{IsTraceUnproved, IsUnopenedFor}
use Rattle.circle_stark.specs.declared.error.StarkProverError.{StarkProverError}
use Rattle.circle_stark.specs.declared.error.StarkProverError.TheVariants.{HeightNotPowerOfTwo}
use Rattle.circle_stark.specs.declared.error.StarkProverError.TheVariants.{HeightTooLarge}
use Rattle.circle_stark.specs.declared.error.StarkProverError.TheVariants.{HeightTooSmall, Memory}
use Rattle.circle_stark.specs.declared.error.StarkProverError.TheVariants.{NoGrindingWitness}
use Rattle.circle_stark.specs.declared.error.StarkProverError.TheVariants.{PeriodTooLong}
use Rattle.circle_stark.specs.declared.error.StarkProverError.TheVariants.{PointOnDomain}
use Rattle.circle_stark.specs.declared.error.StarkProverError.TheVariants.{PublicValuesMismatch}
use Rattle.circle_stark.specs.declared.error.StarkProverError.TheVariants.{UnfitParameters}
use Rattle.circle_stark.specs.declared.error.StarkProverError.TheVariants.{UnfitPoint, Unsatisfied}
use Rattle.circle_stark.specs.declared.error.StarkProverError.TheVariants.{WidthMismatch}
use Rattle.p3_circle.specs.Scheme.{IsFirstFrom}

or-false : (a b : Bool) → (a || b) ≡ false → (a ≡ false) × (b ≡ false)
or-false true b is = cc
or-false false b is = (refl, is)

neither : (a b : Bool) → a ≡ false → b ≡ false → (a || b) ≡ false
neither true b x y = cc
neither false b x y = y

counted : (got expected : ℕ) → got ≡ expected → not (got == expected) ≡ false
counted got expected same = grind arith

positive : (n : ℕ) → (n == 0) ≡ false → 1 ≤ n
positive zero is = cc
positive (suc n) is = omega arith

kept-true : (b : Bool) → b ≡ true → not b ≡ false
kept-true true is = refl
kept-true false is = cc

-- a power of two has one bit
one-bit : (n : ℕ) → count_ones (2 ^ n) ≡ 1
one-bit zero = ones-ones 1
one-bit (suc n) =
    let step = ones_step (2 ^ suc n) in
    let twice = pow-suc 2 n in
    let even : 2 ^ suc n % 2 ≡ 0 = omega (arith, twice) in
    let half : 2 ^ suc n / 2 ≡ 2 ^ n = omega (arith, twice) in
    let rest = ap count_ones half in
    omega (arith, step, even, rest, one-bit n)

power : (n : ℕ) → is_power_of_two (2 ^ n) ≡ true
power n = eq-eqb (count_ones (2 ^ n)) 1 (one-bit n)

-- supported parameters have a blowup
blown : {M : Type 0} (params : FriParameters M) → is_unfit params ≡ false → 1 ≤ params.log_blowup
blown params supported = positive params.log_blowup (or-false _ _ (or-false _ _ supported).1).0

-- the greatest degree is 2, so that the quotient has two chunks
chunks : (F : Type 0) → IsLogOfChunks (degree_of_parts (fibonacci_parts {F = F})) 1
chunks F = record {
  positive = omega arith;
  enough = omega arith;
  least = λ m positive enough. positive;
}

no-periods : {F : Type 0} (n : ℕ) (columns : List (List F)) → columns ≡ [] →
    is_some (first_longer n 0 columns) ≡ false
unfolding first_longer
no-periods n columns none = ap (λ cs. is_some (first_longer n 0 cs)) none

module _ {F M : Type 0} (params : FriParameters M) (s : Statement F) (n width height : ℕ)
    (parts : s.parts ≡ fibonacci_parts) (public : length s.public_values ≡ 3) (wide : width ≡ 2)
    (high : height ≡ 2 ^ n) (log : s.log_n ≡ n) (fits : Fits params n) where
  passes : answer (trace_tests 31 params 1 s width height) (tt {0}) ≡ Ok (tt {0})
  passes =
      let extended = fits.extended in
      let some = blown params fits.supported in
      skipped _ _ (tt {0})
      (counted _ _ (public ∙ sym (ap (λ (p : Parts F). p.num_public_values) parts)))
      ∙ skipped _ _ (tt {0}) (counted _ _ (wide ∙ sym (ap (λ (p : Parts F). p.width) parts)))
      ∙ skipped _ _ (tt {0}) (kept-true _ (ap is_power_of_two high ∙ power n))
      ∙ skipped _ _ (tt {0})
      (le-ltb s.log_n (2 + params.log_final_poly_len) (omega (arith, log, fits.large)))
      ∙ skipped _ _ (tt {0})
      (neither _ _ (lt-leb 31 (s.log_n + params.log_blowup) (omega (arith, log, extended)))
      (lt-leb 31 (s.log_n + 1) (omega (arith, log, extended, some))))
      ∙ skipped _ _ (tt {0})
      (no-periods s.log_n s.parts.periodic_columns
      (ap (λ (p : Parts F). p.periodic_columns) parts))
      ∙ skipped _ _ (tt {0}) fits.supported ∙ answer-none (tt {0})

  -- so that what is refused is so for another reason
  pub otherwise : {S : Type 0} (Otherwise : ℕ → StarkProverError → Type 0) (old new : S)
      (e : StarkProverError) →
      ((kk : ℕ) → IsLogOfChunks (degree_of_parts s.parts) kk →
      IsFirstFrom (trace_tests 31 params kk s width height) (Otherwise kk) old new e) →
      Otherwise 1 e
  otherwise Otherwise old new e refused =
      subst
      (λ r. MatchResult r (λ passed. Otherwise 1 e) (λ first. (e ≡ first) × (new ≡ old))) passes
      (refused 1
      (subst (λ (p : Parts F). IsLogOfChunks (degree_of_parts p) 1) (sym parts) (chunks F)))

-- so many rows are counted by a shift
pub shifted : {M : Type 0} (params : FriParameters M) (n : ℕ) → Fits params n →
    1 * 2 ^ n % 2 ^ 64 ≡ 2 ^ n
shifted params n fits =
    let extended = fits.extended in
    let below : n ≤ 63 = omega (arith, extended) in
    let small : 2 ^ n ≤ 2 ^ 63 = pow-le-pow_right (lit< tt) below in
    omega (arith, small)

-- the logarithm of so many rows
pub log-is : {M : Type 0} (params : FriParameters M) (height n : ℕ) → height ≡ 2 ^ n →
    Fits params n → log_of height ≡ n
log-is params height n high fits =
    let extended = fits.extended in
    ap log_of high ∙ log_of-power n (omega (arith, extended))

-- rows satisfy equal constraints and public values
pub still-satisfied : {F : Type 0} (k : FieldOps F) (p : Parts F) (x : List (List F))
    (public other : List F) → p ≡ fibonacci_parts → other ≡ public →
    Satisfies k fibonacci_parts x public → Satisfies k p x other
still-satisfied k p x public other parts same holds =
    subst (λ q. Satisfies k q x other) (sym parts)
    (subst (λ v. Satisfies k fibonacci_parts x v) (sym same) holds)

-- rows that satisfy the constraints have no violation
not-violated : {F : Type 0} (k : FieldOps F) (p : Parts F) (x : List (List F)) (public : List F)
    (v : Violation) → Satisfies k p x public → IsFirstViolation k p x public v → ⊥
not-violated k p x public v holds first =
    first.fails (at First 0)
    (holds.holds v.row first.row_below v.constraint (at First 0) first.constraint)

-- what isn't opened is so by ill luck
unopened : {S D F E : Type 0} (k : Fields F E)
    (refuses : List (OpeningRequest D E) → S → S → ProverError → Type 0) (n count : ℕ)
    (trace quotient : D) (zeta : E) (old new : S) (e : StarkProverError) →
    IsUnopenedFor k refuses n count trace quotient zeta old new e → IsUnlucky e
unopened k refuses n count trace quotient zeta old new (PublicValuesMismatch x y) h = absurd h
unopened k refuses n count trace quotient zeta old new (WidthMismatch x y) h = absurd h
unopened k refuses n count trace quotient zeta old new HeightNotPowerOfTwo h = absurd h
unopened k refuses n count trace quotient zeta old new HeightTooSmall h = absurd h
unopened k refuses n count trace quotient zeta old new HeightTooLarge h = absurd h
unopened k refuses n count trace quotient zeta old new (PeriodTooLong column) h = absurd h
unopened k refuses n count trace quotient zeta old new UnfitParameters h = absurd h
unopened k refuses n count trace quotient zeta old new (Unsatisfied x y) h = absurd h
unopened k refuses n count trace quotient zeta old new UnfitPoint h = tt
unopened k refuses n count trace quotient zeta old new PointOnDomain h = tt
unopened k refuses n count trace quotient zeta old new (NoGrindingWitness phase) h = tt
unopened k refuses n count trace quotient zeta old new Memory h = tt

pub unlucky : {P C S F E : Type 0} (o : Schemes P C S F E) (pcs : P) (s : Statement F) (kk : ℕ)
    (x : RowMajorMatrix F) (old new : C) (e : StarkProverError) →
    Satisfies o.fields.field s.parts (rows x) s.public_values →
    IsTraceUnproved o pcs s kk x old new e → IsUnlucky e
unlucky o pcs s kk x old new e holds why =
    ⊎_elim (λ memory. subst IsUnlucky (sym memory) tt)
    (λ other. ⊎_elim
    (λ violated. absurd (not-violated o.fields.field s.parts (rows x) s.public_values
    violated.violation holds violated.first))
    (λ run. unopened _ _ _ _ run.1.trace_data run.1.quotient_data run.1.zeta _ _ e
    run.1.unopened) other) why

module _ {F : Type 0} (k : FieldOps F) (a b : F) where
  -- a table of the sequence has so many rows
  pub height-is : (height : ℕ) (m : RowMajorMatrix F) → rows m ≡ fibonacci_rows k a b height →
      height_of m ≡ height
  height-is height m made =
      sym (length-rows m) ∙ ap length made
      ∙ length-map-range_with_len (fibonacci_row k a b) 0 height

  -- of two entries
  pub width-is : (n : ℕ) (m : RowMajorMatrix F) → rows m ≡ fibonacci_rows k a b (2 ^ n) →
      (public : List F) → Satisfies k fibonacci_parts (rows m) public → width_of m ≡ 2
  width-is n m made public holds =
      let long = length-rows m in
      let some = pow_pos n in
      let high = height-is (2 ^ n) m made in
      let below : 0 < length (rows m) = omega (arith, long, some, high) in
      sym (rows-width m 0 [] below) ∙ holds.widths 0 [] below
