-- The tests of a trace, and what they establish.
use Rattle.std.specs.Prelude.{◌≡◌, ℕ, ◌^◌, ◌<◌, ◌==◌, Bool, true, false, not, length, List}
use Rattle.std.specs.Prelude.{[], ◌∷◌, Err, IfErr, Ok, Result}
use Rattle.std.specs.Int.{is_power_of_two}
use Rattle.std.specs.List.{AllByRecursion}
use Rattle.std.proofs.Common.{◌∙◌, ap, refl, sym}
use Rattle.std.proofs.lemmas.Result.{IfErr-at_err}
use Rattle.circle_air.specs.Degrees.{IsLogOfChunks, degree_of_parts}
use Rattle.circle_codewords.specs.Requests.{log_of}
use Rattle.circle_codewords.proofs.Logs.{log_of-power}
use Rattle.circle_commit.specs.declared.params.FriParameters.{FriParameters}
use Rattle.circle_prover.specs.Requesting.{is_unfit}
use Rattle.circle_relation.specs.TestsInOrder.{Test, answer}
use Rattle.circle_relation.proofs.Answering.{answer-none, passing, skipped}
use Rattle.circle_stark.specs.Provable.{IsProvable}
use Rattle.circle_stark.specs.RoundTrip.{is_memory}
use Rattle.circle_stark.specs.Statement.{Statement}
use Rattle.circle_stark.specs.Trace.{IfRefused, shape_tests, size_tests, tests_of_trace}
use Rattle.circle_stark.specs.declared.error.StarkProverError.{StarkProverError}
use Rattle.circle_stark.specs.declared.trace.StarkTrace.{StarkTrace}
use Rattle.circle_stark.proofs.Passing.{provable, same_count}

not-false : (b : Bool) → not b ≡ false → b ≡ true
not-false true is = cc
not-false false is = cc

-- what holds of each refusal holds of the first
pub of-first : {Error : Type 0} (P : Error → Type 0) (tests : List (Test Error)) →
    AllByRecursion (λ t. P t.1) tests → IfErr (answer tests (tt {0})) P
unfolding answer
of-first P [] all = tt
of-first P ((true, first) ∷ tests) all = all.0
of-first P ((false, first) ∷ tests) all = of-first P tests all.1

-- and so of the one that is returned
pub one-of : {Error : Type 0} (P : Error → Type 0) (tests : List (Test Error)) (e : Error) →
    AllByRecursion (λ t. P t.1) tests → answer tests (tt {0}) ≡ Err e → P e
one-of P tests e all is = IfErr-at_err P is (of-first P tests all)

if-both : {A Error : Type 0} (r : Result A Error) (P Q R : Error → Type 0) →
    ((e : Error) → P e → Q e → R e) → IfErr r P → IfErr r Q → IfErr r R
if-both (Ok value) P Q R then p q = tt
if-both (Err e) P Q R then p q = then e p q

-- what is said of the first refusal of a trace, which is never `Memory`
pub of-refused : {F M : Type 0} (two_adicity : ℕ) (params : FriParameters M) (t : StarkTrace F)
    (P Q : StarkProverError → Type 0) →
    ((e : StarkProverError) → is_memory e ≡ false → P e → Q e) →
    IfRefused two_adicity params t P → IfRefused two_adicity params t Q
of-refused two_adicity params t P Q then first = λ k log.
    let tests = tests_of_trace two_adicity params k t in
    let NoMemory = λ (e : StarkProverError). is_memory e ≡ false in
    if-both (answer tests (tt {0})) NoMemory P Q then
    (of-first NoMemory tests (refl, (refl, (refl, (refl, (refl, (refl, (refl, tt))))))))
    (first k log)

-- a result is one refusal
pub one-refusal : {A : Type 0} (r : Result A StarkProverError) (d e : StarkProverError) →
    r ≡ Err d → r ≡ Err e → d ≡ e
one-refusal r d e is same =
    let both : ◌≡◌ {A = Result _ _} (Err d) (Err e) = sym is ∙ same in cc

-- a trace of the AIR's shape
pub record IsShaped {F : Type 0} (s : Statement F) (width height : ℕ) : Type 0 where
  pub counts : not (length s.public_values == s.parts.num_public_values) ≡ false
  pub columns : width ≡ s.parts.width
  pub a_power : is_power_of_two height ≡ true

pub shaped : {F : Type 0} (s : Statement F) (width height : ℕ) →
    answer (shape_tests s width height) (tt {0}) ≡ Ok (tt {0}) → IsShaped s width height
shaped s width height passed =
    let first = passing _ _ passed in
    let second = passing _ _ first.1 in
    let third = passing _ _ second.1 in
    record {
      counts = first.0;
      columns = same_count width s.parts.width second.0;
      a_power = not-false (is_power_of_two height) third.0;
    }

-- of sizes that pass, with parameters that are supported
pub sized : {F M : Type 0} (two_adicity : ℕ) (params : FriParameters M) (k : ℕ) (s : Statement F)
    (width height : ℕ) → IsShaped s width height → IsLogOfChunks (degree_of_parts s.parts) k →
    answer (size_tests two_adicity params k s.log_n s.parts.periodic_columns) (tt {0})
    ≡ Ok (tt {0}) → IsProvable two_adicity params s k
sized two_adicity params k s width height shape log passed =
    let first = passing _ _ passed in
    let second = passing _ _ first.1 in
    let third = passing _ _ second.1 in
    provable {Opening = Unit {0}} two_adicity params k s log
    (skipped _ _ (tt {0}) shape.counts ∙ skipped _ _ (tt {0}) first.0
    ∙ skipped _ _ (tt {0}) second.0 ∙ skipped _ _ (tt {0}) third.0 ∙ answer-none (tt {0}))

-- and the parameters are supported
pub supported : {F M : Type 0} (two_adicity : ℕ) (params : FriParameters M) (k n : ℕ)
    (columns : List (List F)) →
    answer (size_tests two_adicity params k n columns) (tt {0}) ≡ Ok (tt {0}) →
    is_unfit params ≡ false
supported two_adicity params k n columns passed =
    let first = passing _ _ passed in
    let second = passing _ _ first.1 in
    let third = passing _ _ second.1 in
    (passing _ _ third.1).0

-- the logarithm of a power of two
pub log-is : (height n : ℕ) → 2 ^ n ≡ height → n < 64 → n ≡ log_of height
log-is height n power small = sym (ap log_of (sym power) ∙ log_of-power n small)
