-- The result where tests refuse in order.
use Rattle.std.proofs.Common.{◌≡◌, List, ◌∷◌, refl, sym, ap, subst}
use Rattle.std.specs.Prelude.{Result, Ok, Err, MatchResult, IfErr, IsErrAnd, true}
use Rattle.p3_circle.specs.Committing.{RefusesInOrder}
use Rattle.circle_prover.specs.Requesting.{RefusesBefore}
use Rattle.p3_circle.specs.Scheme.{IsFirstFrom}
use Rattle.p3_circle.proofs.Verdicts.{first-by}
use Rattle.circle_relation.specs.TestsInOrder.{Test, answer}
use Rattle.circle_relation.specs.declared.error.ProverError.{ProverError}
use Rattle.circle_relation.specs.declared.error.ProverError.TheVariants.{Memory}
use Rattle.circle_relation.proofs.Answering.{refused-is, refusing}

abbrev After : {A : Type 0} → Result A ProverError → Result (Unit {0}) ProverError → Type 0
After result answered = MatchResult answered (λ passed. IfErr result (λ e. e ≡ Memory))
    (λ first. result ≡ Err first)

module _ {A : Type 0} (tests : List (Test ProverError)) (result : Result A ProverError) where
  -- a test's refusal is handed on
  pub refuses : (e : ProverError) → answer tests (tt {0}) ≡ Err e → IsErrAnd result (λ x. x ≡ e) →
      RefusesInOrder tests result
  refuses e first handed = subst (After result) (sym first) (refused-is result e handed)

  -- where none refuses only memory is refused
  pub passes : answer tests (tt {0}) ≡ Ok (tt {0}) → IfErr result (λ e. e ≡ Memory) →
      RefusesInOrder tests result
  passes passed memory = subst (After result) (sym passed) memory

  -- other tests with the same result refuse alike
  pub alike : (others : List (Test ProverError)) → answer others (tt {0}) ≡ answer tests (tt {0}) →
      RefusesInOrder others result → RefusesInOrder tests result
  alike others same refused = subst (After result) same refused

-- the first refusal is the result
pub refuses-first : (A : Type 0) (t : Test ProverError) (ts : List (Test ProverError)) →
    t.0 ≡ true → RefusesInOrder {A = A} (t ∷ ts) (Err t.1)
refuses-first A t ts some = subst (After {A = A} (Err t.1)) (sym (refusing t ts (tt {0}) some)) refl

ok-after : {A : Type 0} (x : A) (answered : Result (Unit {0}) ProverError) → After (Ok x) answered →
    answered ≡ Ok (tt {0})
ok-after x (Ok u) refused = refl
ok-after x (Err e) refused = cc

-- where a value is returned no test refuses
pub ok-passes : {A : Type 0} (tests : List (Test ProverError)) (x : A) →
    RefusesInOrder tests (Ok x) → answer tests (tt {0}) ≡ Ok (tt {0})
ok-passes tests x refused = ok-after x (answer tests (tt {0})) refused

module _ (A B : Type 0) (tests : List (Test ProverError)) where
  err-after : (e : ProverError) (answered : Result (Unit {0}) ProverError) →
      After {A = A} (Err e) answered → After {A = B} (Err e) answered
  err-after e (Ok u) refused = refused
  err-after e (Err d) refused = let same : e ≡ d = cc in ap Err same

  -- a refusal is handed on
  pub err-refuses : (result : Result B ProverError) (e : ProverError) →
      RefusesInOrder {A = A} tests (Err e) → IsErrAnd result (λ x. x ≡ e) →
      RefusesInOrder tests result
  err-refuses result e refused handed =
      subst (RefusesInOrder tests) (sym (refused-is result e handed))
      (err-after e (answer tests (tt {0})) refused)

-- memory that was refused is the only refusal
pub only-memory : {A : Type 0} (result : Result A ProverError) → IsErrAnd result (λ e. e ≡ Memory) →
    IfErr result (λ e. e ≡ Memory)
only-memory (Ok x) handed = tt
only-memory (Err e) handed = handed

module _ {A : Type 0} (tests : List (Test ProverError)) (result : Result A ProverError)
    (e : ProverError) (first : answer tests (tt {0}) ≡ Err e)
    (handed : IsErrAnd result (λ x. x ≡ e)) where
  -- where a test refuses, what comes after it isn't reached
  pub refuses-before : {C : Type 0} (old : C) → RefusesBefore tests result old old
  refuses-before old =
      subst
      (λ (a : Result (Unit {0}) ProverError). MatchResult a (λ passed. Unit {0})
      (λ d. (result ≡ Err d) × (old ≡ old))) (sym first) (refused-is result e handed, refl)

  -- the refusal is the first one
  pub is-first : {S : Type 0} (Otherwise : ProverError → Type 0) (s : S) →
      IfErr result (IsFirstFrom tests Otherwise s s)
  is-first Otherwise s =
      subst (λ (answered : Result A ProverError). IfErr answered (IsFirstFrom tests Otherwise s s))
      (sym (refused-is result e handed)) (first-by tests (Otherwise e) e s first)
