-- Results of tests that come one after another.
use Rattle.std.proofs.Common.{◌≡◌, ℕ, ◌+◌, ◌<◌, true, false, List, [], ◌∷◌, ◌++◌, drop, length}
use Rattle.std.proofs.Common.{flat_map, get_or, refl, sym, ap, ◌∙◌}
use Rattle.std.proofs.lemmas.List.{drop_more}
use Rattle.std.proofs.lemmas.List.Elements.{All-nil, All-cons}
use Rattle.std.specs.Prelude.{Result, Ok, Err, All, IsErrAnd}
use Rattle.std.specs.Result.{result_and}
use Rattle.circle_relation.specs.TestsInOrder.{Test, answer}

-- the first part decides where it refuses, else the others do
pub answer-append : {A E : Type 0} (xs ys : List (Test E)) (v : A) → answer (xs ++ ys) v
    ≡ result_and (answer xs (tt {0})) (answer ys v)
unfolding answer
answer-append [] ys v = refl
answer-append ((true, e) ∷ xs) ys v = refl
answer-append ((false, e) ∷ xs) ys v = answer-append xs ys v

module _ {A E : Type 0} (t : Test E) (ts : List (Test E)) (v : A) where
  -- a test that there is no reason for leaves the result to the others, and one that there is
  -- reason for gives it
  pub skipped : t.0 ≡ false → answer (t ∷ ts) v ≡ answer ts v
  unfolding answer
  skipped none = ap (λ b. answer ((b, t.1) ∷ ts) v) none

  pub refusing : t.0 ≡ true → answer (t ∷ ts) v ≡ Err t.1
  unfolding answer
  refusing some = ap (λ b. answer ((b, t.1) ∷ ts) v) some

-- no tests
pub answer-none : {A E : Type 0} (v : A) → answer {E = E} [] v ≡ Ok v
unfolding answer
answer-none v = refl

-- what is handed on is the refusal itself
pub refused-is : {A E : Type 0} (r : Result A E) (e : E) → IsErrAnd r (λ x. x ≡ e) → r ≡ Err e
refused-is (Ok x) e same = elim same [ ]
refused-is (Err x) e same = ap Err same

-- tests that refuse nothing return the value, others their refusal, whatever the value
pub passed-value : {A E : Type 0} (ts : List (Test E)) (v w : A) → answer ts v ≡ Ok w →
    (answer ts (tt {0}) ≡ Ok (tt {0})) × (v ≡ w)
unfolding answer
passed-value [] v w is = (refl, cc)
passed-value ((true, e) ∷ ts) v w is = cc
passed-value ((false, e) ∷ ts) v w is = passed-value ts v w is

pub refused-value : {A E : Type 0} (ts : List (Test E)) (v : A) (e : E) → answer ts v ≡ Err e →
    answer ts (tt {0}) ≡ Err e
unfolding answer
refused-value [] v e is = cc
refused-value ((true, d) ∷ ts) v e is = cc
refused-value ((false, d) ∷ ts) v e is = refused-value ts v e is

-- tests of which none refuses
pub passing : {E : Type 0} (t : Test E) (ts : List (Test E)) → answer (t ∷ ts) (tt {0})
    ≡ Ok (tt {0}) → (t.0 ≡ false) × (answer ts (tt {0}) ≡ Ok (tt {0}))
unfolding answer
passing (true, e) ts is = cc
passing (false, e) ts is = (refl, is)

pub both-pass : {E : Type 0} (r s : Result (Unit {0}) E) → result_and r s ≡ Ok (tt {0}) →
    (r ≡ Ok (tt {0})) × (s ≡ Ok (tt {0}))
both-pass (Ok u) s is = (refl, is)
both-pass (Err e) s is = cc

module _ {X E : Type 0} (tests : X → List (Test E)) where
  -- an item and those after it
  pub answer-item : (xs : List X) (i : ℕ) (x : X) → i < length xs → x ≡ get_or xs i x →
      answer {A = Unit {0}} (flat_map tests (drop i xs)) (tt {0})
      ≡ result_and (answer (tests x) (tt {0}))
      (answer (flat_map tests (drop (i + 1) xs)) (tt {0}))
  answer-item xs i x within is =
      ap (λ ys. answer {A = Unit {0}} (flat_map tests ys) (tt {0})) (drop_more xs i x within
      ∙ ap (λ v. v ∷ drop (i + 1) xs) (sym is))
      ∙ answer-append (tests x) (flat_map tests (drop (i + 1) xs)) (tt {0})

  -- where no item is refused each passes
  pub each-passes : (xs : List X) → answer (flat_map tests xs) (tt {0}) ≡ Ok (tt {0}) →
      All (λ x. answer (tests x) (tt {0}) ≡ Ok (tt {0})) xs
  each-passes [] passed = All-nil (λ x. answer (tests x) (tt {0}) ≡ Ok (tt {0}))
  each-passes (x ∷ xs) passed =
      let both = both-pass (answer (tests x) (tt {0})) (answer (flat_map tests xs) (tt {0}))
      (sym (answer-append (tests x) (flat_map tests xs) (tt {0})) ∙ passed) in
      All-cons (λ y. answer (tests y) (tt {0}) ≡ Ok (tt {0})) x xs both.0 (each-passes xs both.1)
