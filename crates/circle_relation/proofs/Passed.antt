-- What is known where no test has reason to refuse, and when none has.
use Rattle.std.proofs.Common.{◌≡◌, true, false, List, [], ◌∷◌, ◌++◌, refl, ap, ◌∙◌}
use Rattle.std.specs.Prelude.{Ok, Err}
use Rattle.std.specs.Result.{result_and}
use Rattle.circle_relation.specs.TestsInOrder.{Test, answer}
use Rattle.circle_relation.proofs.Answering.{answer-append, passed-value, refused-value}

-- none of the tests has reason
unfoldable pub AllPass : {E : Type 0} → List (Test E) → Type 0
AllPass [] = Unit {0}
AllPass (t ∷ ts) = (t.0 ≡ false) × AllPass ts

module _ {A E : Type 0} where
  -- then the result is the value
  pub passes : (ts : List (Test E)) (v : A) → AllPass ts → answer ts v ≡ Ok v
  unfolding answer AllPass
  passes [] v all = refl
  passes ((b, e) ∷ ts) v all = ap (λ c. answer ((c, e) ∷ ts) v) all.0 ∙ passes ts v all.1

  -- and only then
  pub passed : (ts : List (Test E)) (v w : A) → answer ts v ≡ Ok w → AllPass ts
  unfolding answer AllPass
  passed [] v w is = tt
  passed ((true, e) ∷ ts) v w is = cc
  passed ((false, e) ∷ ts) v w is = (refl, passed ts v w is)

  -- the first part refuses, or it does not and the others decide
  pub front_refuses : {B : Type 0} (xs ys : List (Test E)) (u : B) (v : A) (e : E) →
      answer xs u ≡ Err e → answer (xs ++ ys) v ≡ Err e
  front_refuses xs ys u v e is = answer-append xs ys v
      ∙ ap (λ r. result_and r (answer ys v)) (refused-value xs u e is)

  pub front_passes : {B : Type 0} (xs ys : List (Test E)) (u w : B) (v : A) → answer xs u ≡ Ok w →
      answer (xs ++ ys) v ≡ answer ys v
  front_passes xs ys u w v is = answer-append xs ys v
      ∙ ap (λ r. result_and r (answer ys v)) (passed-value xs u w is).0

-- what passes of two parts
pub pass-front : {E : Type 0} (xs ys : List (Test E)) → AllPass (xs ++ ys) → AllPass xs
unfolding AllPass
pass-front [] ys all = tt
pass-front (x ∷ xs) ys all = (all.0, pass-front xs ys all.1)

pub pass-back : {E : Type 0} (xs ys : List (Test E)) → AllPass (xs ++ ys) → AllPass ys
unfolding AllPass
pass-back [] ys all = all
pass-back (x ∷ xs) ys all = pass-back xs ys all.1

pub pass-both : {E : Type 0} (xs ys : List (Test E)) → AllPass xs → AllPass ys → AllPass (xs ++ ys)
unfolding AllPass
pass-both [] ys first second = second
pass-both (x ∷ xs) ys first second = (first.0, pass-both xs ys first.1 second)
