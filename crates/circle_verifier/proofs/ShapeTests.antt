-- The tests of a proof's shape, one after another.
use Rattle.std.proofs.Common.{rules, ◌≡◌, ◌≢◌, ◌==◌, ◌+◌, ◌<◌, ◌++◌, not, true, false, List, []}
use Rattle.std.proofs.Common.{◌∷◌, ℕ, drop, length, map, get_or, sym, ap, ◌∙◌}
use Rattle.std.proofs.lemmas.List.{drop_more}
use Rattle.std.proofs.lemmas.Bool.{ne_eqb}
use Rattle.std.specs.Prelude.{Result, Ok, Err}
use Rattle.std.specs.Result.{result_and}
use Rattle.circle_relation.specs.TestsInOrder.{Test, answer}
use Rattle.circle_relation.proofs.Answering.{answer-append, skipped, refusing}
use Rattle.circle_verifier.specs.Refusals.{rounds_tests, round_tests}

-- numbers that aren't the same differ
pub different : (a b : ℕ) → a ≢ b → not (a == b) ≡ true
different a b differ = ap not (ne_eqb a b differ)

-- the first part of tests, which refuses or does not
pub refused_first : {E : Type 0} (ts us : List (Test E)) (e : E) → answer ts (tt {0}) ≡ Err e →
    answer {A = Unit {0}} (ts ++ us) (tt {0}) ≡ Err e
refused_first ts us e refused = answer-append ts us (tt {0})
    ∙ ap (λ r. result_and r (answer us (tt {0}))) refused

pub passed_first : {E : Type 0} (ts us : List (Test E)) → answer ts (tt {0}) ≡ Ok (tt {0}) →
    answer {A = Unit {0}} (ts ++ us) (tt {0}) ≡ answer us (tt {0})
passed_first ts us passed = answer-append ts us (tt {0})
    ∙ ap (λ r. result_and r (answer us (tt {0}))) passed

-- five tests and others, of which one refuses and those before it do not
module _ {E : Type 0} (t u w x y : Test E) (ts : List (Test E)) where
  pub first_refuses : t.0 ≡ true → answer {A = Unit {0}} (t ∷ u ∷ w ∷ x ∷ y ∷ ts) (tt {0}) ≡ Err t.1
  first_refuses reason = refusing t (u ∷ w ∷ x ∷ y ∷ ts) (tt {0}) reason

  module _ (first : t.0 ≡ false) where
    pub second_refuses : u.0 ≡ true → answer {A = Unit {0}} (t ∷ u ∷ w ∷ x ∷ y ∷ ts) (tt {0})
        ≡ Err u.1
    second_refuses reason = skipped t (u ∷ w ∷ x ∷ y ∷ ts) (tt {0}) first
        ∙ refusing u (w ∷ x ∷ y ∷ ts) (tt {0}) reason

    module _ (second : u.0 ≡ false) where
      two_pass : answer {A = Unit {0}} (t ∷ u ∷ w ∷ x ∷ y ∷ ts) (tt {0})
          ≡ answer (w ∷ x ∷ y ∷ ts) (tt {0})
      two_pass = skipped t (u ∷ w ∷ x ∷ y ∷ ts) (tt {0}) first
          ∙ skipped u (w ∷ x ∷ y ∷ ts) (tt {0}) second

      pub third_refuses : (e : E) → answer (w ∷ []) (tt {0}) ≡ Err e →
          answer {A = Unit {0}} (t ∷ u ∷ w ∷ x ∷ y ∷ ts) (tt {0}) ≡ Err e
      third_refuses e reason = two_pass ∙ refused_first (w ∷ []) (x ∷ y ∷ ts) e reason

      module _ (third : answer (w ∷ []) (tt {0}) ≡ Ok (tt {0})) where
        pub fourth_refuses : (e : E) → answer (x ∷ []) (tt {0}) ≡ Err e →
            answer {A = Unit {0}} (t ∷ u ∷ w ∷ x ∷ y ∷ ts) (tt {0}) ≡ Err e
        fourth_refuses e reason = two_pass ∙ passed_first (w ∷ []) (x ∷ y ∷ ts) third
            ∙ refused_first (x ∷ []) (y ∷ ts) e reason

        pub fifth_refuses : answer (x ∷ []) (tt {0}) ≡ Ok (tt {0}) → y.0 ≡ true →
            answer {A = Unit {0}} (t ∷ u ∷ w ∷ x ∷ y ∷ ts) (tt {0}) ≡ Err y.1
        fifth_refuses fourth reason = two_pass ∙ passed_first (w ∷ []) (x ∷ y ∷ ts) third
            ∙ passed_first (x ∷ []) (y ∷ ts) fourth ∙ refusing y ts (tt {0}) reason

module _ {C I X : Type 0} (lengths : X → List ℕ) (queries : ℕ) where
  -- a round and those after it
  pub answer-round : (round : ℕ) (xs : List X) (i : ℕ) (x : X) → i < length xs → x ≡ get_or xs i x
      → answer {A = Unit {0}} (rounds_tests {C = C} {I = I} queries round (map lengths (drop i xs)))
      (tt {0})
      ≡ result_and (answer (round_tests queries round (lengths x)) (tt {0}))
      (answer (rounds_tests queries (round + 1) (map lengths (drop (i + 1) xs))) (tt {0}))
  unfolding rounds_tests
  answer-round round xs i x within is =
      ap (λ ys. answer {A = Unit {0}} (rounds_tests {C = C} {I = I} queries round (map lengths ys))
      (tt {0})) (drop_more xs i x within ∙ ap (λ v. v ∷ drop (i + 1) xs) (sym is))
      ∙ answer-append (round_tests queries round (lengths x))
      (rounds_tests queries (round + 1) (map lengths (drop (i + 1) xs))) (tt {0})

-- numbers that are the same do not differ
pub not_different : (a b : ℕ) → a ≡ b → not (a == b) ≡ false
not_different a b same = search rules

-- five tests of which none refuses, and others
pub answer-fifth : {E : Type 0} (t u w x y : Test E) (ts : List (Test E))
    (r : Result (Unit {0}) E) → t.0 ≡ false → u.0 ≡ false
    → answer (w ∷ []) (tt {0}) ≡ Ok (tt {0}) → answer (x ∷ []) (tt {0}) ≡ Ok (tt {0}) →
    y.0 ≡ false → r ≡ answer ts (tt {0})
    → r ≡ answer (t ∷ u ∷ w ∷ x ∷ y ∷ ts) (tt {0})
answer-fifth t u w x y ts r first second third fourth fifth others =
    others
    ∙ sym (
    skipped t (u ∷ w ∷ x ∷ y ∷ ts) (tt {0}) first
    ∙ skipped u (w ∷ x ∷ y ∷ ts) (tt {0}) second
    ∙ passed_first (w ∷ []) (x ∷ y ∷ ts) third
    ∙ passed_first (x ∷ []) (y ∷ ts) fourth
    ∙ skipped y ts (tt {0}) fifth)
