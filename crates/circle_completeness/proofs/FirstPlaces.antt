-- Where a number stands among those that a test keeps; and where a query's row stands.
use Rattle.std.specs.Prelude.{◌≡◌, ℕ, ◌+◌, ◌/◌, ◌^◌, ◌<◌, ◌≤◌, Bool, true, false, nat_lt, List, ◌∷◌}
use Rattle.std.specs.Prelude.{length, slice_get, Some}
use Rattle.std.specs.List.{filter, range_with_len}
use Rattle.std.proofs.Common.{zero, suc, refl, sym, ◌∙◌, ap, subst, cond, arith, ⊎_elim}
use Rattle.std.proofs.lemmas.Bool.{cases_eq, le-ltb, lt-ltb}
use Rattle.std.proofs.lemmas.Nat.{shr-shr}

module _ (p : ℕ → Bool) where
  abbrev below : ℕ → List ℕ → List ℕ
  below h hs = filter (λ g. nat_lt g h) hs

  -- of the numbers from a on none is below a
  none-below : (a n h : ℕ) → h ≤ a → length (below h (filter p (range_with_len a n))) ≡ 0
  none-below a zero h le = refl
  none-below a (suc n) h le =
      let rest = filter p (range_with_len (a + 1) n) in
      let none : length (below h rest) ≡ 0 = none-below (a + 1) n h (omega arith) in
      let here : length (below h (a ∷ rest)) ≡ 0 =
      ap (λ b. length (cond b (a ∷ below h rest) (below h rest))) (le-ltb a h le) ∙ none in
      elim (p a) as (λ b. length (below h (cond b (a ∷ rest) rest)) ≡ 0)
      [ true ↦ here | false ↦ none ]

  -- a number that the test keeps stands at the place that those below it leave
  pub place-there : (a n h : ℕ) → p h ≡ true → a ≤ h → h < a + n →
      slice_get (filter p (range_with_len a n)) (length (below h (filter p (range_with_len a n))))
      ≡ Some h
  place-there a zero h is low high = absurd (omega (arith, low, high))
  place-there a (suc n) h is low high =
      let rest = filter p (range_with_len (a + 1) n) in
      let At : List ℕ → Type 0 = λ hs. slice_get hs (length (below h hs)) ≡ Some h in
      ⊎_elim
      (λ same.
      subst (λ b. At (cond b (a ∷ rest) rest)) (sym (ap p same ∙ is))
      (ap (λ b. slice_get (a ∷ rest) (length (cond b (a ∷ below h rest) (below h rest))))
      (le-ltb a h (omega (arith, same)))
      ∙ ap (slice_get (a ∷ rest)) (none-below (a + 1) n h (omega (arith, same))) ∙ ap Some same))
      (λ other.
      let less : a < h = omega (arith, low, other) in
      let more : At rest = place-there (a + 1) n h is (omega (arith, less)) (omega (arith, high)) in
      elim (p a) as (λ b. At (cond b (a ∷ rest) rest)) [
        | true ↦ ap (λ b. slice_get (a ∷ rest) (length (cond b (a ∷ below h rest) (below h rest))))
            (lt-ltb a h less) ∙ more
        | false ↦ more
      ])
      (cases_eq a h)

-- half of a query's place is the place of half the query
pub half-place : (q a b : ℕ) → a ≡ b → q / 2 / 2 ^ a ≡ q / 2 ^ b / 2
half-place q a b same =
    let swap : 1 + a ≡ a + 1 = omega arith in
    shr-shr q 1 a ∙ ap (λ n. q / 2 ^ n) swap ∙ sym (shr-shr q a 1) ∙ ap (λ n. q / 2 ^ n / 2) same
