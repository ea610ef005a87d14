-- The least number that passes a test.
use Rattle.std.specs.Prelude.{◌≡◌, ℕ, ◌<◌, Bool, true, false, Option, Some, None, refl}
use Rattle.std.proofs.Common.{zero, suc, sym, ap, ◌∙◌, inl, inr, arith, subst}
use Rattle.std.proofs.lemmas.Bool.{cases_eq}

-- what was found before n, or n where it passes
abbrev pub found_or : Option ℕ → Bool → ℕ → Option ℕ
found_or (Some k) passes n = Some k
found_or None true n = Some n
found_or None false n = None

-- the least number below n that passes the test, if one does
unfoldable pub least : (ℕ → Bool) → ℕ → Option ℕ
least test zero = None
least test (suc n) = found_or (least test n) (test n) n

module _ (test : ℕ → Bool) where
  -- where none passes there is none
  pub least-none : (n : ℕ) → ((k : ℕ) → k < n → test k ≡ false) → least test n ≡ None
  unfolding least
  least-none zero h = refl
  least-none (suc n) h =
      ap (λ o. found_or o (test n) n) (least-none n (λ k below. h k (omega arith)))
      ∙ ap (λ b. found_or None b n) (h n (omega arith))

  -- what passes, where none below does, is the least
  pub least-some : (n m : ℕ) → m < n → test m ≡ true → ((k : ℕ) → k < m → test k ≡ false) →
      least test n ≡ Some m
  unfolding least
  least-some zero m below passes h = absurd (omega arith)
  least-some (suc n) m below passes h =
      elim (cases_eq m n) [
        | inl same ↦
            let none : least test n ≡ None =
            subst (λ x. least test x ≡ None) same (least-none m h) in
            ap (λ o. found_or o (test n) n) none
            ∙ ap (λ b. found_or None b n) (subst (λ x. test x ≡ true) same passes)
            ∙ ap Some (sym same)
        | inr other ↦ ap (λ o. found_or o (test n) n) (least-some n m (omega arith) passes h)
      ]
