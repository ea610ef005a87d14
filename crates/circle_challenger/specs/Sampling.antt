-- Values that a challenger gives, one after another.
use Rattle.std.specs.Prelude.{ℕ, List, [], ◌∷◌}
use Rattle.std.proofs.Common.{zero, suc}

module _ {S A : Type 0} where
  -- the next n values
  unfoldable pub samples : (S → A) → (S → S) → ℕ → S → List A
  samples sampled after_sample zero s = []
  samples sampled after_sample (suc n) s =
      sampled s ∷ samples sampled after_sample n (after_sample s)

-- the state after n values
unfoldable pub after_samples : {S : Type 0} → (S → S) → ℕ → S → S
after_samples after_sample zero s = s
after_samples after_sample (suc n) s = after_samples after_sample n (after_sample s)
