-- Proofs of work as functions of a challenger's state.
use Rattle.std.specs.Prelude.{ℕ, Bool, true, ◌==◌, if◌then◌else◌}

module _ {S F : Type 0} (after_observe : S → F → S) where
  -- whether the witness passes at the difficulty: after it is absorbed, that number of sampled bits
  -- are zero
  abbrev pub passes : (S → ℕ → ℕ) → S → ℕ → F → Bool
  passes sampled_bits s bits w = if bits ==
      0 then true else sampled_bits (after_observe s w) bits == 0

  -- the state after the check of a witness
  abbrev pub after_check : (S → ℕ → S) → S → ℕ → F → S
  after_check after_bits s bits w = if bits == 0 then s else after_bits (after_observe s w) bits
