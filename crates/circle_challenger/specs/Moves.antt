-- What a challenger is to a transcript: how it moves from state to state, and what it gives.
use Rattle.std.specs.Prelude.{ℕ, Bool, ◌==◌, if◌then◌else◌, List, flat_map, map}
use Rattle.std.specs.Prelude.{Option, Some, unwrap_or}
use Rattle.circle_challenger.specs.Grinding.{passes, after_check}
use Rattle.circle_challenger.specs.Observing.{after_all}
use Rattle.circle_challenger.specs.Sampling.{samples, after_samples}

-- a challenger of type C, with states S, over the base field F, in a transcript whose challenges
-- are in the extension E: its state, the state after an element is absorbed, what is drawn, of
-- elements and of bits, with the state after it, the witness that a search at a difficulty finds,
-- and what is known of the fields
pub record Moves (C S F E : Type 0) : Type 0 where
  pub state : C → S
  pub after_observe : S → F → S
  pub sampled : S → F
  pub after_sample : S → S
  pub sampled_bits : S → ℕ → ℕ
  pub after_bits : S → ℕ → S
  pub found : S → ℕ → Option F
  pub degree : ℕ
  pub coefficients : E → List F
  pub of_nat : ℕ → F
  pub zero : F

-- such a challenger from its parts
abbrev pub moves : {C S F E : Type 0} → (C → S) → (S → F → S) → (S → F) → (S → S) → (S → ℕ → ℕ)
    → (S → ℕ → S) → (S → ℕ → Option F) → ℕ → (E → List F) → (ℕ → F) → F → Moves C S F E
moves state after_observe sampled after_sample sampled_bits after_bits found
    degree coefficients of_nat zero = record {
      state = state;
      after_observe = after_observe;
      sampled = sampled;
      after_sample = after_sample;
      sampled_bits = sampled_bits;
      after_bits = after_bits;
      found = found;
      degree = degree;
      coefficients = coefficients;
      of_nat = of_nat;
      zero = zero;
    }

-- the same, and the state after a commitment is absorbed
pub record RunMoves (C S F E Com : Type 0) : Type 0 where
  pub base : Moves C S F E
  pub after_commitment : S → Com → S

abbrev pub run_moves : {C S F E Com : Type 0} → (C → S) → (S → F → S) → (S → Com → S)
    → (S → F) → (S → S)
    → (S → ℕ → ℕ) → (S → ℕ → S) → (S → ℕ → Option F) → ℕ → (E → List F) → (ℕ → F) → F
    → RunMoves C S F E Com
run_moves state after_observe after_commitment sampled after_sample sampled_bits after_bits found
    degree coefficients of_nat zero = record {
      base =
          moves state after_observe sampled after_sample sampled_bits after_bits found
          degree coefficients of_nat zero;
      after_commitment = after_commitment;
    }

module _ {C S F E : Type 0} (m : Moves C S F E) where
  -- the state after bytes were absorbed, each as an element of the base field
  abbrev pub after_bytes : S → List ℕ → S
  after_bytes s bytes = after_all m.after_observe s (map m.of_nat bytes)

  -- the state after elements of the extension were absorbed, the coefficients of each in order
  abbrev pub after_elements : S → List E → S
  after_elements s xs = after_all m.after_observe s (flat_map m.coefficients xs)

  -- an element of the extension that is drawn, as its coefficients, and the state after it
  abbrev pub drawn_element : S → List F
  drawn_element s = samples m.sampled m.after_sample m.degree s

  abbrev pub after_element : S → S
  after_element s = after_samples m.after_sample m.degree s

  -- `count` numbers of `width` bits that are drawn, and the state after them
  abbrev pub drawn_numbers : ℕ → ℕ → S → List ℕ
  drawn_numbers width count s =
      samples (λ t. m.sampled_bits t width) (λ t. m.after_bits t width) count s

  abbrev pub after_numbers : ℕ → ℕ → S → S
  after_numbers width count s = after_samples (λ t. m.after_bits t width) count s

  -- whether a witness passes at the difficulty, and the state after its check
  abbrev pub is_passed : S → ℕ → F → Bool
  is_passed s bits w = passes m.after_observe m.sampled_bits s bits w

  abbrev pub after_pow : S → ℕ → F → S
  after_pow s bits w = after_check m.after_observe m.after_bits s bits w

  -- the witness that a search finds at the difficulty, if one passes: 0 where none is needed
  abbrev pub found_at : S → ℕ → Option F
  found_at s bits = if bits == 0 then Some m.zero else m.found s bits

  -- the witness that was looked for, or 0 where none was needed
  abbrev pub or_zero : Option F → F
  or_zero w = unwrap_or w m.zero
