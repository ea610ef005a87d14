-- What a STARK's transcript draws before the scheme's, as functions of the challenger's state.
use Rattle.std.specs.Prelude.{◌≡◌, ℕ, List, length}
use Rattle.circle_challenger.specs.Moves.{RunMoves, after_bytes, after_element, drawn_element}
use Rattle.circle_challenger.specs.Observing.{after_all}
use Rattle.circle_stark.specs.Steps.{text_of}

-- what describes a statement to the transcript: the AIR's digest, the logarithm of the trace's
-- height, and the public values
pub record Described (F : Type 0) : Type 0 where
  pub digest : List ℕ
  pub log_n : ℕ
  pub public_values : List F

-- r is what the challenger is to a transcript of commitments Com
module _ {C S F E Com : Type 0} (r : RunMoves C S F E Com) where
  -- the state after the seed and the public values were absorbed
  abbrev pub after_statement : Described F → S → S
  after_statement d s =
      let text = text_of r.base.degree (length d.public_values) d.digest d.log_n in
      after_all r.base.after_observe (after_bytes r.base s text) d.public_values

  -- the coefficients of the challenge that is drawn once a commitment was absorbed, and the state
  -- after it
  abbrev pub challenge_after : S → Com → List F
  challenge_after s commitment = drawn_element r.base (r.after_commitment s commitment)

  abbrev pub after_challenge : S → Com → S
  after_challenge s commitment = after_element r.base (r.after_commitment s commitment)

  -- from the state old, the transcript draws alpha after the trace's commitment, and zeta after the
  -- quotient's, which leaves the state new
  pub record AreDrawn (d : Described F) (trace quotient : Com) (old : S) (alpha zeta : E) (new : S)
      : Type 0 where
    pub draws_alpha : r.base.coefficients alpha ≡ challenge_after (after_statement d old) trace
    pub draws_zeta :
        r.base.coefficients zeta
        ≡ challenge_after (after_challenge (after_statement d old) trace) quotient
    pub leaves :
        new ≡ after_challenge (after_challenge (after_statement d old) trace) quotient
