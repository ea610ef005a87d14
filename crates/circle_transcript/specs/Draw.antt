-- What a run draws, as functions of the challenger's state.
use Rattle.std.specs.Prelude.{◌≡◌, ℕ, ◌<◌, ◌≤◌, ◌^◌, Bool, Some, true, ◌&&◌, if◌then◌else◌, List}
use Rattle.std.specs.Prelude.{[], ◌∷◌, length}
use Rattle.std.specs.Prelude.{map}
use Rattle.std.specs.Prelude.{flat_map, Result, Ok, Err}
use Rattle.circle_field.specs.Circle.{Coordinates}
use Rattle.circle_commit.specs.declared.params.PowPhase.{PowPhase}
use Rattle.circle_commit.specs.declared.params.PowPhase.TheVariants.{Batch, CommitPhase, Query}
use Rattle.circle_challenger.specs.Observing.{after_all}
use Rattle.circle_challenger.specs.Moves.{Moves, RunMoves, after_bytes, after_elements}
use Rattle.circle_challenger.specs.Moves.{drawn_element, after_element, drawn_numbers}
use Rattle.circle_challenger.specs.Moves.{after_numbers, is_passed, after_pow, found_at}
use Rattle.circle_transcript.specs.declared.transcript.Numbers.{Numbers}
use Rattle.circle_transcript.specs.Shape.{Shape, text_of}
use Rattle.circle_transcript.specs.Numbers.{numbers_of}

-- a claim: a point and the values there
pub record Claim (E : Type 0) : Type 0 where
  pub point : Coordinates E
  pub values : List E

abbrev pub claim : {E : Type 0} → Coordinates E → List E → Claim E
claim point values = record { point = point; values = values }

-- the number of columns of each claim
abbrev pub widths_of : {E : Type 0} → List (Claim E) → List ℕ
widths_of claims = map (λ c. length c.values) claims

-- what is absorbed of a claim: the point's coordinates, and the values
abbrev pub claim_elements : {E : Type 0} → Claim E → List E
claim_elements c = c.point.x ∷ c.point.y ∷ c.values

-- what a run absorbs: the claims and the witness after them, the commitment to the first layer,
-- each round's commitment and witness, and the coefficients of the final polynomial and the witness
-- after them
pub record Taken (F E Com : Type 0) : Type 0 where
  pub claims : List (Claim E)
  pub batch_witness : F
  pub first_layer : Com
  pub rounds : List (Com × F)
  pub final_poly : List E
  pub query_witness : F

abbrev pub taken : {F E Com : Type 0} → List (Claim E) → F → Com → List (Com × F) → List E → F
    → Taken F E Com
taken claims batch_witness first_layer rounds final_poly query_witness = record {
  claims = claims;
  batch_witness = batch_witness;
  first_layer = first_layer;
  rounds = rounds;
  final_poly = final_poly;
  query_witness = query_witness;
}

-- what a run draws, elements as their coefficients, and the state after it
pub record Drawn (S F : Type 0) : Type 0 where
  pub alpha : List F
  pub bivariate : List F
  pub betas : List (List F)
  pub indices : List ℕ
  pub state : S

-- the state after the claims, whose elements are absorbed by their coefficients
unfoldable pub after_claims_by : {S F E : Type 0} → (S → F → S) → (E → List F) → S → List (Claim E)
    → S
after_claims_by after_observe coefficients s claims =
    after_all after_observe s (flat_map coefficients (flat_map claim_elements claims))

-- what a proof of work guards, where its witness passes, or else its phase
abbrev pub guarded : {A : Type 0} → PowPhase → Bool → A → Result A PowPhase
guarded phase passed a = if passed then Ok a else Err phase

-- what follows where nothing is refused
abbrev pub and_then : {A B : Type 0} → Result A PowPhase → (A → Result B PowPhase)
    → Result B PowPhase
and_then (Ok a) next = next a
and_then (Err phase) next = Err phase

-- numbers are drawn below the power of two of their number of bits
abbrev pub DrawsInRange : {C S F E Com : Type 0} → RunMoves C S F E Com → Type 0
DrawsInRange {S = S} r = (s : S) (bits : ℕ) → bits ≤ 63 → r.base.sampled_bits s bits < 2 ^ bits

module _ {C S F E : Type 0} (m : Moves C S F E) where
  -- the state after the claims
  abbrev pub after_claims : S → List (Claim E) → S
  after_claims s claims = after_claims_by m.after_observe m.coefficients s claims

  -- the state after the final polynomial's coefficients
  abbrev pub after_final_poly : S → List E → S
  after_final_poly s final_poly = after_elements m s final_poly

  -- the query indices, and the state after them
  abbrev pub drawn_indices : Numbers → S → List ℕ
  drawn_indices n s = drawn_numbers m n.index_bits n.num_queries s

  abbrev pub after_indices : Numbers → S → S
  after_indices n s = after_numbers m n.index_bits n.num_queries s

  -- a challenge or the query indices, with the state after them
  abbrev pub element : S → List F × S
  element s = (drawn_element m s, after_element m s)

  abbrev pub indices : Numbers → S → List ℕ × S
  indices n s = (drawn_indices n s, after_indices n s)

  -- the phase of the claims, which draws the challenge that batches them
  abbrev pub batch_phase : Numbers → S → List (Claim E) → F → Result (List F × S) PowPhase
  batch_phase n s claims w =
      guarded Batch (is_passed m (after_claims s claims) n.batch_pow_bits w)
      (element (after_pow m (after_claims s claims) n.batch_pow_bits w))

  -- the phase of the final polynomial, which draws the query indices
  abbrev pub query_phase : Numbers → S → List E → F → Result (List ℕ × S) PowPhase
  query_phase n s final_poly w =
      guarded Query (is_passed m (after_final_poly s final_poly) n.query_pow_bits w)
      (indices n (after_pow m (after_final_poly s final_poly) n.query_pow_bits w))

module _ {C S F E Com : Type 0} (r : RunMoves C S F E Com) where
  -- the first layer's commitment, and the challenge that folds that layer
  abbrev pub first_layer : S → Com → List F × S
  first_layer s commitment = element r.base (r.after_commitment s commitment)

  -- a round: its commitment, and the challenge that folds what it commits to
  abbrev pub commit_round : ℕ → S → Com → F → Result (List F × S) PowPhase
  commit_round bits s commitment w =
      guarded CommitPhase (is_passed r.base (r.after_commitment s commitment) bits w)
      (element r.base (after_pow r.base (r.after_commitment s commitment) bits w))

  -- rounds one after another
  unfoldable pub play_rounds : ℕ → S → List (Com × F) → Result (List (List F) × S) PowPhase
  play_rounds bits s [] = Ok ([], s)
  play_rounds bits s (round ∷ rounds) =
      and_then (commit_round bits s round.0 round.1) (λ first.
      and_then (play_rounds bits first.1 rounds) (λ rest. Ok (first.0 ∷ rest.0, rest.1)))

  -- a run from the state after its seed, phase by phase: what it draws, or the phase of the first
  -- witness that doesn't pass
  unfoldable pub draw_seeded : Numbers → Taken F E Com → S → Result (Drawn S F) PowPhase
  draw_seeded n taken s =
      and_then (batch_phase r.base n s taken.claims taken.batch_witness) (λ batch.
      let layer = first_layer batch.1 taken.first_layer in
      and_then (play_rounds n.commit_pow_bits layer.1 taken.rounds) (λ rounds.
      and_then (query_phase r.base n rounds.1 taken.final_poly taken.query_witness) (λ queries.
      Ok (record {
        alpha = batch.0;
        bivariate = layer.0;
        betas = rounds.0;
        indices = queries.0;
        state = queries.1;
      }))))

  -- the state after a round, and its challenge
  abbrev pub after_round : ℕ → S → Com × F → S
  after_round bits s round =
      after_element r.base (after_pow r.base (r.after_commitment s round.0) bits round.1)

  abbrev pub fold_challenge : ℕ → S → Com × F → List F
  fold_challenge bits s round =
      drawn_element r.base (after_pow r.base (r.after_commitment s round.0) bits round.1)

  -- the state after rounds, and their challenges
  unfoldable pub after_rounds : ℕ → S → List (Com × F) → S
  after_rounds bits s [] = s
  after_rounds bits s (round ∷ rounds) = after_rounds bits (after_round bits s round) rounds

  unfoldable pub fold_challenges : ℕ → S → List (Com × F) → List (List F)
  fold_challenges bits s [] = []
  fold_challenges bits s (round ∷ rounds) =
      fold_challenge bits s round ∷ fold_challenges bits (after_round bits s round) rounds

  -- whether each round's witness passes
  unfoldable pub rounds_pass : ℕ → S → List (Com × F) → Bool
  rounds_pass bits s [] = true
  rounds_pass bits s (round ∷ rounds) =
      is_passed r.base (r.after_commitment s round.0) bits round.1
      && rounds_pass bits (after_round bits s round) rounds

  -- each round's witness is the one that a search in its state finds
  abbrev pub AreFound : ℕ → S → List (Com × F) → Type 0
  AreFound bits s [] = Unit {0}
  AreFound bits s (round ∷ rounds) =
      (found_at r.base (r.after_commitment s round.0) bits ≡ Some round.1)
      × AreFound bits (after_round bits s round) rounds

  module _ (n : Numbers) (taken : Taken F E Com) (s : S) where
    -- from the state after the seed, the claims and their witness
    abbrev pub claimed : S
    claimed = after_claims r.base s taken.claims

    abbrev pub batched : S
    batched = after_pow r.base claimed n.batch_pow_bits taken.batch_witness

    -- after the challenge, the commitment to the first layer
    abbrev pub layered : S
    layered = r.after_commitment (after_element r.base batched) taken.first_layer

    -- after the challenge, the rounds
    abbrev pub folded : S
    folded = after_rounds n.commit_pow_bits (after_element r.base layered) taken.rounds

    -- then the final polynomial's coefficients, and the witness
    abbrev pub closed : S
    closed = after_final_poly r.base folded taken.final_poly

    abbrev pub queried : S
    queried = after_pow r.base closed n.query_pow_bits taken.query_witness

    -- what is drawn, and the state after it
    abbrev pub drawn : Drawn S F
    drawn = record {
      alpha = drawn_element r.base batched;
      bivariate = drawn_element r.base layered;
      betas = fold_challenges n.commit_pow_bits (after_element r.base layered) taken.rounds;
      indices = drawn_indices r.base n queried;
      state = after_indices r.base n queried;
    }

  -- the state after the seed's text
  abbrev pub seeded : Shape → S → S
  seeded shape s = after_bytes r.base s (text_of r.base.degree shape)

  -- the whole run, which begins with the seed's text, each byte as an element
  abbrev pub draw : Shape → Taken F E Com → S → Result (Drawn S F) PowPhase
  draw shape taken s = draw_seeded (numbers_of shape) taken (seeded shape s)
