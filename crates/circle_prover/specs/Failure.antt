-- Why there is no opening once the challenger is seeded.
use Rattle.std.specs.Prelude.{◌≡◌, ℕ, ◌+◌, ◌-◌, ◌<◌, ◌⊎◌, List, [], ◌∷◌, length, map, Some}
use Rattle.std.specs.Prelude.{slice_get, Vec}
use Rattle.std.specs.declared.alloc.Global.{Global}
use Rattle.circle_challenger.specs.Moves.{RunMoves, after_element, drawn_element, found_at}
use Rattle.circle_commit.specs.declared.params.PowPhase.{PowPhase}
use Rattle.circle_commit.specs.declared.params.PowPhase.TheVariants.{Batch, CommitPhase, Query}
use Rattle.circle_commit.specs.declared.params.FriParameters.{FriParameters}
use Rattle.circle_commit.specs.declared.matrix.RowMajorMatrix.{RowMajorMatrix}
use Rattle.circle_domain.specs.Spans.{HasXValues}
use Rattle.circle_relation.specs.Taken.{claims_taken, shape_by}
use Rattle.circle_prover.specs.Words.{EndsHigh, IsCommitmentOf, heights_of, layer_of, round_word}
use Rattle.circle_prover.specs.Words.{top_of, word_at}
use Rattle.circle_relation.specs.declared.error.ProverError.{ProverError}
use Rattle.circle_relation.specs.declared.error.ProverError.TheVariants.{Memory}
use Rattle.circle_relation.specs.declared.error.ProverError.TheVariants.{LastWordNotConstant}
use Rattle.circle_relation.specs.declared.error.ProverError.TheVariants.{NoGrindingWitness}
use Rattle.circle_transcript.specs.Draw.{Claim, Taken, AreFound, after_claims, batched, claimed}
use Rattle.circle_transcript.specs.Draw.{layered, closed, after_rounds, fold_challenges, seeded}
use Rattle.circle_relation.specs.Accepts.{Fields}
use Rattle.circle_relation.specs.Statement.{BatchClaim}
use Rattle.circle_transcript.specs.Numbers.{numbers_of}
use Rattle.circle_transcript.specs.Runs.{NonePasses}
use Rattle.circle_transcript.specs.declared.transcript.Numbers.{Numbers}
use Rattle.circle_transcript.specs.Transcript.{current, numbers}
use Rattle.circle_transcript.specs.declared.transcript.CircleTranscript.{CircleTranscript}
use Rattle.circle_codewords.specs.Words.{Committed, pairs_of}

-- the last codeword of these matrices is of too high degree
abbrev pub IsTooHigh : {F E : Type 0} → Fields F E → ℕ → ℕ → List (Committed F E) → ProverError
    → Type 0
IsTooHigh k blowup final matrices e =
    (e ≡ LastWordNotConstant) × EndsHigh k blowup final matrices

module _ {C S F E Com : Type 0} (r : RunMoves C S F E Com)
    (Commits : List (RowMajorMatrix E) → Com → Type 0) where
  -- rounds from a state on: each commitment is of the round's codeword under the challenges before
  -- it, and each witness is the one that the search in its state finds
  pub record AreRoundsOf (bits : ℕ) (begun : S) (word : List E → ℕ → List E)
      (rounds : List (Com × F)) (betas : List E) : Type 0 where
    pub found : AreFound r bits begun rounds
    pub drawn : map r.base.coefficients betas ≡ fold_challenges r bits begun rounds
    pub committed : (i : ℕ) (round : Com × F) → slice_get rounds i ≡ Some round
        → IsCommitmentOf Commits (pairs_of (word betas i) ∷ []) round.0

  -- after some of `count` rounds the next codeword is committed to, and then no witness passes
  pub record IsStuckAfter (bits : ℕ) (begun : S) (word : List E → ℕ → List E) (count : ℕ)
      : Type 0 where
    pub rounds : List (Com × F)
    pub betas : List E
    pub played : AreRoundsOf bits begun word rounds betas
    pub fewer : length rounds < count
    pub commitment : Com
    pub next : IsCommitmentOf Commits (pairs_of (word betas (length rounds)) ∷ []) commitment
    pub none :
        NonePasses r.base (r.after_commitment (after_rounds r bits begun rounds) commitment) bits

  -- the run of an opening of matrices, from the state after its seed on, over its claims: the
  -- witnesses are those that its searches find, and what is committed to are the codewords under
  -- the challenges that were drawn before
  module _ {M : Type 0} (k : Fields F E) (p : FriParameters M) (matrices : List (Committed F E))
      (n : Numbers) (claims : List (Claim E)) (s : S) where
    -- it comes to the challenge that batches, commits to the codewords of the first layer, and
    -- comes to the challenge that folds them
    pub record Begins (taken : Taken F E Com) (alpha bivariate : E) : Type 0 where
      pub same : taken.claims ≡ claims
      pub found :
          found_at r.base (claimed r n taken s) n.batch_pow_bits ≡ Some taken.batch_witness
      pub batching : r.base.coefficients alpha ≡ drawn_element r.base (batched r n taken s)
      pub first_layer :
          IsCommitmentOf Commits
          (map (layer_of k p.log_blowup matrices alpha) (heights_of matrices)) taken.first_layer
      pub folding : r.base.coefficients bivariate ≡ drawn_element r.base (layered r n taken s)

    -- its state before the rounds, and how many there are
    abbrev pub before_rounds : Taken F E Com → S
    before_rounds taken = after_element r.base (layered r n taken s)

    abbrev pub round_count : ℕ
    round_count = top_of matrices - 1 - p.log_blowup - p.log_final_poly_len

    -- one of its rounds is stuck
    pub record IsStuckInRounds : Type 0 where
      pub taken : Taken F E Com
      pub alpha : E
      pub bivariate : E
      pub begins : Begins taken alpha bivariate
      pub stuck :
          IsStuckAfter n.commit_pow_bits (before_rounds taken)
          (round_word k p.log_blowup matrices alpha bivariate) round_count

    -- it absorbs the coefficients of its last codeword, and its queries are stuck
    pub record IsStuckInQuery : Type 0 where
      pub taken : Taken F E Com
      pub alpha : E
      pub bivariate : E
      pub betas : List E
      pub begins : Begins taken alpha bivariate
      pub played :
          AreRoundsOf n.commit_pow_bits (before_rounds taken)
          (round_word k p.log_blowup matrices alpha bivariate) taken.rounds betas
      pub all : length taken.rounds ≡ round_count
      pub final_poly :
          HasXValues k.field k.gen k.extension k.embed p.log_final_poly_len
          (p.log_blowup + p.log_final_poly_len)
          (round_word k p.log_blowup matrices alpha bivariate betas round_count) taken.final_poly
      pub none : NonePasses r.base (closed r n taken s) n.query_pow_bits

    -- it comes to a proof of work of this phase that no witness passes
    abbrev pub FindsNone : PowPhase → Type 0
    FindsNone Batch = NonePasses r.base (after_claims r.base s claims) n.batch_pow_bits
    FindsNone CommitPhase = IsStuckInRounds
    FindsNone Query = IsStuckInQuery

    -- the refusal names a phase of which no witness passes
    abbrev pub IsStuck : ProverError → Type 0
    IsStuck e = (phase : PowPhase) × (e ≡ NoGrindingWitness phase) × FindsNone phase

  -- memory is refused, or no witness passes: in the round of a codeword; in one of several rounds,
  -- the first of a codeword of 2^h entries, whatever is folded from the heights
  module _ {Side : Type 0} {g d : _} (t : CircleTranscript C F E Com Side S g d) where
    abbrev pub IsRoundFailure : List E → ProverError → Type 0
    IsRoundFailure word e = (e ≡ Memory) ⊎ ((e ≡ NoGrindingWitness CommitPhase)
        × (commitment : Com) × IsCommitmentOf Commits (pairs_of word ∷ []) commitment
        × NonePasses r.base (r.after_commitment (r.base.state (current t)) commitment)
        (numbers t).commit_pow_bits)

    abbrev pub IsRoundsFailure : Fields F E → List ℕ → List (Vec E Global) → ℕ → List E → ℕ
        → ProverError → Type 0
    IsRoundsFailure k heights folded h first count e =
        (e ≡ Memory) ⊎ ((e ≡ NoGrindingWitness CommitPhase)
        × ((f : ℕ → List E) → map (λ w. w.items) folded ≡ map f heights →
        IsStuckAfter (numbers t).commit_pow_bits (r.base.state (current t))
        (word_at k heights f h first) count))

  -- so it does in the run over claims on matrices under these parameters, before it is seeded
  abbrev pub IsStuckFrom : {M InputCom : Type 0} → Fields F E → FriParameters M
      → List (Committed F E) → List (BatchClaim InputCom E) → S → ProverError → Type 0
  IsStuckFrom k p matrices claims s e =
      let shape = shape_by p claims in
      IsStuck k p matrices (numbers_of shape) (claims_taken k.extension claims) (seeded r shape s) e
