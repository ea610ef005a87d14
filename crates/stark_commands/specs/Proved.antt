-- What the command `prove` returns, and why it refuses an input.
use Rattle.std.specs.Prelude.{◌≡◌, ℕ, ◌+◌, ◌^◌, ◌<◌, ◌⊎◌, List, length, None, Some, replicate, Vec}
use Rattle.std.specs.declared.alloc.Global.{Global}
use Rattle.circle_air.specs.Degrees.{IsLogOfChunks, degree_of_parts}
use Rattle.circle_air.specs.Parts.{Parts, parts_of}
use Rattle.circle_air.specs.Refusal.{refusal}
use Rattle.circle_air.specs.Satisfies.{Satisfies}
use Rattle.circle_challenger.specs.Sha256Challenger.{state_of}
use Rattle.circle_challenger.specs.declared.sha256.Sha256Challenger.{Sha256Challenger}
use Rattle.circle_codewords.specs.Requests.{log_of}
use Rattle.circle_commands.specs.Preset.{Scheme}
use Rattle.circle_commands.specs.Rows.{lists, IsRectangular}
use Rattle.circle_commands.specs.Text.{IsLineOf}
use Rattle.circle_commit.specs.Matrix.{IsPowerOfTwo}
use Rattle.circle_commit.specs.Parameters.{with_scheme}
use Rattle.circle_commit.specs.RowMajorMatrix.{rows as rows_of}
use Rattle.circle_field.specs.Mersenne31.{operations}
use Rattle.circle_field.specs.declared.mersenne31.Mersenne31.{Mersenne31}
use Rattle.circle_stark.specs.Statement.{Statement}
use Rattle.circle_stark.specs.Trace.{stated}
use Rattle.circle_stark.specs.declared.error.StarkProverError.{StarkProverError}
use Rattle.circle_stark.specs.declared.error.StarkProverError.TheVariants.{Memory as OutOfMemory}
use Rattle.circle_stark.specs.declared.trace.StarkTrace.{StarkTrace}
use Rattle.stark_commands.specs.Chosen.{stark}
use Rattle.stark_commands.specs.Verified.{IsVerified, IsVerifiedFrom}
use Rattle.stark_commands.specs.Verify.{claim_form}
use Rattle.stark_commands.specs.declared.prove.Input.{Input}
use Rattle.stark_commands.specs.declared.prove.Refusal.{Refusal}
use Rattle.stark_commands.specs.declared.prove.Refusal.TheVariants.{Air, RaggedRows}
use Rattle.stark_commands.specs.declared.prove.Refusal.TheVariants.{HeightNotPowerOfTwo}
use Rattle.stark_commands.specs.declared.prove.Refusal.TheVariants.{HeightTooLarge, Prover, Memory}
use Rattle.stark_commands.specs.declared.verify.Input.{Input as Claim}

-- the parts of the AIR, and the rows
abbrev pub parts_given : Input → Parts Mersenne31
parts_given input = parts_of input.air

abbrev pub rows_given : Input → List (List Mersenne31)
rows_given input = lists input.rows.items

-- what is to be proved of the rows
abbrev pub statement_proved : Input → Statement Mersenne31
statement_proved input = record {
  parts = parts_given input;
  log_n = log_of (length (rows_given input));
  public_values = input.public_values.items;
}

-- of 2^log_n rows: there are more than 2^24, the quotient has more than 2^10 chunks, or the
-- extension or the quotient more than 2^26 points
abbrev pub IsTooLarge : ℕ → ℕ → ℕ → Type 0
IsTooLarge log_n log_blowup log_chunks =
    (24 < log_n)
    ⊎ ((10 < log_chunks) ⊎ ((26 < log_n + log_blowup) ⊎ (26 < log_n + log_chunks)))

-- rows of one length, 2^log_n of them, which aren't too many, of a quotient in 2^log_chunks chunks
pub record AreFittingRows (log_blowup log_chunks : ℕ) (rows : List (Vec Mersenne31 Global))
    (log_n : ℕ) : Type 0 where
  pub rectangular : IsRectangular (lists rows)
  pub height : length rows ≡ 2 ^ log_n
  pub log : log_n ≡ log_of (length rows)
  pub small : ¬ IsTooLarge log_n log_blowup log_chunks

-- the first reason to refuse rows
abbrev pub IsRefusalOfRows : ℕ → ℕ → List (Vec Mersenne31 Global) → Refusal → Type 0
IsRefusalOfRows log_blowup log_chunks rows RaggedRows = ¬ IsRectangular (lists rows)
IsRefusalOfRows log_blowup log_chunks rows HeightNotPowerOfTwo =
    IsRectangular (lists rows) × (¬ IsPowerOfTwo (length rows))
IsRefusalOfRows log_blowup log_chunks rows HeightTooLarge =
    IsRectangular (lists rows)
    × (IsPowerOfTwo (length rows) × IsTooLarge (log_of (length rows)) log_blowup log_chunks)
IsRefusalOfRows log_blowup log_chunks rows _ = ⊥

-- there are too many rows, points or chunks for the input's AIR and parameters
abbrev pub IsLargeInput : Input → Type 0
IsLargeInput input =
    (k : ℕ) × IsLogOfChunks (degree_of_parts (parts_given input)) k
    × IsTooLarge (log_of (length (rows_given input))) input.params.log_blowup k

-- the parts make an AIR
abbrev pub HasAir : Input → Type 0
HasAir input = refusal (parts_given input) ≡ None

-- and rows of one length, which isn't 0
abbrev pub HasRows : Input → Type 0
HasRows input = HasAir input × IsRectangular (rows_given input)

-- and a power of two of them
abbrev pub HasHeight : Input → Type 0
HasHeight input = HasRows input × IsPowerOfTwo (length (rows_given input))

-- and not too many
abbrev pub IsFitting : Input → Type 0
IsFitting input = HasHeight input × (¬ IsLargeInput input)

-- what the prover is handed is the input's, under its parameters and from a challenger in the one
-- state, which it leaves in the other, and the prover refuses it for this reason
pub record IsRefusedByProver (input : Input) (old new : List ℕ) (error : StarkProverError)
    : Type 0 where
  pub scheme : Scheme
  pub trace : StarkTrace Mersenne31
  pub start : Sha256Challenger
  pub left : Sha256Challenger
  pub params : scheme.fri_params ≡ with_scheme input.params scheme.fri_params.mmcs
  pub stated : stated trace ≡ statement_proved input
  pub rows : rows_of trace.rows ≡ rows_given input
  pub begun : state_of start ≡ old
  pub ended : state_of left ≡ new
  pub reported : ¬ (error ≡ OutOfMemory)
  pub refuses : stark.Unproved scheme trace start left error

-- why an input is refused, each where no earlier reason holds, where the prover refuses it by such
-- errors
abbrev pub IsUnprovedBy : (StarkProverError → Type 0) → Input → Refusal → Type 0
IsUnprovedBy Refuses input (Air error) = refusal (parts_given input) ≡ Some error
IsUnprovedBy Refuses input RaggedRows = HasAir input × (¬ IsRectangular (rows_given input))
IsUnprovedBy Refuses input HeightNotPowerOfTwo =
    HasRows input × (¬ IsPowerOfTwo (length (rows_given input)))
IsUnprovedBy Refuses input HeightTooLarge = HasHeight input × IsLargeInput input
IsUnprovedBy Refuses input (Prover error) = IsFitting input × Refuses error
IsUnprovedBy Refuses input Memory = ⊥

module _ (input : Input) where
  -- from a challenger in the one state, which is left in the other
  abbrev pub IsUnprovedFrom : List ℕ → List ℕ → Refusal → Type 0
  IsUnprovedFrom old new = IsUnprovedBy (IsRefusedByProver input old new) input

  -- and from a challenger that has absorbed nothing
  abbrev pub IsUnproved : Refusal → Type 0
  IsUnproved =
      IsUnprovedBy (λ error. (left : List ℕ) × IsRefusedByProver input (replicate 32 0) left error)
      input

-- the rows satisfy the AIR, and the claim is of their number, of this AIR, these parameters and
-- public values
pub record IsClaimOf (input : Input) (claim : Claim) : Type 0 where
  pub air : parts_of claim.air ≡ parts_given input
  pub height : length (rows_given input) ≡ 2 ^ claim.log_n
  pub params : claim.params ≡ input.params
  pub public : claim.public_values ≡ input.public_values
  pub satisfies :
      Satisfies operations (parts_given input) (rows_given input) input.public_values.items

module _ (input : Input) where
  -- the rows satisfy the AIR, and the claim is of them, with a proof that the verifier accepts from
  -- a challenger in the one state, and leaves it in the other
  pub record IsProvedFrom (claim : Claim) (old new : List ℕ) : Type 0 where
    pub claims : IsClaimOf input claim
    pub verified : IsVerifiedFrom claim old new

  -- and from a challenger that has absorbed nothing
  pub record IsProved (claim : Claim) : Type 0 where
    pub claims : IsClaimOf input claim
    pub verified : IsVerified claim

  -- the line is that of such a claim
  pub record IsProofLine (line : List ℕ) : Type 0 where
    pub claim : Claim
    pub written : IsLineOf claim_form claim line
    pub proved : IsProved claim

  pub record IsProofLineFrom (old new line : List ℕ) : Type 0 where
    pub claim : Claim
    pub written : IsLineOf claim_form claim line
    pub proved : IsProvedFrom claim old new
