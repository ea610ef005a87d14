-- When the command `verify` accepts, and what it writes then.
use Rattle.std.specs.Prelude.{◌≡◌, ℕ, ◌++◌, List, None, replicate, codes}
use Rattle.std.specs.Fmt.{decimal}
use Rattle.circle_air.specs.Parts.{parts_of}
use Rattle.circle_air.specs.Refusal.{refusal}
use Rattle.circle_challenger.specs.Sha256Challenger.{state_of}
use Rattle.circle_challenger.specs.declared.sha256.Sha256Challenger.{Sha256Challenger}
use Rattle.circle_commands.specs.Chosen.{preset}
use Rattle.circle_commands.specs.Preset.{Scheme}
use Rattle.circle_commit.specs.Parameters.{with_scheme}
use Rattle.circle_field.specs.Bytes.{bytes}
use Rattle.circle_field.specs.declared.cubic.Cubic.{Cubic}
use Rattle.circle_field.specs.declared.mersenne31.Mersenne31.{Mersenne31}
use Rattle.circle_merkle.specs.declared.mmcs.ShaMmcs.{ShaMmcs}
use Rattle.circle_stark.specs.Accepts.{StarkAccepts}
use Rattle.circle_stark.specs.Draw.{Described}
use Rattle.circle_stark.specs.Statement.{Statement, described_by, proved_of, statement_of}
use Rattle.circle_stark.specs.declared.proof.StarkStatement.{StarkStatement}
use Rattle.hex.specs.Hex.{encode_lower}
use Rattle.stark_commands.specs.Chosen.{stark}
use Rattle.stark_commands.specs.Preset.{ProofError}
use Rattle.stark_commands.specs.declared.verify.Input.{Input}

-- the statement that the input's proof is of
abbrev pub statement_given : Input → Statement Mersenne31
statement_given input = record {
  parts = parts_of input.air;
  log_n = input.log_n;
  public_values = input.public_values.items;
}

-- what describes a statement's run: the AIR's digest, the height and the public values
abbrev pub described : Statement Mersenne31 → Described Mersenne31
described s = described_by bytes 4 s

-- the parts make an AIR
abbrev pub HasAir : Input → Type 0
HasAir input = refusal (parts_of input.air) ≡ None

module _ (input : Input) where
  -- the parts make an AIR, and the verifier accepts the proof of the input's statement from a
  -- challenger in the one state, and leaves it in the other, under the relation
  pub record IsVerifiedFrom (old new : List ℕ) : Type 0 where
    pub air : HasAir input
    pub mmcs : ShaMmcs Mersenne31
    pub scheme : ShaMmcs Cubic
    pub accepts :
        StarkAccepts preset.schemes.fields (with_scheme input.params scheme) preset.schemes.run
        preset.schemes.run (preset.schemes.authenticates mmcs)
        (preset.schemes.word_authenticates scheme) (described (statement_given input))
        (statement_given input) (proved_of input.proof) old new

  -- it does so from this state, whatever it leaves
  abbrev pub IsAcceptedFrom : List ℕ → Type 0
  IsAcceptedFrom old = (left : List ℕ) × IsVerifiedFrom old left

  -- and from a challenger that has absorbed nothing
  abbrev pub IsVerified : Type 0
  IsVerified = IsAcceptedFrom (replicate 32 0)

  -- the verifier refuses, for this reason, the input's proof of its statement under its parameters,
  -- from a challenger in the one state, and leaves it in the other
  pub record IsUnverifiedFrom (old new : List ℕ) (error : ProofError) : Type 0 where
    pub scheme : Scheme
    pub statement : StarkStatement Mersenne31
    pub start : Sha256Challenger
    pub left : Sha256Challenger
    pub params : scheme.fri_params ≡ with_scheme input.params scheme.fri_params.mmcs
    pub stated : statement_of statement ≡ statement_given input
    pub begun : state_of start ≡ old
    pub ended : state_of left ≡ new
    pub refuses : stark.Refuses scheme statement input.proof start left error

  -- it does so from a challenger that has absorbed nothing
  abbrev pub IsUnverified : ProofError → Type 0
  IsUnverified error = (left : List ℕ) × IsUnverifiedFrom (replicate 32 0) left error

-- the line of a proof that is accepted, of an AIR with this digest and of 2^log_n rows
abbrev pub verified_line : List ℕ → ℕ → List ℕ
verified_line digest log_n =
    codes "{\"air_digest\":\"" ++ encode_lower digest ++ codes "\",\"log_n\":" ++ decimal log_n
    ++ codes ",\"verified\":true}\n"
