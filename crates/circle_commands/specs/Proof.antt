-- What is written of claims with their proof.
use Rattle.std.specs.Prelude.{ℕ, List}
use Rattle.circle_commands.specs.Proved.{AreCommitments, HavePoints, IsProved, IsProvedFrom}
use Rattle.circle_commands.specs.Proved.{commitments_of}
use Rattle.circle_commands.specs.Text.{IsLineOf}
use Rattle.circle_commands.specs.Verified.{IsVerified, IsVerifiedFrom}
use Rattle.circle_commands.specs.Verify.{claims_form}
use Rattle.circle_commands.specs.declared.prove.Input.{Input as Statement}
use Rattle.circle_commands.specs.declared.verify.Input.{Input as Claims}

module _ (statement : Statement) where
  -- the line is that of claims that prove the statement, which the verifier accepts where each
  -- matrix has a point
  pub record IsProofLine (line : List ℕ) : Type 0 where
    pub claims : Claims
    pub written : IsLineOf claims_form claims line
    pub proved : IsProved statement claims
    pub accepted : HavePoints statement → IsVerified claims

  -- so from a challenger in the one state, which proof and verifier leave in the other; and the
  -- claims have the commitments to the statement's batches
  pub record IsProofLineFrom (old new line : List ℕ) : Type 0 where
    pub claims : Claims
    pub written : IsLineOf claims_form claims line
    pub proved : IsProvedFrom statement claims old new
    pub committed : AreCommitments statement (commitments_of claims)
    pub accepted : HavePoints statement → IsVerifiedFrom claims old new
