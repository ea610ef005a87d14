-- Why a run is refused once its challenges are drawn.
use Rattle.std.specs.Prelude.{◌≡◌, Bool, false, ℕ, ◌+◌, [], slice_get, Some}
use Rattle.std.specs.List.{Any}
use Rattle.circle_commit.specs.declared.error.FriError.{FriError}
use Rattle.circle_commit.specs.declared.error.FriError.TheVariants.{InputError as OfInput}
use Rattle.circle_commit.specs.declared.error.FriError.TheVariants.{FinalPolyMismatch}
use Rattle.circle_commit.specs.declared.error.FriError.TheVariants.{UnconsumedReducedOpenings}
use Rattle.circle_commit.specs.declared.error.FriError.TheVariants.{CommitPhaseMmcsError, Memory}
use Rattle.circle_commit.specs.declared.params.FriParameters.{FriParameters}
use Rattle.circle_relation.specs.declared.error.InputError.{InputError}
use Rattle.circle_relation.specs.declared.error.InputError.TheVariants.{InputMmcsError}
use Rattle.circle_relation.specs.declared.error.InputError.TheVariants.{FirstLayerMmcsError}
use Rattle.circle_relation.specs.declared.error.InputError.TheVariants.{InputShapeError}
use Rattle.circle_relation.specs.declared.error.InputError.TheVariants.{OpeningPointMatchesQueryPoint}
use Rattle.circle_relation.specs.declared.error.InputError.TheVariants.{MatrixWithoutOpeningPoints}
use Rattle.circle_relation.specs.Statement.{BatchClaim, MatrixClaim}
use Rattle.circle_relation.specs.Accepts.{Fields, Run, Authenticates, matrices, HasInputs}
use Rattle.circle_relation.specs.Accepts.{InputsAuthenticate, AreApart, FirstLayerAuthenticates}
use Rattle.circle_relation.specs.Accepts.{RoundsAuthenticate, ChainsEnd}

module _ {F E M Com InputCom InputProof WordProof : Type 0} (k : Fields F E)
    (params : FriParameters M) (r : Run F E Com InputCom InputProof WordProof) where
  -- the matrix in this batch is claimed at no point
  pub record IsUnclaimed (batch matrix : ℕ) : Type 0 where
    pub of : BatchClaim InputCom E
    pub claim : MatrixClaim E
    pub there : slice_get r.batches batch ≡ Some of
    pub here : slice_get of.matrices matrix ≡ Some claim
    pub none : claim.claims ≡ []

  -- a domain is claimed on which nothing is left to fold: the first layer's fold of such a codeword
  -- has as many entries as the last codeword
  pub record IsLeftOver (next_log_height remaining : ℕ) : Type 0 where
    pub next : next_log_height ≡ params.log_blowup + params.log_final_poly_len
    pub one : remaining ≡ 1
    pub some : Any (λ m. m.log_n ≡ params.log_final_poly_len + 1) (matrices k params r)

  module _ {IE WE : Type 0} (inputs : Authenticates InputCom F InputProof)
      (words : Authenticates Com E WordProof) (input_memory : IE → Bool)
      (word_memory : WE → Bool) where
    -- there is reason for the refusal, and no scheme's error of memory is handed on; that memory
    -- was refused no contract sees
    unfoldable pub IsReason : FriError WE (InputError IE WE) → Type 0
    IsReason (OfInput InputShapeError) = HasInputs k params r → ⊥
    IsReason (OfInput (MatrixWithoutOpeningPoints batch matrix)) = IsUnclaimed batch matrix
    IsReason (OfInput (InputMmcsError e)) =
        input_memory e ≡ false × (InputsAuthenticate k params r inputs → ⊥)
    IsReason (OfInput OpeningPointMatchesQueryPoint) = AreApart k params r → ⊥
    IsReason (OfInput (FirstLayerMmcsError e)) =
        word_memory e ≡ false × (FirstLayerAuthenticates k params r words → ⊥)
    IsReason FinalPolyMismatch = ChainsEnd k params r → ⊥
    IsReason (UnconsumedReducedOpenings next remaining) = IsLeftOver next remaining
    IsReason (CommitPhaseMmcsError e) =
        word_memory e ≡ false × (RoundsAuthenticate k params r words → ⊥)
    IsReason Memory = Unit {0}
    IsReason _ = ⊥
