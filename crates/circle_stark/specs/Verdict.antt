-- Why a proof is refused once the challenger is seeded.
use Rattle.std.specs.Prelude.{◌≡◌, ℕ, List, if◌then◌else◌}
use Rattle.circle_challenger.specs.Moves.{RunMoves}
use Rattle.circle_commit.specs.declared.error.FriError.{FriError}
use Rattle.circle_commit.specs.declared.params.FriParameters.{FriParameters}
use Rattle.circle_point.specs.Projective.{to_line}
use Rattle.circle_domain.specs.Selectors.{next_from}
use Rattle.circle_quotient.specs.Fit.{IsFit}
use Rattle.circle_relation.specs.Accepts.{Authenticates, Fields}
use Rattle.circle_commit.specs.declared.pcs.CommitmentOpening.{CommitmentOpening}
use Rattle.circle_domain.specs.declared.domain.CircleDomain.{CircleDomain}
use Rattle.circle_relation.specs.Statement.{BatchClaim}
use Rattle.circle_relation.specs.StatementOf.{batch_claims}
use Rattle.p3_circle.specs.Scheme.{says_memory}
use Rattle.circle_stark.specs.Accepts.{HasIdentity, OpensAt}
use Rattle.circle_stark.specs.Claims.{claims_at}
use Rattle.circle_stark.specs.Draw.{AreDrawn, Described}
use Rattle.circle_stark.specs.Schemes.{ProvedOver, Schemes, described}
use Rattle.circle_stark.specs.Statement.{Proved, Statement}
use Rattle.circle_stark.specs.declared.error.StarkError.{StarkError}
use Rattle.circle_stark.specs.declared.error.StarkError.TheVariants.{InvalidOpening, Memory}
use Rattle.circle_stark.specs.declared.error.StarkError.TheVariants.{OodEvaluationMismatch}
use Rattle.circle_stark.specs.declared.error.StarkError.TheVariants.{UnfitPoint}

-- as for `StarkAccepts`; refuses says when the scheme's verifier refuses claims: from which state,
-- in which state it ends, and with which error
module _ {C S F E M IC WC IP WP Error : Type 0} (k : Fields F E) (params : FriParameters M)
    (own : RunMoves C S F E IC) (r : RunMoves C S F E WC) (inputs : Authenticates IC F IP)
    (words : Authenticates WC E WP)
    (refuses : List (BatchClaim IC E) → S → S → Error → Type 0) (d : Described F) (s : Statement F)
    (p : Proved F E IC WC IP WP) (log_chunks : ℕ) (old : S) where
  -- the drawn point isn't fit
  pub record IsUnfit (new : S) : Type 0 where
    pub alpha : E
    pub zeta : E
    pub drawn : AreDrawn own d p.trace p.quotient old alpha zeta new
    pub unfit : ¬ IsFit k.extension k.embed k.gen s.log_n zeta

  -- the scheme's verifier refuses the opened values
  pub record IsInvalid (new : S) (error : Error) : Type 0 where
    pub alpha : E
    pub zeta : E
    pub between : S
    pub drawn : AreDrawn own d p.trace p.quotient old alpha zeta between
    pub fit : IsFit k.extension k.embed k.gen s.log_n zeta
    pub refused :
        refuses (claims_at s.log_n p zeta
        (to_line k.extension (next_from k.extension k.embed k.gen s.log_n zeta))) between new error

  -- the scheme's verifier accepts them, and the identity doesn't hold
  pub record IsMismatched (new : S) : Type 0 where
    pub alpha : E
    pub zeta : E
    pub between : S
    pub drawn : AreDrawn own d p.trace p.quotient old alpha zeta between
    pub fit : IsFit k.extension k.embed k.gen s.log_n zeta
    pub opens : OpensAt k params r inputs words s p zeta between new
    pub mismatch :
        ¬ HasIdentity k.field k.gen k.extension k.embed s own.base.coefficients own.base.degree
        log_chunks p.opened alpha zeta

  abbrev pub IsRefusedFor : S → StarkError Error → Type 0
  IsRefusedFor new UnfitPoint = IsUnfit new
  IsRefusedFor new (InvalidOpening error) = IsInvalid new error
  IsRefusedFor new OodEvaluationMismatch = IsMismatched new
  IsRefusedFor new Memory = Unit {0}
  IsRefusedFor new _ = ⊥

-- how a refusal of the scheme's verifier is returned
abbrev pub refusal_of : {W I : Type 0} → FriError W I → StarkError (FriError W I)
refusal_of error = if says_memory error then Memory else InvalidOpening error

-- the scheme's verifier refuses a proof of claims that are these
pub record IsOpeningRefused {S E IC D Proof Error : Type 0} {g : _}
    (Refuses : List (CommitmentOpening E IC (CircleDomain D g)) → Proof → S → S → Error → Type 0)
    (proof : Proof) (batches : List (BatchClaim IC E)) (old new : S) (error : Error)
    : Type 0 where
  pub claims : List (CommitmentOpening E IC (CircleDomain D g))
  pub claimed : batch_claims claims ≡ batches
  pub refused : Refuses claims proof old new error

-- over the scheme pcs, a verifier in the one state, seeded from there, refuses the proof, whose
-- quotient has 2^kk chunks, and leaves the other
abbrev pub Refuses : {P C S F E : Type 0} (o : Schemes P C S F E) → P → o.Opening → Statement F
    → ProvedOver o → ℕ → S → S → StarkError o.Error → Type 0
Refuses o pcs opening s p =
    IsRefusedFor o.fields (o.params pcs) o.own o.words (o.authenticates pcs)
    (o.word_authenticates pcs) (o.RefusesClaims pcs opening) (described o s) s p
