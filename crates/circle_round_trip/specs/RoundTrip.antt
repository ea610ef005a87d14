-- A round trip over any scheme: batches that are committed to, opened at points and verified, and
-- why it returns no values.
use Rattle.std.specs.Prelude.{◌≡◌, ℕ, ◌≤◌, Bool, IsTrue, List, length, map, All, Any}
use Rattle.std.specs.List.{AllZip}
use Rattle.circle_commit.specs.Pcs.{Openings}
use Rattle.circle_commit.specs.declared.matrix.RowMajorMatrix.{RowMajorMatrix}
use Rattle.circle_commit.specs.declared.pcs.CommitmentOpening.{CommitmentOpening}
use Rattle.circle_commit.specs.declared.pcs.OpeningRequest.{OpeningRequest}
use Rattle.circle_commit.specs.declared.scheme.Pcs.{Ghosts}
use Rattle.circle_commit.specs.Claims.{lists}
use Rattle.circle_commit.specs.Honest.{AreAnsweredBy, requested_points}
use Rattle.circle_round_trip.specs.declared.any_scheme.BatchAtPoints.{BatchAtPoints}
use Rattle.circle_round_trip.specs.declared.any_scheme.Committed.{Committed}
use Rattle.circle_round_trip.specs.declared.any_scheme.RoundTripError.{RoundTripError}
use Rattle.circle_round_trip.specs.declared.any_scheme.RoundTripError.TheVariants.{Commit, Memory}
use Rattle.circle_round_trip.specs.declared.any_scheme.RoundTripError.TheVariants.{Open, Verify}

-- a list of points for each matrix, of one point at least
pub record HasPoints {E Dom M : Type 0} (batch : BatchAtPoints E Dom M) : Type 0 where
  pub each : length batch.points.items ≡ length batch.evaluations.items
  pub some : All (λ points. 1 ≤ length points) (lists batch.points)

-- a list of values for each point of each matrix of a batch
pub record HasAnswers {E Com Data Dom : Type 0} (c : Committed E Com Data Dom)
    (values : List (List (List E))) : Type 0 where
  pub each : length c.known.points.items ≡ length c.known.domains.items
  pub answers : AllZip (λ points vs. length vs ≡ length points) (lists c.known.points) values

-- so of each batch
abbrev pub HaveAnswers : {E Com Data Dom : Type 0} → List (Committed E Com Data Dom) → Openings E
    → Type 0
HaveAnswers committed values = AllZip HasAnswers committed values

-- the values of the batches' polynomials at their points
abbrev pub AreValuesOf : {E Dom M : Type 0}
    → (List (Dom × M) → List (List E) → List (List (List E)) → Type 0)
    → List (BatchAtPoints E Dom M) → Openings E → Type 0
AreValuesOf ValuesOf batches values =
    AllZip (λ b v. ValuesOf b.evaluations.items (lists b.points) v) batches values

-- why a batch isn't committed to: the scheme refuses it, or memory was refused
abbrev pub IsUncommitted : {E Dom M PE VE : Type 0} → (List (Dom × M) → PE → Type 0)
    → BatchAtPoints E Dom M → RoundTripError PE VE → Type 0
IsUncommitted Refuses batch (Commit e) = Refuses batch.evaluations.items e
IsUncommitted Refuses batch Memory = Unit {0}
IsUncommitted Refuses batch _ = ⊥

-- so of one of several batches
abbrev pub IsUncommittedOf : {E Dom M PE VE : Type 0} → (List (Dom × M) → PE → Type 0)
    → List (BatchAtPoints E Dom M) → RoundTripError PE VE → Type 0
IsUncommittedOf Refuses batches (Commit e) = Any (λ b. Refuses b.evaluations.items e) batches
IsUncommittedOf Refuses batches Memory = Unit {0}
IsUncommittedOf Refuses batches _ = ⊥

-- a refusal is of memory, whichever call it is of
abbrev pub IsOfMemory : {PE VE : Type 0} → (PE → Bool) → (VE → Bool) → RoundTripError PE VE
    → Type 0
IsOfMemory of_prover of_verifier (Commit e) = IsTrue (of_prover e)
IsOfMemory of_prover of_verifier (Open e) = IsTrue (of_prover e)
IsOfMemory of_prover of_verifier (Verify e) = IsTrue (of_verifier e)
IsOfMemory of_prover of_verifier Memory = Unit {0}

-- commits says of a batch, a commitment and what is kept that the batch has this commitment, and
-- that this was kept of it
module _ {E Com Data Dom M : Type 0} (commits : List (Dom × M) → Com → Data → Type 0) where
  -- a batch is committed to
  pub record IsCommitted (batch : BatchAtPoints E Dom M) (c : Committed E Com Data Dom)
      : Type 0 where
    pub committed : commits batch.evaluations.items c.known.commitment c.prover_data
    pub domains : c.known.domains.items ≡ map (λ m. m.0) batch.evaluations.items
    pub points : c.known.points ≡ batch.points

  abbrev pub AreCommitted : List (BatchAtPoints E Dom M) → List (Committed E Com Data Dom) → Type 0
  AreCommitted batches committed = AllZip IsCommitted batches committed

  -- a request is of data that were kept of a batch, at its points
  pub record IsRequestOf (batch : BatchAtPoints E Dom M) (request : OpeningRequest Data E)
      : Type 0 where
    pub commitment : Com
    pub committed : commits batch.evaluations.items commitment request.prover_data.now
    pub points : requested_points request ≡ lists batch.points

  abbrev pub AreRequestsOf : List (BatchAtPoints E Dom M) → List (OpeningRequest Data E) → Type 0
  AreRequestsOf batches requests = AllZip IsRequestOf batches requests

  -- there is a batch, each may be opened at its points, and in the run of requests for them from
  -- this state each search for a witness finds one
  pub record AreHonestBatches {S : Type 0} (OpensAt : List (Dom × M) → List (List E) → Type 0)
      (Finds : List (OpeningRequest Data E) → S → Type 0) (batches : List (BatchAtPoints E Dom M))
      (state : S) : Type 0 where
    pub some : 1 ≤ length batches
    pub opens : All (λ b. OpensAt b.evaluations.items (lists b.points)) batches
    pub finds :
        (requests : List (OpeningRequest Data E)) → AreRequestsOf batches requests
        → Finds requests state

-- size is the number of a domain's points; the others say of the calls of a scheme what they refuse
-- and give
module _ {E Com Data Dom M S PE VE Proof : Type 0} (size : Dom → ℕ)
    (commits : List (Dom × M) → Com → Data → Type 0)
    (commit_refuses : List (Dom × M) → PE → Type 0)
    (open_gives : List (OpeningRequest Data E) → S → Openings E → Proof → S → Type 0)
    (open_refuses : List (OpeningRequest Data E) → S → S → PE → Type 0)
    (verify_refuses : List (CommitmentOpening E Com Dom) → Proof → S → S → VE → Type 0)
    (batches : List (BatchAtPoints E Dom M)) where
  -- requests for the batches are refused
  pub record IsUnopened (old new : S) (e : PE) : Type 0 where
    pub requests : List (OpeningRequest Data E)
    pub asked : AreRequestsOf commits batches requests
    pub refused : open_refuses requests old new e

  -- claims of what is returned for such requests are refused, in the state that these began in
  pub record IsUnverified (old new left : S) (e : VE) : Type 0 where
    pub requests : List (OpeningRequest Data E)
    pub asked : AreRequestsOf commits batches requests
    pub values : Openings E
    pub proof : Proof
    pub opened : open_gives requests old values proof new
    pub claims : List (CommitmentOpening E Com Dom)
    pub answered : AreAnsweredBy size commits requests values claims
    pub refused : verify_refuses claims proof old left e

  -- why there are no values: both challengers begin in the state old, the prover's ends in new and
  -- the verifier's in left
  abbrev pub IsReason : S → S → S → RoundTripError PE VE → Type 0
  IsReason old new left (Commit e) =
      Any (λ b. commit_refuses b.evaluations.items e) batches × (new ≡ old) × (left ≡ old)
  IsReason old new left (Open e) = IsUnopened old new e × (left ≡ old)
  IsReason old new left (Verify e) = IsUnverified old new left e
  IsReason old new left Memory = Unit {0}

-- the same of batches under a scheme, by its members
module _ {P E C Dom Com Data Proof VE PE F S : Type 0}
    (scheme : Ghosts P E C Dom Com Data Proof VE PE F S) (pcs : P)
    (batches : List (BatchAtPoints E Dom (RowMajorMatrix F))) where
  -- each may be opened at its points, and each search for a witness finds one from this state
  abbrev pub AreHonestUnder : S → Type 0
  AreHonestUnder =
      AreHonestBatches (scheme.commits pcs) (scheme.opens_at pcs) (scheme.finds_witnesses pcs)
      batches

  -- why there are no values
  abbrev pub IsReasonUnder : (Dom → ℕ) → S → S → S → RoundTripError PE VE → Type 0
  IsReasonUnder size =
      IsReason size (scheme.commits pcs) (scheme.commit_refuses pcs) (scheme.open_gives pcs)
      (scheme.open_refuses pcs) (scheme.verify_refuses pcs) batches
