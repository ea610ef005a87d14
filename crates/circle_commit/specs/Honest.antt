-- Requests that are honest, and the claims that a verifier is handed of what is returned for them.
use Rattle.std.specs.Prelude.{◌≡◌, ℕ, ◌≤◌, List, [], ◌∷◌, length, map, All}
use Rattle.std.specs.List.{AllZip}
use Rattle.circle_commit.specs.Pcs.{Openings}
use Rattle.circle_commit.specs.declared.pcs.CommitmentOpening.{CommitmentOpening}
use Rattle.circle_commit.specs.declared.pcs.MatrixOpening.{MatrixOpening}
use Rattle.circle_commit.specs.declared.pcs.OpeningRequest.{OpeningRequest}

-- the points of a request, for each matrix its own
abbrev pub requested_points : {Data E : Type 0} → OpeningRequest Data E → List (List E)
requested_points request = map (λ points. points.items) request.points.items

-- for each request a list of values for each of its matrices, in it one for each of its points
abbrev pub HaveValues : {Data E : Type 0} → List (OpeningRequest Data E) → Openings E → Type 0
HaveValues requests values =
    AllZip (λ r v. AllZip (λ points vs. length vs ≡ length points) (requested_points r) v)
    requests values

-- size is the number of a domain's points
module _ {E Dom M : Type 0} (size : Dom → ℕ) where
  -- of a matrix that was given on a domain these values are claimed at these points, of which there
  -- is one, on a domain of as many points
  pub record IsClaimedOf (given : Dom × M) (asked : List E) (answers : List (List E))
      (claim : MatrixOpening E Dom) : Type 0 where
    pub domain : size claim.domain ≡ size given.0
    pub points : map (λ p. p.point) claim.points.items ≡ asked
    pub values : map (λ p. p.values.items) claim.points.items ≡ answers
    pub some : 1 ≤ length asked

  -- so of each matrix of a batch
  abbrev pub AreClaimedOf : List (Dom × M) → List (List E) → List (List (List E))
      → List (MatrixOpening E Dom) → Type 0
  AreClaimedOf [] [] [] [] = Unit {0}
  AreClaimedOf (m ∷ ms) (p ∷ ps) (v ∷ vs) (c ∷ cs) =
      IsClaimedOf m p v c × AreClaimedOf ms ps vs cs
  AreClaimedOf _ _ _ _ = ⊥

-- commits says of a batch, a commitment and what is kept that the batch has this commitment, and
-- that this was kept of it
module _ {E Com Data Dom M : Type 0} (size : Dom → ℕ)
    (commits : List (Dom × M) → Com → Data → Type 0) where
  -- the claims of one commitment are of a batch that has it, and say what is returned at the
  -- requested points
  pub record IsAnsweredBy (request : OpeningRequest Data E) (values : List (List (List E)))
      (claim : CommitmentOpening E Com Dom) : Type 0 where
    pub batch : List (Dom × M)
    pub committed : commits batch claim.commitment request.prover_data.now
    pub claims : AreClaimedOf size batch (requested_points request) values claim.matrices.items

  -- so for each request
  abbrev pub AreAnsweredBy : List (OpeningRequest Data E) → Openings E
      → List (CommitmentOpening E Com Dom) → Type 0
  AreAnsweredBy [] [] [] = Unit {0}
  AreAnsweredBy (r ∷ rs) (v ∷ vs) (c ∷ cs) = IsAnsweredBy r v c × AreAnsweredBy rs vs cs
  AreAnsweredBy _ _ _ = ⊥

module _ {E Com Data Dom M : Type 0} (commits : List (Dom × M) → Com → Data → Type 0) where
  -- the data of a request were kept of a batch that may be opened at its points
  pub record IsHonest (OpensAt : List (Dom × M) → List (List E) → Type 0)
      (request : OpeningRequest Data E) : Type 0 where
    pub batch : List (Dom × M)
    pub commitment : Com
    pub committed : commits batch commitment request.prover_data.now
    pub opens : OpensAt batch (requested_points request)

  -- there is a request, and each is honest
  abbrev pub AreHonest : (List (Dom × M) → List (List E) → Type 0)
      → List (OpeningRequest Data E) → Type 0
  AreHonest OpensAt requests = (1 ≤ length requests) × All (IsHonest OpensAt) requests

-- requests are honest, and from this state each search for a witness finds one in their run
abbrev pub IsHonestFrom : {E Com Data Dom M S : Type 0} → (List (Dom × M) → Com → Data → Type 0)
    → (List (Dom × M) → List (List E) → Type 0) → (List (OpeningRequest Data E) → S → Type 0)
    → List (OpeningRequest Data E) → S → Type 0
IsHonestFrom commits OpensAt Finds requests state =
    AreHonest commits OpensAt requests × Finds requests state

-- what is returned for each request are the values of the batches that its data were kept of
abbrev pub AreTrueValues : {E Com Data Dom M : Type 0} → (List (Dom × M) → Com → Data → Type 0)
    → (List (Dom × M) → List (List E) → List (List (List E)) → Type 0)
    → List (OpeningRequest Data E) → Openings E → Type 0
AreTrueValues {Com = Com} {Dom = Dom} {M = M} commits ValuesOf requests values =
    AllZip (λ r v. (batch : List (Dom × M)) (commitment : Com)
    → commits batch commitment r.prover_data.now → ValuesOf batch (requested_points r) v)
    requests values

-- claims that say what is returned are accepted, on domains of as many points as the batches'
abbrev pub AcceptsAnswers : {E Com Data Dom M : Type 0} → (Dom → ℕ)
    → (List (Dom × M) → Com → Data → Type 0) → (List (CommitmentOpening E Com Dom) → Type 0)
    → List (OpeningRequest Data E) → Openings E → Type 0
AcceptsAnswers size commits Accepts requests values =
    (claims : _) → AreAnsweredBy size commits requests values claims → Accepts claims
