-- An honest statement: rows on genuine domains, committed to and opened at points off the domains
-- that they are extended to.
use Rattle.std.specs.Prelude.{◌≡◌, ℕ, ◌+◌, ◌<◌, ◌≤◌, List, length, zip, All}
use Rattle.std.specs.List.{AllZip}
use Rattle.circle_challenger.specs.Moves.{RunMoves}
use Rattle.circle_commit.specs.Pcs.{Openings}
use Rattle.circle_commit.specs.RowMajorMatrix.{rows, width_of}
use Rattle.circle_commit.specs.declared.matrix.RowMajorMatrix.{RowMajorMatrix}
use Rattle.circle_commit.specs.declared.params.FriParameters.{FriParameters}
use Rattle.circle_commit.specs.declared.pcs.OpeningRequest.{OpeningRequest}
use Rattle.circle_domain.specs.Domain.{log_size, shift_of, IsGenuineDomain}
use Rattle.circle_domain.specs.Selectors.{IsFinite}
use Rattle.circle_domain.specs.Values.{lifted_values_at}
use Rattle.circle_domain.specs.declared.domain.CircleDomain.{CircleDomain}
use Rattle.circle_field.specs.Circle.{Coordinates}
use Rattle.circle_field.specs.Field.{FieldOps}
use Rattle.circle_folding.specs.Queries.{IsApart}
use Rattle.circle_prover.specs.Opening.{IsStuckOn}
use Rattle.circle_codewords.specs.Requests.{AreAnswers, AreFit}
use Rattle.circle_relation.specs.declared.error.ProverError.{ProverError}
use Rattle.circle_point.specs.Projective.{from_line}
use Rattle.circle_relation.specs.Accepts.{Fields}
use Rattle.circle_codewords.specs.Ratios.{points_of_height}
use Rattle.p3_circle.specs.Committing.{HaveNaturalValues}

-- f is a field with the generators of its circle's group, and l its extension
module _ {F E : Type 0} {g : _} (f : FieldOps F) (gen : ℕ → Coordinates F) (l : FieldOps E)
    (embed : F → E) where
  module _ {M : Type 0} (two_adicity : ℕ) (p : FriParameters M) where
    -- rows on a domain that leaves something to fold, whose halves are disjoint, and of which the
    -- group has the extension; points that are not at infinity and not on the extension, and one of
    -- them
    pub record CanBeOpenedAt (given : CircleDomain F g × RowMajorMatrix F) (points : List E)
        : Type 0 where
      pub large : p.log_final_poly_len + 2 ≤ log_size given.0
      pub in_group : log_size given.0 + p.log_blowup < two_adicity
      pub genuine : IsGenuineDomain f given.0
      pub finite : All (IsFinite l) points
      pub off :
          All (λ t. IsApart embed (points_of_height f gen (log_size given.0 + p.log_blowup))
          (from_line l t)) points

    -- under supported parameters a batch of some rows, each with its points
    pub record IsHonestBatch (batch : List (CircleDomain F g × RowMajorMatrix F))
        (points : List (List E)) : Type 0 where
      pub parameters : AreFit p
      pub arity : p.max_log_arity ≡ 1
      pub some : 1 ≤ length batch
      pub rows : AllZip CanBeOpenedAt batch points

  -- coefficients of polynomials whose values on a domain, in natural order, are the rows
  abbrev pub HaveRows : CircleDomain F g × RowMajorMatrix F → List (List F) → Type 0
  HaveRows given coeffs =
      HaveNaturalValues f gen (log_size given.0) (shift_of given.0) (width_of given.1) coeffs
      (rows given.1)

  -- the values at points of the only polynomials whose values on a domain, in natural order, are
  -- the rows
  pub record AreRowValues (given : CircleDomain F g × RowMajorMatrix F) (points : List E)
      (answers : List (List E)) : Type 0 where
    pub coeffs : List (List F)
    pub told : HaveRows given coeffs
    pub only : (others : List (List F)) → HaveRows given others → coeffs ≡ others
    pub values :
        AllZip (λ t v. v ≡ lifted_values_at f.zero l embed coeffs (width_of given.1)
        (from_line l t)) points answers

  -- so of all rows of a batch, each at its points
  abbrev pub AreBatchValues : List (CircleDomain F g × RowMajorMatrix F) → List (List E)
      → List (List (List E)) → Type 0
  AreBatchValues batch points values =
      AllZip (λ given rest. AreRowValues given rest.0 rest.1) batch (zip points values)

-- likewise over fields
abbrev pub AreValuesOfRows : {F E : Type 0} {g : _} → Fields F E
    → CircleDomain F g × RowMajorMatrix F → List E → List (List E) → Type 0
AreValuesOfRows k = AreRowValues k.field k.gen k.extension k.embed

-- and of a batch
abbrev pub AreValuesOfBatch : {F E : Type 0} {g : _} → Fields F E
    → List (CircleDomain F g × RowMajorMatrix F) → List (List E) → List (List (List E)) → Type 0
AreValuesOfBatch k = AreBatchValues k.field k.gen k.extension k.embed

-- with the values that are returned for requests, their run from this state never comes to a proof
-- of work that no witness passes, whatever commitments its codewords have
pub record FindsWitnesses {C S D F E M WC : Type 0} (k : Fields F E) (r : RunMoves C S F E WC)
    (p : FriParameters M) (WordCommits : List (RowMajorMatrix E) → WC → Type 0)
    (kept : D → List (RowMajorMatrix F)) (requests : List (OpeningRequest D E)) (s : S)
    : Type 0 where
  pub never_stuck : (values : Openings E) (e : ProverError)
      → AllZip (AreAnswers kept k p.log_blowup) requests values
      → ¬ IsStuckOn k r p WordCommits kept requests values s e
