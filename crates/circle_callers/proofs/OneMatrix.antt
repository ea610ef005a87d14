-- One matrix at one point: what is kept of it, what is opened, and the claims on that.
use Rattle.std.specs.Prelude.{◌≡◌, ℕ, ◌<◌, ◌≤◌, List, [], ◌∷◌, length, map, All, Vec, vec_len}
use Rattle.std.specs.Prelude.{slice_index_or}
use Rattle.std.specs.List.{AllZip}
use Rattle.std.specs.declared.alloc.Global.{Global}
use Rattle.std.proofs.Common.{◌∙◌, ap, arith, refl, subst, sym}
use Rattle.std.proofs.lemmas.List.{length-map}
use Rattle.std.proofs.lemmas.List.Elements.{All-cons, All-nil}
use Rattle.circle_commit.specs.Claims.{batch_claimed, batch_told, lists}
use Rattle.circle_commit.specs.DotProduct.{pairwise}
use Rattle.circle_commit.specs.Honest.{AreAnsweredBy, AreTrueValues, HaveValues}
use Rattle.circle_commit.specs.Honest.{requested_points}
use Rattle.circle_commit.specs.Kept.{AreKept}
use Rattle.circle_commit.specs.Mmcs.{opened_rows}
use Rattle.circle_commit.specs.Pcs.{Openings, openings}
use Rattle.circle_commit.specs.declared.claims.CommittedBatch.{CommittedBatch}
use Rattle.circle_commit.specs.declared.pcs.CommitmentOpening.{CommitmentOpening}
use Rattle.circle_commit.specs.declared.pcs.OpeningRequest.{OpeningRequest}
use Rattle.circle_round_trip.proofs.Batches.{AskFor, are-answered, have-answers}
use Rattle.circle_round_trip.specs.RoundTrip.{AreCommitted, HasPoints}
use Rattle.circle_round_trip.specs.declared.any_scheme.BatchAtPoints.{BatchAtPoints}
use Rattle.circle_round_trip.specs.declared.any_scheme.RoundTripError.{RoundTripError}
use Rattle.circle_round_trip.specs.declared.any_scheme.RoundTripError.TheVariants.{Verify}

-- a list of one point, in a list of one
pub one-point : {E : Type 0} (outer : Vec (Vec E Global) Global) (inner : Vec E Global)
    (point : E) → outer.items ≡ inner ∷ [] → inner.items ≡ point ∷ [] →
    lists outer ≡ (point ∷ []) ∷ []
one-point outer inner point one is =
    ap (λ vs. map (λ v. v.items) vs) one ∙ ap (λ v. v ∷ []) is

-- a list of one
only : {A : Type 0} (xs : List A) → length xs ≡ 1 → (x : A) × (xs ≡ x ∷ [])
only [] long = absurd (omega (arith, long))
only (x ∷ []) long = (x, refl)
only (x ∷ y ∷ xs) long = absurd (omega (arith, long))

module _ {E : Type 0} (point : E) where
  -- of one matrix at one point there is a row
  one-matrix : (values : List (List (List E))) →
      AllZip (λ points vs. length vs ≡ length points) ((point ∷ []) ∷ []) values →
      (row : List E) × (values ≡ (row ∷ []) ∷ [])
  one-matrix [] have = absurd have
  one-matrix (vs ∷ ws ∷ values) have = absurd have.1
  one-matrix (vs ∷ []) have =
      let one = only vs have.0 in (one.0, ap (λ v. v ∷ []) one.1)

  one-row : {Data : Type 0} (request : OpeningRequest Data E) (values : Openings E) →
      HaveValues (request ∷ []) values → requested_points request ≡ (point ∷ []) ∷ [] →
      (row : List E) × (values ≡ ((row ∷ []) ∷ []) ∷ [])
  one-row request [] have asked = absurd have
  one-row request (v ∷ w ∷ values) have asked = absurd have.1
  one-row request (v ∷ []) have asked =
      let one =
      one-matrix v
      (subst (λ ps. AllZip (λ points vs. length vs ≡ length points) ps v) asked have.0) in
      (one.0, ap (λ v. v ∷ []) one.1)

-- the only item
pub first-is : {A : Type 0} (xs : List A) (x d : A) → xs ≡ x ∷ [] → d ≡ slice_index_or xs 0 d →
    d ≡ x
first-is xs x d is at = at ∙ ap (λ ys. slice_index_or ys 0 d) is

pub some : {A : Type 0} (v : Vec A Global) (x : A) → v.items ≡ x ∷ [] → 0 < vec_len v
some v x is = let long = ap length is in omega (arith, v.ok.0, long)

map-one : {A B : Type 0} (f : A → B) (xs : List A) (y : B) → map f xs ≡ y ∷ [] →
    (x : A) × (xs ≡ x ∷ []) × (f x ≡ y)
map-one f [] y is = absurd (cc)
map-one f (x ∷ []) y is = let same : f x ≡ y = cc in (x, refl, same)
map-one f (x ∷ z ∷ xs) y is = absurd (cc)

-- opened values of one matrix at one point
pub record IsOneRow {E : Type 0} (opened : Vec (Vec (Vec (Vec E Global) Global) Global) Global)
    : Type 0 where
  pub batch : Vec (Vec (Vec E Global) Global) Global
  pub matrix : Vec (Vec E Global) Global
  pub row : Vec E Global
  pub of_all : opened.items ≡ batch ∷ []
  pub of_batch : batch.items ≡ matrix ∷ []
  pub of_matrix : matrix.items ≡ row ∷ []
  pub values : openings opened.items ≡ ((row.items ∷ []) ∷ []) ∷ []

pub is-one-row : {E Data : Type 0} (point : E)
    (opened : Vec (Vec (Vec (Vec E Global) Global) Global) Global)
    (requests : List (OpeningRequest Data E)) (request : OpeningRequest Data E) →
    requests ≡ request ∷ [] → HaveValues requests (openings opened.items) →
    requested_points request ≡ (point ∷ []) ∷ [] → IsOneRow opened
is-one-row point opened requests request is have asked =
    let one =
    one-row point request (openings opened.items)
    (subst (λ rs. HaveValues rs (openings opened.items)) is have) asked in
    let batch = map-one (λ b. opened_rows b.items) opened.items ((one.0 ∷ []) ∷ []) one.1 in
    let matrix = map-one (λ m. map (λ v. v.items) m.items) batch.0.items (one.0 ∷ []) batch.2 in
    let row = map-one (λ v. v.items) matrix.0.items one.0 matrix.2 in
    record {
      batch = batch.0;
      matrix = matrix.0;
      row = row.0;
      of_all = batch.1;
      of_batch = matrix.1;
      of_matrix = row.1;
      values =
          subst (λ r. openings opened.items ≡ ((r ∷ []) ∷ []) ∷ []) (sym row.2) one.1;
    }

module _ {E Com Data Dom M : Type 0} (commits : List (Dom × M) → Com → Data → Type 0)
    (given : Dom × M) (point : E) (batch : Vec (Dom × M) Global)
    (known : CommittedBatch E Com Dom) (stored : Data) (request : OpeningRequest Data E)
    (is : batch.items ≡ given ∷ []) (committed : commits batch.items known.commitment stored)
    (domains : known.domains.items ≡ given.0 ∷ [])
    (points : lists known.points ≡ (point ∷ []) ∷ [])
    (kept : request.prover_data.now ≡ stored)
    (asked : requested_points request ≡ (point ∷ []) ∷ []) where
  abbrev at-point : BatchAtPoints E Dom M
  at-point = record { evaluations = batch; points = known.points }

  has-points : All HasPoints (at-point ∷ [])
  has-points =
      let many = ap length points in
      let each = length-map known.points.items (λ v. v.items) in
      let one = ap length is in
      All-cons HasPoints at-point []
      record {
        each = omega (arith, many, each, one);
        some = subst (All (λ ps. 1 ≤ length ps)) (sym points)
            (All-cons (λ ps. 1 ≤ length ps) (point ∷ []) [] (omega arith)
            (All-nil (λ ps. 1 ≤ length ps)));
      }
      (All-nil HasPoints)

  is-committed :
      AreCommitted commits (at-point ∷ [])
      (record { known = known; prover_data = stored } ∷ [])
  is-committed = (
    record {
      committed = committed;
      domains = domains ∙ ap (λ ms. map (λ m. m.0) ms) (sym is);
      points = refl;
    },
    tt,
  )

  asks : AskFor (record { known = known; prover_data = stored } ∷ []) (request ∷ [])
  asks = record {
    kept = ap (λ d. d ∷ []) kept;
    points = ap (λ ps. ps ∷ []) (asked ∙ sym points);
  }

  -- the claims are of what is opened
  pub answered : (size : Dom → ℕ) (values : Openings E)
      (claims : List (CommitmentOpening E Com Dom)) (requests : List (OpeningRequest Data E))
      (knowns : List (CommittedBatch E Com Dom)) → requests ≡ request ∷ [] →
      knowns ≡ known ∷ [] → HaveValues requests values →
      map batch_told claims ≡ pairwise batch_claimed knowns values →
      AreAnsweredBy size commits requests values claims
  answered size values claims requests knowns these those have told =
      let mine = subst (λ rs. HaveValues rs values) these have in
      subst (λ rs. AreAnsweredBy size commits rs values claims) (sym these)
      (are-answered commits size (at-point ∷ [])
      (record { known = known; prover_data = stored } ∷ [])
      (request ∷ []) values claims has-points is-committed asks
      (have-answers commits (at-point ∷ [])
      (record { known = known; prover_data = stored } ∷ [])
      (request ∷ []) values has-points is-committed asks mine)
      (told ∙ ap (λ ks. pairwise batch_claimed ks values) those))

-- what is opened are the values of the matrix
pub true-row : {E Com Data Dom M : Type 0} (commits : List (Dom × M) → Com → Data → Type 0)
    (given : Dom × M) (point : E) (batch : Vec (Dom × M) Global) (commitment : Com)
    (stored : Data) (requests : List (OpeningRequest Data E)) (request : OpeningRequest Data E) →
    requests ≡ request ∷ [] → batch.items ≡ given ∷ [] →
    commits batch.items commitment stored → request.prover_data.now ≡ stored →
    requested_points request ≡ (point ∷ []) ∷ [] →
    (ValuesOf : List (Dom × M) → List (List E) → List (List (List E)) → Type 0)
    (values : Openings E) (row : List E) → values ≡ ((row ∷ []) ∷ []) ∷ [] →
    AreTrueValues commits ValuesOf requests values →
    ValuesOf (given ∷ []) ((point ∷ []) ∷ []) ((row ∷ []) ∷ [])
true-row commits given point batch commitment stored requests request these is committed kept asked
    ValuesOf values row same true =
    let all =
    subst (AreTrueValues commits ValuesOf (request ∷ [])) same
    (subst (λ rs. AreTrueValues commits ValuesOf rs values) these true) in
    let one =
    all.0 batch.items commitment (subst (commits batch.items commitment) (sym kept) committed) in
    subst (λ ps. ValuesOf (given ∷ []) ps ((row ∷ []) ∷ [])) asked
    (subst (λ b. ValuesOf b (requested_points request) ((row ∷ []) ∷ [])) is one)

-- what is kept of a batch can be opened
pub kept-one : {E B Com Data : Type 0} (commits : B → Com → Data → Type 0)
    (requests : List (OpeningRequest Data E)) (request : OpeningRequest Data E) (batch : B)
    (commitment : Com) → requests ≡ request ∷ [] →
    commits batch commitment request.prover_data.now → AreKept commits requests
kept-one {E = E} {B = B} {Com = Com} {Data = Data} commits requests request batch commitment these
    committed =
    let Kept : OpeningRequest Data E → Type 0 = λ r. (b : B) × (c : Com)
    × commits b c r.prover_data.now in
    subst (AreKept commits) (sym these)
    (All-cons Kept request [] (batch, commitment, committed) (All-nil Kept))

-- the refusal that is handed on is the verifier's
pub refusal-is : {PE VE : Type 0} (e why : VE) →
    ◌≡◌ {A = RoundTripError PE VE} (Verify e) (Verify why) → e ≡ why
refusal-is e why same = cc
