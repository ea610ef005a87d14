-- Batches that are committed to, requests for them, what is returned, and the claims on that.
use Rattle.std.specs.Prelude.{◌≡◌, ℕ, ◌<◌, ◌≤◌, Bool, IsTrue, List, [], ◌∷◌, ◌++◌, length, map, All}
use Rattle.std.specs.Prelude.{slice_index_or, Result, IfErr, IsErrAnd, zip}
use Rattle.std.specs.List.{AllZip}
use Rattle.std.proofs.Common.{refl, sym, ◌∙◌, ap, subst, arith, Ok, Err}
use Rattle.std.proofs.lemmas.List.{length-map}
use Rattle.std.proofs.lemmas.List.Elements.{All-cons, All-contains, All-head, All-nil, All-tail}
use Rattle.std.proofs.lemmas.Slice.Zip.{AllZip-long}
use Rattle.circle_commit.specs.DotProduct.{pairwise}
use Rattle.circle_commit.specs.Pcs.{Openings}
use Rattle.circle_commit.specs.declared.pcs.CommitmentOpening.{CommitmentOpening}
use Rattle.circle_commit.specs.declared.pcs.MatrixOpening.{MatrixOpening}
use Rattle.circle_commit.specs.declared.pcs.OpeningRequest.{OpeningRequest}
use Rattle.circle_commit.specs.declared.pcs.PointOpening.{PointOpening}
use Rattle.circle_commit.specs.Honest.{AreAnsweredBy, AreClaimedOf, AreHonest, AreTrueValues}
use Rattle.circle_commit.specs.Honest.{HaveValues, IsAnsweredBy, IsHonest, requested_points}
use Rattle.circle_commit.specs.Kept.{AreKept}
use Rattle.circle_commit.specs.Claims.{batch_claimed, batch_told, lists, matrix_claimed}
use Rattle.circle_commit.specs.Claims.{matrix_told, point_told}
use Rattle.circle_round_trip.specs.RoundTrip.{AreCommitted, AreHonestBatches, AreRequestsOf}
use Rattle.circle_round_trip.specs.RoundTrip.{AreValuesOf, HasAnswers, HasPoints, HaveAnswers}
use Rattle.circle_round_trip.specs.RoundTrip.{IsCommitted, IsOfMemory, IsReason, IsRequestOf}
use Rattle.circle_round_trip.specs.RoundTrip.{IsUncommitted, IsUncommittedOf}
use Rattle.circle_round_trip.specs.declared.any_scheme.BatchAtPoints.{BatchAtPoints}
use Rattle.circle_round_trip.specs.declared.any_scheme.Committed.{Committed}
use Rattle.circle_round_trip.specs.declared.any_scheme.RoundTripError.{RoundTripError}
use Rattle.circle_round_trip.specs.declared.any_scheme.RoundTripError.TheVariants.{Commit, Memory}
use Rattle.circle_round_trip.specs.declared.any_scheme.RoundTripError.TheVariants.{Open, Verify}

module _ {E : Type 0} where
  -- claims of as many values as points determine the points
  points-told : (claims : List (PointOpening E)) (points : List E) (values : List (List E)) →
      length values ≡ length points → map point_told claims ≡ zip points values →
      map (λ p. p.point) claims ≡ points
  points-told [] [] values long told = refl
  points-told [] (p ∷ points) [] long told = absurd (omega (arith, long))
  points-told [] (p ∷ points) (v ∷ values) long told = absurd (cc)
  points-told (c ∷ claims) [] values long told = absurd (cc)
  points-told (c ∷ claims) (p ∷ points) [] long told = absurd (omega (arith, long))
  points-told (c ∷ claims) (p ∷ points) (v ∷ values) long told =
      let one : point_told c ≡ (p, v) = cc in
      let rest : map point_told claims ≡ zip points values = cc in
      let first : c.point ≡ p = ap (λ t. t.0) one in
      ap (λ q. q ∷ map (λ p. p.point) claims) first
      ∙ ap (λ qs. p ∷ qs) (points-told claims points values (omega (arith, long)) rest)

  -- and the values
  values-told : (claims : List (PointOpening E)) (points : List E) (values : List (List E)) →
      length values ≡ length points → map point_told claims ≡ zip points values →
      map (λ p. p.values.items) claims ≡ values
  values-told [] [] [] long told = refl
  values-told [] [] (v ∷ values) long told = absurd (omega (arith, long))
  values-told [] (p ∷ points) [] long told = absurd (omega (arith, long))
  values-told [] (p ∷ points) (v ∷ values) long told = absurd (cc)
  values-told (c ∷ claims) [] values long told = absurd (cc)
  values-told (c ∷ claims) (p ∷ points) [] long told = absurd (omega (arith, long))
  values-told (c ∷ claims) (p ∷ points) (v ∷ values) long told =
      let one : point_told c ≡ (p, v) = cc in
      let rest : map point_told claims ≡ zip points values = cc in
      let first : c.values.items ≡ v = ap (λ t. t.1) one in
      ap (λ q. q ∷ map (λ p. p.values.items) claims) first
      ∙ ap (λ qs. v ∷ qs) (values-told claims points values (omega (arith, long)) rest)

module _ {E Dom M : Type 0} (size : Dom → ℕ) where
  -- the claims of a batch, told by their domains, points and values
  are-claimed : (batch : List (Dom × M)) (asked : List (List E)) (answers : List (List (List E)))
      (claims : List (MatrixOpening E Dom)) → length asked ≡ length batch →
      AllZip (λ ps vs. length vs ≡ length ps) asked answers →
      All (λ ts. 1 ≤ length ts) asked → map matrix_told claims
      ≡ pairwise matrix_claimed (zip (map (λ m. m.0) batch) asked) answers →
      AreClaimedOf size batch asked answers claims
  are-claimed [] [] [] [] long all some told = tt
  are-claimed [] [] [] (c ∷ claims) long all some told = absurd (cc)
  are-claimed [] [] (v ∷ answers) claims long all some told = absurd all
  are-claimed [] (p ∷ asked) answers claims long all some told = absurd (omega (arith, long))
  are-claimed (m ∷ batch) [] answers claims long all some told = absurd (omega (arith, long))
  are-claimed (m ∷ batch) (p ∷ asked) [] claims long all some told = absurd all
  are-claimed (m ∷ batch) (p ∷ asked) (v ∷ answers) [] long all some told = absurd (cc)
  are-claimed (m ∷ batch) (p ∷ asked) (v ∷ answers) (c ∷ claims) long all some told =
      let one : matrix_told c ≡ matrix_claimed (m.0, p) v = cc in
      let rest : map matrix_told claims ≡ pairwise matrix_claimed (zip (map (λ m. m.0) batch) asked)
      answers = cc in
      let domain : c.domain ≡ m.0 = ap (λ t. t.0) one in
      let at : map point_told c.points.items ≡ zip p v = ap (λ t. t.1) one in (
        record {
          domain = ap size domain;
          points = points-told c.points.items p v all.0 at;
          values = values-told c.points.items p v all.0 at;
          some = All-head (λ ts. 1 ≤ length ts) p asked some;
        },
        are-claimed batch asked answers claims (omega (arith, long)) all.1
            (All-tail (λ ts. 1 ≤ length ts) p asked some) rest,
      )

module _ {E Com Data Dom : Type 0} where
  -- requests of what was kept, at the points
  pub record AskFor (committed : List (Committed E Com Data Dom))
      (requests : List (OpeningRequest Data E)) : Type 0 where
    pub kept : map (λ r. r.prover_data.now) requests ≡ map (λ c. c.prover_data) committed
    pub points : map requested_points requests ≡ map (λ c. lists c.known.points) committed

  ask-rest : (c : Committed E Com Data Dom) (cs : List (Committed E Com Data Dom))
      (r : OpeningRequest Data E) (rs : List (OpeningRequest Data E)) → AskFor (c ∷ cs) (r ∷ rs) →
      AskFor cs rs
  ask-rest c cs r rs asked = let kept = asked.kept in let points = asked.points in
      record { kept = cc; points = cc }

  ask-none : (c : Committed E Com Data Dom) (cs : List (Committed E Com Data Dom)) →
      AskFor (c ∷ cs) [] → ⊥
  ask-none c cs asked = let kept = asked.kept in cc

  ask-some : (r : OpeningRequest Data E) (rs : List (OpeningRequest Data E)) → AskFor [] (r ∷ rs) →
      ⊥
  ask-some r rs asked = let kept = asked.kept in cc

  ask-kept : (c : Committed E Com Data Dom) (cs : List (Committed E Com Data Dom))
      (r : OpeningRequest Data E) (rs : List (OpeningRequest Data E)) → AskFor (c ∷ cs) (r ∷ rs) →
      r.prover_data.now ≡ c.prover_data
  ask-kept c cs r rs asked = let kept = asked.kept in cc

  ask-points : (c : Committed E Com Data Dom) (cs : List (Committed E Com Data Dom))
      (r : OpeningRequest Data E) (rs : List (OpeningRequest Data E)) → AskFor (c ∷ cs) (r ∷ rs) →
      requested_points r ≡ lists c.known.points
  ask-points c cs r rs asked = let points = asked.points in cc

  pub asks-for : (seen committed : List (Committed E Com Data Dom))
      (requests : List (OpeningRequest Data E)) → seen ≡ committed →
      map (λ r. r.prover_data.now) requests ≡ map (λ c. c.prover_data) seen →
      map requested_points requests ≡ map (λ c. lists c.known.points) seen →
      AskFor committed requests
  asks-for seen committed requests same kept points =
      subst (λ cs. AskFor cs requests) same (record { kept = kept; points = points })

module _ {E Com Data Dom M : Type 0} (commits : List (Dom × M) → Com → Data → Type 0) where
  -- requests for what was committed to are requests for the batches
  pub are-requests : (batches : List (BatchAtPoints E Dom M))
      (committed : List (Committed E Com Data Dom)) (requests : List (OpeningRequest Data E)) →
      AreCommitted commits batches committed → AskFor committed requests →
      AreRequestsOf commits batches requests
  are-requests [] [] [] all asked = tt
  are-requests [] [] (r ∷ rs) all asked = absurd (ask-some r rs asked)
  are-requests [] (c ∷ cs) rs all asked = absurd all
  are-requests (b ∷ bs) [] rs all asked = absurd all
  are-requests (b ∷ bs) (c ∷ cs) [] all asked = absurd (ask-none c cs asked)
  are-requests (b ∷ bs) (c ∷ cs) (r ∷ rs) all asked =
      let is : IsCommitted commits b c = all.0 in
      let kept = ask-kept c cs r rs asked in
      let points = ask-points c cs r rs asked in
      let this : IsRequestOf commits b r = record {
        commitment = c.known.commitment;
        committed = subst (commits b.evaluations.items c.known.commitment) (sym kept) is.committed;
        points = points ∙ ap lists is.points;
      } in
      (this, are-requests bs cs rs all.1 (ask-rest c cs r rs asked))

  -- they are of kept data
  pub are-kept : (batches : List (BatchAtPoints E Dom M))
      (requests : List (OpeningRequest Data E)) → AreRequestsOf commits batches requests →
      AreKept commits requests
  are-kept [] [] all = All-nil _
  are-kept [] (r ∷ rs) all = absurd all
  are-kept (b ∷ bs) [] all = absurd all
  are-kept (b ∷ bs) (r ∷ rs) all =
      let is : IsRequestOf commits b r = all.0 in
      let Kept : OpeningRequest Data E → Type 0 = λ r. (b : List (Dom × M)) × (c : Com)
      × commits b c r.prover_data.now in
      All-cons Kept r rs (b.evaluations.items, is.commitment, is.committed) (are-kept bs rs all.1)

  -- they are honest where the batches may be opened at their points
  pub are-honest : (OpensAt : List (Dom × M) → List (List E) → Type 0)
      (batches : List (BatchAtPoints E Dom M)) (requests : List (OpeningRequest Data E)) →
      AreRequestsOf commits batches requests →
      All (λ b. OpensAt b.evaluations.items (lists b.points)) batches →
      All (IsHonest commits OpensAt) requests
  are-honest OpensAt [] [] all can = All-nil _
  are-honest OpensAt [] (r ∷ rs) all can = absurd all
  are-honest OpensAt (b ∷ bs) [] all can = absurd all
  are-honest OpensAt (b ∷ bs) (r ∷ rs) all can =
      let is : IsRequestOf commits b r = all.0 in
      let this : IsHonest commits OpensAt r = record {
        batch = b.evaluations.items;
        commitment = is.commitment;
        committed = is.committed;
        opens =
            subst (OpensAt b.evaluations.items) (sym is.points)
            (All-head (λ b. OpensAt b.evaluations.items (lists b.points)) b bs can);
      } in
      All-cons (IsHonest commits OpensAt) r rs this
      (are-honest OpensAt bs rs all.1
      (All-tail (λ b. OpensAt b.evaluations.items (lists b.points)) b bs can))

  pub honest-requests : {S : Type 0} (OpensAt : List (Dom × M) → List (List E) → Type 0)
      (Finds : List (OpeningRequest Data E) → S → Type 0) (batches : List (BatchAtPoints E Dom M))
      (requests : List (OpeningRequest Data E)) (state : S) →
      AreRequestsOf commits batches requests →
      AreHonestBatches commits OpensAt Finds batches state → AreHonest commits OpensAt requests
  honest-requests OpensAt Finds batches requests state all honest =
      let long = AllZip-long (IsRequestOf commits) batches requests all in
      let some = honest.some in
      (omega (arith, long, some), are-honest OpensAt batches requests all honest.opens)

  -- what is returned are the values of the batches
  pub are-values : (ValuesOf : List (Dom × M) → List (List E) → List (List (List E)) → Type 0)
      (batches : List (BatchAtPoints E Dom M)) (requests : List (OpeningRequest Data E))
      (values : Openings E) →
      AreRequestsOf commits batches requests → AreTrueValues commits ValuesOf requests values →
      AreValuesOf ValuesOf batches values
  are-values ValuesOf [] [] [] all true = tt
  are-values ValuesOf [] [] (v ∷ vs) all true = absurd true
  are-values ValuesOf [] (r ∷ rs) vs all true = absurd all
  are-values ValuesOf (b ∷ bs) [] vs all true = absurd all
  are-values ValuesOf (b ∷ bs) (r ∷ rs) [] all true = absurd true
  are-values ValuesOf (b ∷ bs) (r ∷ rs) (v ∷ vs) all true =
      let is : IsRequestOf commits b r = all.0 in (
        subst (λ ps. ValuesOf b.evaluations.items ps v) is.points
            (true.0 b.evaluations.items is.commitment is.committed),
        are-values ValuesOf bs rs vs all.1 true.1,
      )

  -- there are values for each point
  pub have-answers : (batches : List (BatchAtPoints E Dom M))
      (committed : List (Committed E Com Data Dom)) (requests : List (OpeningRequest Data E))
      (values : Openings E) → All HasPoints batches →
      AreCommitted commits batches committed → AskFor committed requests →
      HaveValues requests values → HaveAnswers committed values
  have-answers [] [] [] [] points all asked have = tt
  have-answers [] [] [] (v ∷ vs) points all asked have = absurd have
  have-answers [] [] (r ∷ rs) vs points all asked have = absurd (ask-some r rs asked)
  have-answers [] (c ∷ cs) rs vs points all asked have = absurd all
  have-answers (b ∷ bs) [] rs vs points all asked have = absurd all
  have-answers (b ∷ bs) (c ∷ cs) [] vs points all asked have = absurd (ask-none c cs asked)
  have-answers (b ∷ bs) (c ∷ cs) (r ∷ rs) [] points all asked have = absurd have
  have-answers (b ∷ bs) (c ∷ cs) (r ∷ rs) (v ∷ vs) points all asked have =
      let is : IsCommitted commits b c = all.0 in
      let first : HasPoints b = All-head HasPoints b bs points in
      let at = ask-points c cs r rs asked in
      let long : length c.known.domains.items ≡ length b.evaluations.items = ap length is.domains
      ∙ length-map b.evaluations.items (λ m. m.0) in
      let this : HasAnswers c v = record {
        each = ap (λ ps. length ps.items) is.points ∙ first.each ∙ sym long;
        answers = subst (λ ps. AllZip (λ points vs. length vs ≡ length points) ps v) at have.0;
      } in (
        this,
        have-answers bs cs rs vs (All-tail HasPoints b bs points) all.1
            (ask-rest c cs r rs asked) have.1,
      )

  -- the claims on what is known of the batches are of what is returned
  pub are-answered : (size : Dom → ℕ) (batches : List (BatchAtPoints E Dom M))
      (committed : List (Committed E Com Data Dom)) (requests : List (OpeningRequest Data E))
      (values : Openings E) (claims : List (CommitmentOpening E Com Dom)) →
      All HasPoints batches → AreCommitted commits batches committed → AskFor committed requests →
      HaveAnswers committed values → map batch_told claims
      ≡ pairwise batch_claimed (map (λ c. c.known) committed) values →
      AreAnsweredBy size commits requests values claims
  are-answered size [] [] [] [] [] points all asked have told = tt
  are-answered size [] [] [] [] (q ∷ qs) points all asked have told = absurd (cc)
  are-answered size [] [] [] (v ∷ vs) qs points all asked have told = absurd have
  are-answered size [] [] (r ∷ rs) vs qs points all asked have told = absurd (ask-some r rs asked)
  are-answered size [] (c ∷ cs) rs vs qs points all asked have told = absurd all
  are-answered size (b ∷ bs) [] rs vs qs points all asked have told = absurd all
  are-answered size (b ∷ bs) (c ∷ cs) [] vs qs points all asked have told =
      absurd (ask-none c cs asked)
  are-answered size (b ∷ bs) (c ∷ cs) (r ∷ rs) [] qs points all asked have told = absurd have
  are-answered size (b ∷ bs) (c ∷ cs) (r ∷ rs) (v ∷ vs) [] points all asked have told = absurd (cc)
  are-answered size (b ∷ bs) (c ∷ cs) (r ∷ rs) (v ∷ vs) (q ∷ qs) points all asked have told =
      let is : IsCommitted commits b c = all.0 in
      let has : HasAnswers c v = have.0 in
      let first : HasPoints b = All-head HasPoints b bs points in
      let kept = ask-kept c cs r rs asked in
      let at = ask-points c cs r rs asked in
      let one : batch_told q ≡ batch_claimed c.known v = cc in
      let more : map batch_told qs ≡ pairwise batch_claimed (map (λ c. c.known) cs) vs = cc in
      let same : q.commitment ≡ c.known.commitment = ap (λ t. t.0) one in
      let matrices : map matrix_told q.matrices.items ≡ pairwise matrix_claimed
      (zip c.known.domains.items (lists c.known.points)) v = ap (λ t. t.1) one in
      let some : All (λ ts. 1 ≤ length ts) (requested_points r) =
      subst (All (λ ts. 1 ≤ length ts)) (sym (at ∙ ap lists is.points)) first.some in
      let long : length (requested_points r) ≡ length b.evaluations.items =
      ap length at ∙ length-map c.known.points.items (λ p. p.items) ∙ has.each
      ∙ ap length is.domains ∙ length-map b.evaluations.items (λ m. m.0) in
      let this : IsAnsweredBy size commits r v q = record {
        batch = b.evaluations.items;
        committed = subst (λ d. commits b.evaluations.items q.commitment d) (sym kept)
            (subst (λ root. commits b.evaluations.items root c.prover_data) (sym same)
            is.committed);
        claims =
            are-claimed size b.evaluations.items (requested_points r) v q.matrices.items long
            (subst (λ ps. AllZip (λ points vs. length vs ≡ length points) ps v) (sym at)
            has.answers) some
            (subst (λ ps. map matrix_told q.matrices.items
            ≡ pairwise matrix_claimed (zip (map (λ m. m.0) b.evaluations.items) ps) v) (sym at)
            (subst (λ ds. map matrix_told q.matrices.items
            ≡ pairwise matrix_claimed (zip ds (lists c.known.points)) v) is.domains matrices));
      } in (
        this,
        are-answered size bs cs rs vs qs (All-tail HasPoints b bs points) all.1
            (ask-rest c cs r rs asked) have.1 more,
      )

-- what a call refuses for is handed on
pub handed : {A E : Type 0} (P : E → Type 0) (r : Result A E) (e : E) → IsErrAnd r (λ x. x ≡ e) →
    P e → IfErr r P
handed P (Ok x) e same holds = tt
handed P (Err x) e same holds = subst P (sym same) holds

-- a batch that isn't committed to is one of all
pub one-uncommitted : {E Dom M PE VE : Type 0} (Refuses : List (Dom × M) → PE → Type 0)
    (batches : List (BatchAtPoints E Dom M)) (i : ℕ) (b : BatchAtPoints E Dom M) →
    i < length batches → b ≡ slice_index_or batches i b →
    (e : RoundTripError PE VE) → IsUncommitted Refuses b e → IsUncommittedOf Refuses batches e
one-uncommitted Refuses batches i b lt is (Commit e) why = (i, b, lt, sym is, why)
one-uncommitted Refuses batches i b lt is (Open e) why = absurd why
one-uncommitted Refuses batches i b lt is (Verify e) why = absurd why
one-uncommitted Refuses batches i b lt is Memory why = tt

-- one more batch that is committed to
pub one-more-committed : {E Com Data Dom M : Type 0} (commits : List (Dom × M) → Com → Data →
    Type 0) (batches : List (BatchAtPoints E Dom M)) (committed : List (Committed E Com Data Dom))
    (b : BatchAtPoints E Dom M) (c : Committed E Com Data Dom) →
    AreCommitted commits batches committed → IsCommitted commits b c →
    AreCommitted commits (batches ++ b ∷ []) (committed ++ c ∷ [])
one-more-committed commits [] [] b c all is = (is, tt)
one-more-committed commits [] (d ∷ committed) b c all is = absurd all
one-more-committed commits (a ∷ batches) [] b c all is = absurd all
one-more-committed commits (a ∷ batches) (d ∷ committed) b c all is =
    (all.0, one-more-committed commits batches committed b c all.1 is)

module _ {E Dom M PE VE : Type 0} (of_prover : PE → Bool) (of_verifier : VE → Bool)
    (OpensAt : List (Dom × M) → List (List E) → Type 0) (Refuses : List (Dom × M) → PE → Type 0)
    (honest : (batch : List (Dom × M)) (points : List (List E)) (e : PE) → OpensAt batch points →
    Refuses batch e → IsTrue (of_prover e)) where
  -- batches that may be opened are committed to, where memory suffices
  pub of-memory : (batches : List (BatchAtPoints E Dom M)) →
      All (λ b. OpensAt b.evaluations.items (lists b.points)) batches → (e : RoundTripError PE VE) →
      IsUncommittedOf Refuses batches e → IsOfMemory of_prover of_verifier e
  of-memory batches can (Commit e) (i, b, lt, is, why) =
      honest b.evaluations.items (lists b.points) e
      (All-contains (λ b. OpensAt b.evaluations.items (lists b.points)) batches b can (i, lt, is))
      why
  of-memory batches can (Open e) why = absurd why
  of-memory batches can (Verify e) why = absurd why
  of-memory batches can Memory why = tt

module _ {E Com Data Dom M S PE VE Proof : Type 0} (size : Dom → ℕ) (commits : List (Dom × M) →
    Com → Data → Type 0) (commit_refuses : List (Dom × M) → PE → Type 0)
    (open_gives : List (OpeningRequest Data E) → S → Openings E → Proof → S → Type 0)
    (open_refuses : List (OpeningRequest Data E) → S → S → PE → Type 0)
    (verify_refuses : List (CommitmentOpening E Com Dom) → Proof → S → S → VE → Type 0)
    (batches : List (BatchAtPoints E Dom M)) where
  -- what isn't committed to is the reason
  pub why-uncommitted : (s t : S) → t ≡ s → (e : RoundTripError PE VE) →
      IsUncommittedOf commit_refuses batches e →
      IsReason size commits commit_refuses open_gives open_refuses verify_refuses batches s s t e
  why-uncommitted s t same (Commit e) why = (why, refl, same)
  why-uncommitted s t same (Open e) why = absurd why
  why-uncommitted s t same (Verify e) why = absurd why
  why-uncommitted s t same Memory why = tt
