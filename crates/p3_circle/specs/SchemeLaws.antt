-- The laws of the traits of schemes that rest on the mathematics of an opening, of the scheme.
use Rattle.std.specs.Prelude.{◌≡◌, ◌↔◌, ◌⊎◌, ℕ, ◌^◌, ◌<◌, ◌≤◌, Bool, true, false, IsTrue, List}
use Rattle.std.specs.Prelude.{[], ◌∷◌, length, zip, All, Ok, slice_index_or}
use Rattle.std.specs.List.{AllByRecursion, AllZip}
use Rattle.std.proofs.Common.{refl, sym, subst, arith, inl, inr}
use Rattle.std.proofs.lemmas.Bool.{cases_Bool}
use Rattle.std.proofs.lemmas.List.Elements.{recursion_from_All}
use Rattle.circle_completeness.proofs.Accepted.{accepts-openings}
use Rattle.circle_completeness.proofs.ReadRows.{low-read}
use Rattle.circle_challenger.specs.Moves.{RunMoves}
use Rattle.circle_commit.specs.Mmcs.{HaveHeightsOfPowers}
use Rattle.circle_commit.specs.Pcs.{Openings}
use Rattle.circle_commit.specs.declared.matrix.RowMajorMatrix.{RowMajorMatrix}
use Rattle.circle_commit.specs.declared.params.FriParameters.{FriParameters}
use Rattle.circle_commit.specs.declared.pcs.CommitmentOpening.{CommitmentOpening}
use Rattle.circle_commit.specs.declared.pcs.OpeningRequest.{OpeningRequest}
use Rattle.circle_completeness.proofs.TrueAnswers.{never-too-high}
use Rattle.circle_domain.specs.declared.domain.CircleDomain.{CircleDomain}
use Rattle.circle_field.specs.Circle.{AreGenerators, Coordinates}
use Rattle.circle_field.specs.Field.{FieldLaws, FieldOps, IsEmbedding}
use Rattle.circle_field.specs.declared.field.Operations.{Ghosts}
use Rattle.circle_prover.specs.Opening.{IsFailure, IsStuckOn}
use Rattle.circle_codewords.specs.Requests.{AreAnswers, AreValuesOf, IsFit, IsOpenable}
use Rattle.circle_relation.specs.declared.error.ProverError.{ProverError}
use Rattle.circle_commit.specs.declared.params.PowPhase.{PowPhase}
use Rattle.circle_relation.specs.TestsInOrder.{answer}
use Rattle.circle_relation.specs.declared.error.ProverError.TheVariants.{Memory}
use Rattle.circle_relation.specs.declared.error.ProverError.TheVariants.{NoGrindingWitness}
use Rattle.circle_relation.specs.declared.error.ProverError.TheVariants.{PointOnDomain}
use Rattle.circle_commit.specs.Honest.{AreAnsweredBy, AreHonest, HaveValues, requested_points}
use Rattle.circle_relation.specs.Accepts.{Authenticates, Fields}
use Rattle.circle_relation.specs.RunOf.{proof_of}
use Rattle.circle_relation.specs.StatementOf.{batch_claims}
use Rattle.circle_relation.specs.declared.proof.CirclePcsProof.{CirclePcsProof}
use Rattle.p3_circle.specs.Committing.{commit_tests}
use Rattle.p3_circle.specs.Honest.{AreValuesOfBatch, FindsWitnesses, IsHonestBatch}
use Rattle.circle_prover.specs.Requesting.{is_unfit, meets_domains, opening_tests}
use Rattle.p3_circle.specs.Scheme.{IsCommitted, IsFirstFrom, IsFirstOf, IsGiven, says_prover_memory}
use Rattle.p3_circle.specs.SchemeFacts.{extended-powers}
use Rattle.p3_circle.specs.Verdict.{IsAccepted}
use Rattle.p3_circle.specs.SchemeLaws.HonestOpenings.{all-valued, answered-kept, are-claimed}
use Rattle.p3_circle.specs.SchemeLaws.HonestOpenings.{are-pointed, commits, kept-low, points_in}
use Rattle.p3_circle.specs.SchemeLaws.HonestTests.{IsKeptToAsk, asked-on-domain, asked-pass}
use Rattle.p3_circle.specs.SchemeLaws.HonestTests.{honest-passes, refused-from, requests-pass}
use Rattle.p3_circle.specs.SchemeLaws.HonestTests.{unrefused, unrefused-from}
use Rattle.circle_prover.proofs.Unrefused.{are-fit, are-requests}
pub mod HonestTests
pub mod HonestOpenings

memory-is : (err : ProverError) → err ≡ Memory → IsTrue (says_prover_memory err)
memory-is err is = subst (λ e. IsTrue (says_prover_memory e)) (sym is) refl

-- a list of values for each requested point
values-counted : {F E : Type 0} (k : Fields F E) (blowup : ℕ) (ms : List (RowMajorMatrix F))
    (points : List (List E)) (values : List (List (List E))) → length values ≡ length points →
    (length ms ≡ length points) → AllZip (λ m rest. AreValuesOf k blowup m rest.0 rest.1) ms
    (zip points values) → AllZip (λ ts vs. length vs ≡ length ts) points values
values-counted k blowup ms [] [] long same are = tt
values-counted k blowup ms [] (v ∷ values) long same are = absurd (omega (arith, long))
values-counted k blowup ms (t ∷ points) [] long same are = absurd (omega (arith, long))
values-counted k blowup [] (t ∷ points) (v ∷ values) long same are = absurd (omega (arith, same))
values-counted k blowup (m ∷ ms) (t ∷ points) (v ∷ values) long same are = (
  are.0.count,
  values-counted k blowup ms points values (omega (arith, long)) (omega (arith, same)) are.1,
)

same-lengths : {A B : Type 0} (R : A → B → Type 0) (xs : List A) (ys : List B) → AllZip R xs ys →
    length xs ≡ length ys
same-lengths R [] [] all = refl
same-lengths R [] (y ∷ ys) all = absurd all
same-lengths R (x ∷ xs) [] all = absurd all
same-lengths R (x ∷ xs) (y ∷ ys) all = let rest = same-lengths R xs ys all.1 in omega (arith, rest)

all-counted : {D F E : Type 0} (k : Fields F E) (two blowup : ℕ)
    (kept : D → List (RowMajorMatrix F)) (requests : List (OpeningRequest D E))
    (values : Openings E) → AllByRecursion (IsFit kept k blowup two) requests →
    AllZip (AreAnswers kept k blowup) requests values → HaveValues requests values
all-counted k two blowup kept [] [] fit are = tt
all-counted k two blowup kept [] (v ∷ vs) fit are = absurd are
all-counted k two blowup kept (r ∷ rs) [] fit are = absurd are
all-counted k two blowup kept (r ∷ rs) (v ∷ vs) fit are = (
  values-counted k blowup (kept r.prover_data.now) (requested_points r) v are.0.1
      (same-lengths (IsOpenable k two blowup) (kept r.prover_data.now) (requested_points r) fit.0)
      are.0.0,
  all-counted k two blowup kept rs vs fit.1 are.1,
)

pub each-point : {C S D F E I M IC IP ID IE WC WD WP WE : Type 0} {k : Fields F E} {two : ℕ}
    {p : FriParameters M} {kept : D → List (RowMajorMatrix F)}
    {Commits : List (RowMajorMatrix F) → IC → Type 0} {r : RunMoves C S F E WC}
    {authenticates : Authenticates IC F IP} {WordCommits : List (RowMajorMatrix E) → WC → Type 0}
    {word_authenticates : Authenticates WC E WP}
    (requests : List (OpeningRequest D E)) (values : Openings E)
    (proof : CirclePcsProof F E I M F IC ID IP IE WC WD WP WE) (s t : S) →
    IsGiven p kept k r Commits authenticates WordCommits word_authenticates two requests s values
    proof t → HaveValues requests values
each-point {k = k} {two} {p} {kept} requests values proof s t given =
    all-counted k two p.log_blowup kept requests values
    (recursion_from_All (IsFit kept k p.log_blowup two) requests given.asked.fit) given.answers

-- what is returned are the values of the batches' polynomials
pub true-values : {C S D F E I M IC IP ID IE WC WD WP WE : Type 0} (g : Ghosts F) (k : Fields F E)
    (base : FieldLaws k.field) (laws : FieldLaws k.extension)
    (e : IsEmbedding k.field k.extension k.embed)
    (two : ℕ) (gens : AreGenerators k.field two k.gen) (p : FriParameters M)
    (kept : D → List (RowMajorMatrix F)) (Commits : List (RowMajorMatrix F) → IC → Type 0)
    (r : RunMoves C S F E WC)
    (authenticates : Authenticates IC F IP) (WordCommits : List (RowMajorMatrix E) → WC → Type 0)
    (word_authenticates : Authenticates WC E WP)
    (requests : List (OpeningRequest D E)) (values : Openings E)
    (proof : CirclePcsProof F E I M F IC ID IP IE WC WD WP WE) (s t : S) →
    IsGiven p kept k r Commits authenticates WordCommits word_authenticates two requests s values
    proof t →
    AllZip (λ r v. (batch : List (CircleDomain F g × RowMajorMatrix F)) (commitment : IC) →
    IsCommitted k.field k.gen p.log_blowup Commits batch commitment (kept r.prover_data.now) →
    AreValuesOfBatch k batch (requested_points r) v) requests values
true-values g k base laws e two gens p kept Commits r authenticates WordCommits word_authenticates
    requests values proof s t given =
    all-valued g k two p base laws e gens kept Commits requests values
    (recursion_from_All (IsFit kept k p.log_blowup two) requests given.asked.fit) given.answers

-- a batch that may be opened is committed to, where memory suffices
pub honest-commit : {F E M : Type 0} {g : Ghosts F} {gen : ℕ → Coordinates F} {l : FieldOps E}
    {embed : F → E} (f : FieldOps F) (eq : F → F → Bool) (eq_law : (a b : F) →
    (eq a b ≡ true) ↔ (a ≡ b)) (two : ℕ) (p : FriParameters M)
    (batch : List (CircleDomain F g × RowMajorMatrix F)) (points : List (List E))
    (err : ProverError) → IsHonestBatch f gen l embed two p batch points →
    IsFirstOf (commit_tests two p eq f batch) err → IsTrue (says_prover_memory err)
honest-commit {gen = gen} {l} {embed} f eq eq_law two p batch points err honest refused =
    memory-is err
    (unrefused (commit_tests two p eq f batch) (λ x. x ≡ Memory) err
    (honest-passes f eq eq_law two p gen l embed batch points honest) refused)

module _ {F E M : Type 0} {g : Ghosts F} (k : Fields F E) (base : FieldLaws k.field)
    (laws : FieldLaws k.extension) (e : IsEmbedding k.field k.extension k.embed)
    (eq : F → F → Bool) (eq_law : (a b : F) → (eq a b ≡ true) ↔ (a ≡ b)) (same : E → E → Bool)
    (law : (a b : E) → (same a b ≡ true) ↔ (a ≡ b))
    (small : k.two_adicity ≤ 62) (gens : AreGenerators k.field k.two_adicity k.gen)
    (p : FriParameters M)
  where
    module _ {D IC : Type 0} (kept : D → List (RowMajorMatrix F))
        (Commits : List (RowMajorMatrix F) → IC → Type 0) where
      abbrev CommitsTo : List (CircleDomain F g × RowMajorMatrix F) → IC → D → Type 0
      CommitsTo = commits k k.two_adicity p kept Commits

      module _ {C S WC : Type 0} (r : RunMoves C S F E WC)
          (WordCommits : List (RowMajorMatrix E) → WC → Type 0)
          (requests : List (OpeningRequest D E)) (s t : S) (err : ProverError) where
        -- requests for what was committed to that pass the tests are refused only for want of
        -- memory, or where no witness passes
        failed-by : All (λ r. (batch : List (CircleDomain F g × RowMajorMatrix F))
            × (commitment : IC) × CommitsTo batch commitment r.prover_data.now) requests →
            answer (opening_tests kept requests k.two_adicity p k same) (tt {0}) ≡ Ok (tt {0}) →
            IsFailure k r p WordCommits kept requests s err →
            (err ≡ Memory) ⊎ ((values : Openings E)
            × AllZip (AreAnswers kept k p.log_blowup) requests values
            × IsStuckOn k r p WordCommits kept requests values s err)
        failed-by known ok failure =
            let powers : All (λ r. HaveHeightsOfPowers (kept r.prover_data.now)) requests =
            λ i d lt.
            let (batch, commitment, told) = known i d lt in
            extended-powers k.field k.gen p.log_blowup Commits batch
            (kept (slice_index_or requests i d).prover_data.now) told.extended in
            let asked =
            are-requests kept requests k.two_adicity p k same law base laws e gens powers ok in
            let low = kept-low k k.two_adicity p kept Commits requests known asked in
            let never = never-too-high k base laws e eq eq_law same law gens kept p requests
            (are-fit kept requests k.two_adicity p k same ok) asked r WordCommits low s err
            failure in
            elim failure [
              | inl memory ↦ inl memory
              | inr rest ↦
                  elim rest.2 [
                    | inl high ↦ absurd (never high.0)
                    | inr stuck ↦ inr (rest.0, rest.1, stuck)
                  ]
            ]

        -- honest requests are opened, where memory suffices and witnesses are found
        pub honest-open :
            AreHonest CommitsTo (IsHonestBatch k.field k.gen k.extension k.embed k.two_adicity p)
            requests →
            FindsWitnesses k r p WordCommits kept requests s →
            IsFirstFrom (opening_tests kept requests k.two_adicity p k same)
            (IsFailure k r p WordCommits kept requests s) s t err
            → IsTrue (says_prover_memory err)
        honest-open honest finds refused =
            let tests = opening_tests kept requests k.two_adicity p k same in
            let ok = requests-pass k same law k.two_adicity small p kept Commits requests honest.0
            honest.1 in
            let failure = unrefused-from tests (IsFailure k r p WordCommits kept requests s) s t err
            ok refused in
            memory-is err (elim (failed-by
            (λ i d lt. let h = honest.1 i d lt in (h.batch, h.commitment, h.committed)) ok
            failure) [
              | inl memory ↦ memory
              | inr stuck ↦ absurd (finds.never_stuck stuck.0 err stuck.1 stuck.2)
            ])

        -- requests at any finite points for what was committed to are refused only for want of
        -- memory, for a point on a domain, or where no witness passes
        pub asked-open : 1 ≤ length requests →
            All (IsKeptToAsk g k k.two_adicity p kept Commits) requests → is_unfit p ≡ false →
            IsFirstFrom (opening_tests kept requests k.two_adicity p k same)
            (IsFailure k r p WordCommits kept requests s) s t err →
            (err ≡ Memory) ⊎ ((err ≡ PointOnDomain)
            ⊎ ((phase : PowPhase) × (err ≡ NoGrindingWitness phase)))
        asked-open some known fit refused =
            let tests = opening_tests kept requests k.two_adicity p k same in
            let Fails = IsFailure k r p WordCommits kept requests s in
            elim (cases_Bool (meets_domains kept requests k same)) [
              | inl on ↦
                  inr (inl (refused-from tests Fails s t err PointOnDomain
                  (asked-on-domain k same law k.two_adicity small p kept Commits requests some known
                  fit on) refused))
              | inr off ↦
                  let ok = asked-pass k same law k.two_adicity small p kept Commits requests some
                  known fit off in
                  elim (failed-by
                  (λ i d lt. let h = known i d lt in (h.batch, h.commitment, h.committed)) ok
                  (unrefused-from tests Fails s t err ok refused)) [
                    | inl memory ↦ inl memory
                    | inr stuck ↦ inr (inr (stuck.2.0, stuck.2.1))
                  ]
            ]

      -- claims of what is returned are accepted from the same state
      pub opening-accepted : {C S I IP ID IE WC WD WP WE : Type 0} (r : RunMoves C S F E WC)
          (below : (s : S) (n : ℕ) → n ≤ 63 → r.base.sampled_bits s n < 2 ^ n)
          (inputs : I → Authenticates IC F IP) (words : M → Authenticates WC E WP)
          (mmcs : I) (WordCommits : List (RowMajorMatrix E) → WC → Type 0)
          (requests : List (OpeningRequest D E)) (values : Openings E)
          (proof : CirclePcsProof F E I M F IC ID IP IE WC WD WP WE) (s t : S) →
          IsGiven p kept k r Commits (inputs mmcs) WordCommits (words p.mmcs) k.two_adicity requests
          s values
          proof t → (claims : List (CommitmentOpening E IC (CircleDomain F g))) →
          AreAnsweredBy points_in CommitsTo requests values claims →
          IsAccepted k r inputs words mmcs p claims proof s t
      opening-accepted r below inputs words mmcs WordCommits requests values proof s t given claims
          answered =
          let kept_of = answered-kept k k.two_adicity p kept Commits requests values claims
          answered in
          let low = kept-low k k.two_adicity p kept Commits requests kept_of given.asked in
          let accepted =
          accepts-openings k base laws e gens small r below p kept Commits (inputs mmcs) WordCommits
          (words p.mmcs) requests given.parameters given.arity given.asked
          (low-read k p kept requests low) values given.answers (proof_of proof) s t given.opening
          (batch_claims claims) (are-claimed k k.two_adicity p kept Commits requests values claims
          (recursion_from_All (IsFit kept k p.log_blowup k.two_adicity) requests given.asked.fit)
          answered)
          (are-pointed k k.two_adicity p kept Commits requests values claims answered) in
          record { drawn = accepted.drawn; draws = accepted.draws; accepts = accepted.accepts }
