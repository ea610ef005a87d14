-- A last codeword that isn't constant is reported only of matrices that are not of low degree.
use Rattle.std.specs.Prelude.{◌≡◌, ◌≢◌, ◌↔◌, ℕ, Bool, true, false, List, [], ◌∷◌, ◌++◌, flat_map}
use Rattle.std.specs.Prelude.{All, MatchResult, Result, Ok, Err}
use Rattle.std.specs.List.{AllByRecursion}
use Rattle.std.proofs.Common.{refl, sym, ◌∙◌}
use Rattle.circle_challenger.specs.Moves.{RunMoves}
use Rattle.circle_completeness.specs.Honest.{AreOfLowDegree}
use Rattle.circle_completeness.proofs.TrueAnswers.{never-too-high}
use Rattle.circle_field.specs.Circle.{AreGenerators}
use Rattle.circle_field.specs.Field.{FieldLaws, IsEmbedding}
use Rattle.circle_commit.specs.Mmcs.{HaveHeightsOfPowers}
use Rattle.circle_commit.specs.RowMajorMatrix.{height_of}
use Rattle.circle_commit.specs.declared.matrix.RowMajorMatrix.{RowMajorMatrix}
use Rattle.circle_commit.specs.declared.params.FriParameters.{FriParameters}
use Rattle.circle_commit.specs.declared.pcs.OpeningRequest.{OpeningRequest}
use Rattle.circle_prover.specs.Opening.{IsFailure}
use Rattle.circle_relation.specs.declared.error.ProverError.{ProverError}
use Rattle.circle_relation.specs.declared.error.ProverError.TheVariants.{LastWordNotConstant}
use Rattle.circle_relation.specs.Accepts.{Fields}
use Rattle.circle_relation.specs.TestsInOrder.{Test, answer}
use Rattle.p3_circle.specs.Calls.{IsOfHighDegreeIf}
use Rattle.circle_prover.specs.Requesting.{height_tests, matrix_tests, opening_tests}
use Rattle.p3_circle.proofs.OwnRows.{low-over}
use Rattle.p3_circle.specs.Scheme.{IsFirstFrom}
use Rattle.circle_prover.proofs.Unrefused.{are-fit, are-requests}

-- tests that refuse for other reasons
abbrev Others : List (Test ProverError) → Type 0
Others tests = AllByRecursion (λ t. t.1 ≢ LastWordNotConstant) tests

both : (xs ys : List (Test ProverError)) → Others xs → Others ys → Others (xs ++ ys)
both [] ys first second = second
both (x ∷ xs) ys first second = (first.0, both xs ys first.1 second)

of-each : {X : Type 0} (tests : X → List (Test ProverError)) → ((x : X) → Others (tests x)) →
    (xs : List X) → Others (flat_map tests xs)
of-each tests each [] = tt
of-each tests each (x ∷ xs) = both (tests x) (flat_map tests xs) (each x) (of-each tests each xs)

other-answer : (tests : List (Test ProverError)) → Others tests → (e : ProverError) →
    answer {A = Unit {0}} tests (tt {0}) ≡ Err e → e ≢ LastWordNotConstant
unfolding answer
other-answer [] others e is = absurd (cc)
other-answer ((true, f) ∷ tests) others e is =
    λ high. others.0 (let same : f ≡ e = cc in same ∙ high)
other-answer ((false, f) ∷ tests) others e is = other-answer tests others.1 e is

module _ {D F E M : Type 0} (kept : D → List (RowMajorMatrix F))
    (requests : List (OpeningRequest D E)) (two : ℕ) (p : FriParameters M) (k : Fields F E)
    (same : E → E → Bool) where
  -- the tests of requests do
  requests-others : Others (opening_tests kept requests two p k same)
  unfolding opening_tests
  requests-others =
      let of_matrix : (m : RowMajorMatrix F) → Others (height_tests two p (height_of m)) =
      λ m. ((λ is. cc), ((λ is. cc), tt)) in
      let of_request : (r : OpeningRequest D E) →
      Others (matrix_tests two p (kept r.prover_data.now)) =
      λ r. of-each (λ (m : RowMajorMatrix F). height_tests two p (height_of m)) of_matrix
      (kept r.prover_data.now) in
      let heights =
      of-each (λ (r : OpeningRequest D E). matrix_tests two p (kept r.prover_data.now))
      of_request requests in
      ((λ is. cc), ((λ is. cc), ((λ is. cc), both _ _ heights ((λ is. cc), ((λ is. cc), tt)))))

-- so where that is told some matrix is not of low degree
pub high-degree : {C S D F E M WC : Type 0} (k : Fields F E) (base : FieldLaws k.field)
    (laws : FieldLaws k.extension) (e : IsEmbedding k.field k.extension k.embed)
    (base_eq : F → F → Bool) (base_law : (a b : F) → (base_eq a b ≡ true) ↔ (a ≡ b)) (same : E → E →
    Bool) (law : (a b : E) → (same a b ≡ true) ↔ (a ≡ b))
    (gens : AreGenerators k.field k.two_adicity k.gen) (p : FriParameters M)
    (kept : D → List (RowMajorMatrix F)) (r : RunMoves C S F E WC)
    (WordCommits : List (RowMajorMatrix E) → WC → Type 0)
    (requests : List (OpeningRequest D E)) →
    All (λ r. HaveHeightsOfPowers (kept r.prover_data.now)) requests →
    (s t : S) (err : ProverError) →
    IsFirstFrom (opening_tests kept requests k.two_adicity p k same)
    (IsFailure k r p WordCommits kept requests s) s t err →
    IsOfHighDegreeIf k.field k.gen kept p requests err
high-degree k base laws e base_eq base_law same law gens p kept r WordCommits requests powers s t
    err told =
    λ high others over low.
    by (λ i d lt j e lt'. low-over k others over _ _ (low i d lt j e lt')) high
    (answer (opening_tests kept requests k.two_adicity p k same) (tt {0})) refl told
  where
    by : AreOfLowDegree kept k p requests → err ≡ LastWordNotConstant →
        (a : Result (Unit {0}) ProverError) →
        answer (opening_tests kept requests k.two_adicity p k same) (tt {0}) ≡ a →
        MatchResult a (λ passed. IsFailure k r p WordCommits kept requests s err)
        (λ first. (err ≡ first) × (t ≡ s)) → ⊥
    by low high (Ok u) ok failure =
        never-too-high k base laws e base_eq base_law same law gens kept p requests
        (are-fit kept requests k.two_adicity p k same ok)
        (are-requests kept requests k.two_adicity p k same law base laws e gens powers ok) r
        WordCommits low s err failure high
    by low high (Err f) is first =
        other-answer _ (requests-others kept requests k.two_adicity p k same) f is
        (sym first.0 ∙ high)
