-- The tests before the seeding, one part after another.
use Rattle.std.proofs.Common.{rules, ◌==◌, ◌≡◌, ℕ, Bool, true, false, ◌+◌, ◌-◌, ◌<◌, ◌≤◌, List, []}
use Rattle.std.proofs.Common.{◌∷◌, ◌++◌, length, map, vec_len, refl, sym, ap, ◌∙◌, arith}
use Rattle.std.specs.Prelude.{Result, Ok, Vec, ◌||◌}
use Rattle.std.specs.List.{list_any}
use Rattle.std.specs.Result.{result_and}
use Rattle.std.proofs.lemmas.Bool.{leb-false}
use Rattle.std.specs.declared.alloc.Global.{Global}
use Rattle.circle_field.specs.declared.field.Operations.{Ghosts}
use Rattle.circle_commit.specs.Mmcs.{greatest}
use Rattle.circle_commit.specs.declared.error.FriError.{FriError}
use Rattle.circle_commit.specs.declared.params.FriParameters.{FriParameters}
use Rattle.circle_commit.specs.declared.pcs.CommitmentOpening.{CommitmentOpening}
use Rattle.circle_commit.specs.declared.pcs.MatrixOpening.{MatrixOpening}
use Rattle.circle_commit.specs.declared.pcs.PointOpening.{PointOpening}
use Rattle.circle_domain.specs.declared.domain.CircleDomain.{CircleDomain}
use Rattle.circle_relation.specs.declared.error.InputError.{InputError}
use Rattle.circle_relation.specs.declared.proof.CircleFriProof.{CircleFriProof}
use Rattle.circle_relation.specs.declared.proof.CircleCommitPhaseMultiStep.{CircleCommitPhaseMultiStep}
use Rattle.circle_relation.specs.Statement.{MatrixClaim, BatchClaim, OpeningProof, all_matrices}
use Rattle.circle_relation.specs.Statement.{log_sizes, log_max_height}
use Rattle.circle_relation.specs.StatementOf.{point_claim, matrix_claims, batch_claims}
use Rattle.circle_relation.specs.RunOf.{opened_round}
use Rattle.circle_relation.specs.TestsInOrder.{Test, answer}
use Rattle.circle_verifier.specs.Refusals.{claim_tests, domain_tests, parameter_tests, shape_tests}
use Rattle.circle_verifier.specs.Refusals.{final_test, point_tests, some_point, some_claim}
use Rattle.circle_verifier.specs.Refusals.{seeding_tests}
use Rattle.circle_relation.proofs.Answering.{answer-append, answer-none, passed-value}
use Rattle.circle_relation.proofs.Passed.{AllPass, passed, pass-back}
use Rattle.circle_verifier.proofs.HeightTests.{raised}

module _ {F E M Com WordCom InputProof WordProof C A B : Type 0} (two : ℕ) (is_zero : F → Bool)
    (is_infinite : E → Bool)
    (p : FriParameters M) (batches : List (BatchClaim Com E))
    (proof : OpeningProof F E WordCom InputProof WordProof) where
  abbrev pub claims_part : List (Test (FriError C (InputError A B)))
  claims_part = claim_tests two p.log_blowup p.log_final_poly_len (log_sizes (all_matrices batches))

  abbrev pub parameters_part : List (Test (FriError C (InputError A B)))
  parameters_part = parameter_tests p

  abbrev pub shape_part : List (Test (FriError C (InputError A B)))
  shape_part =
      shape_tests is_zero p
      (log_max_height p.log_blowup (all_matrices batches) - 1 - p.log_blowup -
      p.log_final_poly_len) (length proof.commitments) proof.witnesses proof.query_witness
      (map (λ o. map (λ values. length values) o.entries) proof.rounds_opened)

  abbrev pub final_part : List (Test (FriError C (InputError A B)))
  final_part = final_test p.log_final_poly_len (length proof.final_poly) ∷ []

  abbrev pub points_part : List (Test (FriError C (InputError A B)))
  points_part =
      point_tests p (is_zero proof.batch_witness) (some_claim is_infinite (all_matrices batches))

  abbrev pub all_parts : List (Test (FriError C (InputError A B)))
  all_parts = seeding_tests two is_zero is_infinite p batches proof

  pub parts-are : all_parts ≡ claims_part
      ++ (parameters_part ++ (shape_part ++ (final_part ++ points_part)))
  unfolding seeding_tests
  parts-are = refl

  -- each part decides where those before it refuse nothing
  pub in-turn : {V : Type 0} (v : V) → answer all_parts v
      ≡ result_and (answer claims_part (tt {0}))
      (result_and (answer parameters_part (tt {0}))
      (result_and (answer shape_part (tt {0}))
      (result_and (answer final_part (tt {0}))
      (result_and (answer points_part (tt {0})) (Ok v)))))
  in-turn v =
      ap (λ ts. answer ts v) parts-are ∙ answer-append claims_part _ v
      ∙ ap (result_and (answer claims_part (tt {0})))
      (answer-append parameters_part _ v
      ∙ ap (result_and (answer parameters_part (tt {0})))
      (answer-append shape_part _ v
      ∙ ap (result_and (answer shape_part (tt {0})))
      (answer-append final_part points_part v
      ∙ ap (result_and (answer final_part (tt {0})))
      (answer-append points_part [] v
      ∙ ap (result_and (answer points_part (tt {0}))) (answer-none v)))))

-- what is known of the part that is due
pub turned : {V E : Type 0} {x y : Result (Unit {0}) E} (rest : Result V E) → x ≡ y →
    result_and x rest ≡ result_and y rest
turned rest same = ap (λ r. result_and r rest) same

module _ (C A B : Type 0) (two blowup final : ℕ) where
  -- claims that are not refused leave something to fold
  pub claims_high : (sizes : List ℕ) →
      AllPass (claim_tests {C = C} {A = A} {B = B} two blowup final sizes) →
      final + 1 ≤ greatest sizes
  unfolding AllPass
  claims_high [] all = absurd (let none : (0 == 0) ≡ true = search rules in cc)
  claims_high (n ∷ sizes) all = let low = leb-false n final all.1.0 in omega (arith, low)

  -- and are of heights in the group
  pub claims_in_group : (sizes : List ℕ) →
      AllPass (claim_tests {C = C} {A = A} {B = B} two blowup final sizes) →
      greatest sizes + blowup < two
  unfolding AllPass
  claims_in_group sizes all =
      let last = pass-back (domain_tests {C = C} {A = A} {B = B} final sizes) _ all.1 in
      leb-false two (greatest sizes + blowup) last.0

-- the greatest height of some matrices
pub height_of_claims : {E : Type 0} (blowup : ℕ) (ms : List (MatrixClaim E)) →
    1 ≤ greatest (log_sizes ms) → log_max_height blowup ms ≡ greatest (log_sizes ms) + blowup
height_of_claims blowup [] some = absurd (omega (arith, some))
height_of_claims blowup (m ∷ ms) some = raised blowup m ms

-- what is known of claims that are not refused
pub claims_known : {E : Type 0} (C A B : Type 0) (two blowup final : ℕ) (ms : List (MatrixClaim E))
    (w : ℕ) →
    answer (claim_tests {C = C} {A = A} {B = B} two blowup final (log_sizes ms))
    (log_max_height blowup ms) ≡ Ok w →
    (blowup + final + 1 ≤ w) × (w < two) × (log_max_height blowup ms ≡ w)
claims_known C A B two blowup final ms w answered =
    let tests = claim_tests {C = C} {A = A} {B = B} two blowup final (log_sizes ms) in
    let all = passed tests (log_max_height blowup ms) w answered in
    let value = (passed-value tests (log_max_height blowup ms) w answered).1 in
    let low = claims_high C A B two blowup final (log_sizes ms) all in
    let tall = height_of_claims blowup ms (omega (arith, low)) in
    let inside = claims_in_group C A B two blowup final (log_sizes ms) all in
    (omega (arith, low, tall, value), omega (arith, inside, tall, value), value)

-- the lengths of lists of a round
round_lengths : {E W WC WD WP WE : Type 0}
    (os : List (CircleCommitPhaseMultiStep E W WC WD WP WE)) →
    map (λ o. map vec_len o.sibling_values.items) os
    ≡ map (λ o. map (λ values. length values) o.entries) (map opened_round os)
round_lengths [] = refl
round_lengths (o ∷ os) =
    ap (λ ns. ns ∷ map (λ o. map vec_len o.sibling_values.items) os) (each o.sibling_values.items)
    ∙ ap
    (λ rest. map (λ values. length values)
    (map (λ siblings. siblings.items) o.sibling_values.items) ∷ rest) (round_lengths os)
  where
    each : {E : Type 0} (vs : List (Vec E Global)) →
        map vec_len vs ≡ map (λ values. length values) (map (λ siblings. siblings.items) vs)
    each [] = refl
    each (v ∷ vs) = ap (λ n. n ∷ map vec_len vs) (v.ok.0)
        ∙ ap (λ rest. length v.items ∷ rest) (each vs)

pub siblings_counted : {E W WC WD WP WE : Type 0}
    (os : List (CircleCommitPhaseMultiStep E W WC WD WP WE)) →
    map (λ o. map vec_len o.sibling_values.items) os
    ≡ map (λ o. map (λ values. length values) o.entries) (map opened_round os)
siblings_counted os = round_lengths os

-- the tests of a proof's lengths, where the greatest height is known
pub shape_same : {F E M WC WD WP WE I Com C D V : Type 0} (is_zero : F → Bool) (p : FriParameters V)
    (fri : CircleFriProof E M F I WC WD WP WE) (batches : List (BatchClaim Com E)) (top : ℕ) →
    log_max_height p.log_blowup (all_matrices batches) ≡ top →
    answer {A = Unit {0}}
    (shape_tests {C = C} {I = D} is_zero p
    (log_max_height p.log_blowup (all_matrices batches) - 1 - p.log_blowup -
    p.log_final_poly_len) (length fri.commit_phase_commits.items)
    fri.commit_pow_witnesses.items fri.pow_witness
    (map (λ o. map (λ values. length values) o.entries)
    (map opened_round fri.commit_phase_openings.items))) (tt {0})
    ≡ answer
    (shape_tests is_zero p (top - 1 - p.log_blowup - p.log_final_poly_len)
    (vec_len fri.commit_phase_commits) fri.commit_pow_witnesses.items fri.pow_witness
    (map (λ o. map vec_len o.sibling_values.items) fri.commit_phase_openings.items)) (tt {0})
shape_same {C = C} {D = D} is_zero p fri batches top is =
    ap
    (λ n. answer {A = Unit {0}}
    (shape_tests {C = C} {I = D} is_zero p (n - 1 - p.log_blowup - p.log_final_poly_len)
    (length fri.commit_phase_commits.items)
    fri.commit_pow_witnesses.items fri.pow_witness
    (map (λ o. map (λ values. length values) o.entries)
    (map opened_round fri.commit_phase_openings.items))) (tt {0})) is
    ∙ ap
    (λ n. answer {A = Unit {0}}
    (shape_tests {C = C} {I = D} is_zero p (top - 1 - p.log_blowup - p.log_final_poly_len) n
    fri.commit_pow_witnesses.items fri.pow_witness
    (map (λ o. map (λ values. length values) o.entries)
    (map opened_round fri.commit_phase_openings.items))) (tt {0}))
    (sym fri.commit_phase_commits.ok.0)
    ∙ ap
    (λ ns. answer {A = Unit {0}}
    (shape_tests {C = C} {I = D} is_zero p (top - 1 - p.log_blowup - p.log_final_poly_len)
    (vec_len fri.commit_phase_commits)
    fri.commit_pow_witnesses.items fri.pow_witness ns) (tt {0}))
    (sym (siblings_counted fri.commit_phase_openings.items))

-- the test of the final polynomial, and those of points
pub final_same : {E R C D : Type 0} (final : ℕ) (v : Vec E R) (got : ℕ) → got ≡ vec_len v →
    answer {A = Unit {0}} (final_test {C = C} {I = D} final (length v.items) ∷ []) (tt {0})
    ≡ answer (final_test final got ∷ []) (tt {0})
final_same {C = C} {D = D} final v got is =
    ap (λ n. answer {A = Unit {0}} (final_test {C = C} {I = D} final n ∷ []) (tt {0}))
    (sym (is ∙ v.ok.0))

-- a test of the points of claims, batch by batch
or_assoc : (a b c : Bool) → (a || (b || c)) ≡ ((a || b) || c)
or_assoc true b c = refl
or_assoc false b c = refl

any-append : {T : Type 0} (f : T → Bool) (xs ys : List T) → list_any f (xs ++ ys)
    ≡ (list_any f xs || list_any f ys)
any-append f [] ys = refl
any-append f (x ∷ xs) ys = ap (λ b. f x || b) (any-append f xs ys)
    ∙ or_assoc (f x) (list_any f xs) (list_any f ys)

points_same : {E : Type 0} (test : E → Bool) (ps : List (PointOpening E)) →
    list_any (λ p. test p.point) ps ≡ list_any (λ c. test c.point) (map point_claim ps)
points_same test [] = refl
points_same test (p ∷ ps) = ap (λ b. test p.point || b) (points_same test ps)

matrices_same : {E F : Type 0} {g : Ghosts F} (test : E → Bool)
    (ms : List (MatrixOpening E (CircleDomain F g))) →
    list_any (λ m. list_any (λ p. test p.point) m.points.items) ms
    ≡ some_claim test (matrix_claims ms)
matrices_same test [] = refl
matrices_same test (m ∷ ms) =
    ap (λ b. b || list_any (λ m. list_any (λ p. test p.point) m.points.items) ms)
    (points_same test m.points.items)
    ∙ ap (λ b. list_any (λ c. test c.point) (map point_claim m.points.items) || b)
    (matrices_same test ms)

pub points_claimed : {E F Com : Type 0} {g : Ghosts F} (test : E → Bool)
    (bs : List (CommitmentOpening E Com (CircleDomain F g))) →
    some_point test bs ≡ some_claim test (all_matrices (batch_claims bs))
points_claimed test [] = refl
points_claimed test (b ∷ bs) =
    ap (λ t. t || some_point test bs) (matrices_same test b.matrices.items)
    ∙ ap (λ t. some_claim test (matrix_claims b.matrices.items) || t) (points_claimed test bs)
    ∙ sym (any-append (λ m. list_any (λ c. test c.point) m.claims) (matrix_claims b.matrices.items)
    (all_matrices (batch_claims bs)))

pub points_same_tests : {E F Com M C D : Type 0} {g : Ghosts F} (p : FriParameters M)
    (is_zero : Bool) (test : E → Bool) (bs : List (CommitmentOpening E Com (CircleDomain F g))) →
    answer {A = Unit {0}}
    (point_tests {C = C} {I = D} p is_zero (some_claim test (all_matrices (batch_claims bs))))
    (tt {0}) ≡ answer (point_tests p is_zero (some_point test bs)) (tt {0})
points_same_tests {C = C} {D = D} p is_zero test bs =
    ap (λ b. answer {A = Unit {0}} (point_tests {C = C} {I = D} p is_zero b) (tt {0}))
    (sym (points_claimed test bs))
