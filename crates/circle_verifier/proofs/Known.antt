-- What is known where no test before the seeding has reason to refuse, and that none has where it
-- is known.
use Rattle.std.proofs.Common.{not, ◌==◌, ◌&&◌, ◌||◌, ◌≡◌, ◌≢◌, ℕ, Bool, true, false, ◌+◌, ◌^◌, ◌≤◌}
use Rattle.std.proofs.Common.{List, [], ◌∷◌, length, map, refl, sym, ap, subst, ◌∙◌, arith}
use Rattle.std.specs.Prelude.{Ok, All}
use Rattle.std.specs.List.{list_all, list_any, AllByRecursion}
use Rattle.std.proofs.lemmas.Bool.{leb-false, lt-leb, ltb-false, le-ltb, eqb-true, eqb-false}
use Rattle.std.proofs.lemmas.Bool.{eq-eqb, ne_eqb}
use Rattle.std.proofs.lemmas.List.{length-map}
use Rattle.std.proofs.lemmas.List.Elements.{All-from_recursion, recursion_from_All}
use Rattle.std.proofs.lemmas.List.Sums.{AllPass-from_list_all, list_all-from_AllPass}
use Rattle.circle_commit.specs.Mmcs.{greatest}
use Rattle.circle_commit.specs.declared.error.FriError.{FriError}
use Rattle.circle_commit.specs.declared.params.FriParameters.{FriParameters}
use Rattle.circle_relation.specs.declared.error.InputError.{InputError}
use Rattle.circle_relation.specs.Statement.{MatrixClaim, BatchClaim, OpeningProof, all_matrices}
use Rattle.circle_relation.specs.Statement.{log_sizes, log_max_height}
use Rattle.circle_relation.specs.TestsInOrder.{answer}
use Rattle.circle_verifier.specs.Refusals.{domain_tests, sibling_tests, round_tests, rounds_tests}
use Rattle.circle_verifier.specs.Refusals.{some_claim}
use Rattle.circle_verifier.specs.Tested.{rounds_due, IsTested}
use Rattle.circle_relation.proofs.Passed.{AllPass, passed, passes, pass-front, pass-back}
use Rattle.circle_relation.proofs.Passed.{pass-both}
use Rattle.circle_verifier.proofs.Seeding.{claims_part, parameters_part, shape_part, final_part}
use Rattle.circle_verifier.proofs.Seeding.{points_part, all_parts, parts-are, height_of_claims}

-- numbers that don't differ
same-from : (a b : ℕ) → not (a == b) ≡ false → a ≡ b
same-from a b h = by_cases (a == b) refl h
  where
    by_cases : (t : Bool) → (a == b) ≡ t → not t ≡ false → a ≡ b
    by_cases true is h = eqb-true a b is
    by_cases false is h = absurd (let none : true ≡ false = h in cc)

same-to : (a b : ℕ) → a ≡ b → not (a == b) ≡ false
same-to a b h = ap not (eq-eqb a b h)

-- a witness of no difficulty is zero
zero-from : (bits : ℕ) (z : Bool) → (bits == 0 && not z) ≡ false → bits ≡ 0 → z ≡ true
zero-from bits true h none = refl
zero-from bits false h none =
    absurd (let at : (bits == 0) ≡ true = eq-eqb bits 0 none in let t : (bits == 0 && true) ≡ true =
    ap (λ b. b && true) at in cc)

zero-to : (bits : ℕ) (z : Bool) → (bits ≡ 0 → z ≡ true) → (bits == 0 && not z) ≡ false
zero-to bits true h = and_false (bits == 0)
  where
    and_false : (b : Bool) → (b && false) ≡ false
    and_false true = refl
    and_false false = refl
zero-to bits false h = by_cases (bits == 0) refl
  where
    by_cases : (t : Bool) → (bits == 0) ≡ t → (t && true) ≡ false
    by_cases true is = absurd (let none = h (eqb-true bits 0 is) in cc)
    by_cases false is = refl

-- no entry passes a test
none-from : {T : Type 0} (f : T → Bool) (xs : List T) → list_any f xs ≡ false →
    AllByRecursion (λ x. f x ≡ false) xs
none-from f [] h = tt
none-from f (x ∷ xs) h =
    (front (f x) (list_any f xs) h, none-from f xs (back (f x) (list_any f xs) h))
  where
    front : (a b : Bool) → (a || b) ≡ false → a ≡ false
    front true b h = h
    front false b h = refl

    back : (a b : Bool) → (a || b) ≡ false → b ≡ false
    back true b h = absurd (let none : true ≡ false = h in cc)
    back false b h = h

none-to : {T : Type 0} (f : T → Bool) (xs : List T) → AllByRecursion (λ x. f x ≡ false) xs →
    list_any f xs ≡ false
none-to f [] h = refl
none-to f (x ∷ xs) h = ap (λ b. b || list_any f xs) h.0 ∙ none-to f xs h.1

module _ {E : Type 0} (C A B : Type 0) (final : ℕ) where
  -- each domain leaves something to fold
  domains-from : (ms : List (MatrixClaim E)) →
      AllPass (domain_tests {C = C} {A = A} {B = B} final (log_sizes ms)) →
      AllByRecursion (λ m. final + 1 ≤ m.log_n) ms
  unfolding AllPass
  domains-from [] all = tt
  domains-from (m ∷ ms) all =
      (let low = leb-false m.log_n final all.0 in omega (arith, low), domains-from ms all.1)

  domains-to : (ms : List (MatrixClaim E)) → AllByRecursion (λ m. final + 1 ≤ m.log_n) ms →
      AllPass (domain_tests {C = C} {A = A} {B = B} final (log_sizes ms))
  unfolding AllPass
  domains-to [] all = tt
  domains-to (m ∷ ms) all =
      (lt-leb m.log_n final (let low = all.0 in omega (arith, low)), domains-to ms all.1)

module _ {T : Type 0} (C I : Type 0) where
  -- one sibling at each query
  siblings-from : (round : ℕ) (vs : List (List T)) →
      AllPass (sibling_tests {C = C} {I = I} round (map (λ v. length v) vs)) →
      AllByRecursion (λ v. length v ≡ 1) vs
  unfolding AllPass
  siblings-from round [] all = tt
  siblings-from round (v ∷ vs) all = (same-from (length v) 1 all.0, siblings-from round vs all.1)

  siblings-to : (round : ℕ) (vs : List (List T)) → AllByRecursion (λ v. length v ≡ 1) vs →
      AllPass (sibling_tests {C = C} {I = I} round (map (λ v. length v) vs))
  unfolding AllPass
  siblings-to round [] all = tt
  siblings-to round (v ∷ vs) all = (same-to (length v) 1 all.0, siblings-to round vs all.1)

module _ {T X : Type 0} (entries : X → List (List T)) (queries : ℕ) where
  abbrev IsOpenedOnce : X → Type 0
  IsOpenedOnce o = (length (entries o) ≡ queries) × All (λ v. length v ≡ 1) (entries o)

module _ {T X : Type 0} (C I : Type 0) (entries : X → List (List T)) (queries : ℕ) where
  rounds-from : (round : ℕ) (os : List X) →
      AllPass
      (rounds_tests {C = C} {I = I} queries round (map (λ o. map (λ v. length v) (entries o)) os)) →
      AllByRecursion (IsOpenedOnce entries queries) os
  unfolding AllPass rounds_tests
  rounds-from round [] all = tt
  rounds-from round (o ∷ os) all =
      let lengths = map (λ v. length v) (entries o) in
      let first =
      pass-front (round_tests {C = C} {I = I} queries round lengths)
      (rounds_tests {C = C} {I = I} queries (round + 1)
      (map (λ o. map (λ v. length v) (entries o)) os)) all in
      let rest =
      pass-back (round_tests {C = C} {I = I} queries round lengths)
      (rounds_tests {C = C} {I = I} queries (round + 1)
      (map (λ o. map (λ v. length v) (entries o)) os)) all in (
        (
          sym (length-map (entries o) (λ v. length v)) ∙ same-from (length lengths) queries first.0,
          All-from_recursion (λ v. length v ≡ 1) (entries o)
              (siblings-from C I round (entries o) first.1),
        ),
        rounds-from (round + 1) os rest,
      )

  rounds-to : (round : ℕ) (os : List X) → AllByRecursion (IsOpenedOnce entries queries) os →
      AllPass
      (rounds_tests {C = C} {I = I} queries round (map (λ o. map (λ v. length v) (entries o)) os))
  unfolding AllPass rounds_tests
  rounds-to round [] all = tt
  rounds-to round (o ∷ os) all =
      let lengths = map (λ v. length v) (entries o) in
      pass-both (round_tests {C = C} {I = I} queries round lengths)
      (rounds_tests {C = C} {I = I} queries (round + 1)
      (map (λ o. map (λ v. length v) (entries o)) os)) (
        same-to (length lengths) queries (length-map (entries o) (λ v. length v) ∙ all.0.0),
        siblings-to C I round (entries o)
            (recursion_from_All (λ v. length v ≡ 1) (entries o) all.0.1),
      ) (rounds-to (round + 1) os all.1)

-- no claim passes a test
claims-from : {E : Type 0} (test : E → Bool) (ms : List (MatrixClaim E)) → some_claim test ms
    ≡ false → All (λ m. All (λ c. test c.point ≡ false) m.claims) ms
claims-from test ms h =
    All-from_recursion (λ m. All (λ c. test c.point ≡ false) m.claims) ms
    (each ms (none-from (λ m. list_any (λ c. test c.point) m.claims) ms h))
  where
    each : (ms : List (MatrixClaim _)) →
        AllByRecursion (λ m. list_any (λ c. test c.point) m.claims ≡ false) ms →
        AllByRecursion (λ m. All (λ c. test c.point ≡ false) m.claims) ms
    each [] all = tt
    each (m ∷ ms) all = (
      All-from_recursion (λ c. test c.point ≡ false) m.claims
          (none-from (λ c. test c.point) m.claims all.0),
      each ms all.1,
    )

claims-to : {E : Type 0} (test : E → Bool) (ms : List (MatrixClaim E)) →
    All (λ m. All (λ c. test c.point ≡ false) m.claims) ms → some_claim test ms ≡ false
claims-to test ms h =
    none-to (λ m. list_any (λ c. test c.point) m.claims) ms
    (each ms (recursion_from_All (λ m. All (λ c. test c.point ≡ false) m.claims) ms h))
  where
    each : (ms : List (MatrixClaim _)) →
        AllByRecursion (λ m. All (λ c. test c.point ≡ false) m.claims) ms →
        AllByRecursion (λ m. list_any (λ c. test c.point) m.claims ≡ false) ms
    each [] all = tt
    each (m ∷ ms) all = (
      none-to (λ c. test c.point) m.claims
          (recursion_from_All (λ c. test c.point ≡ false) m.claims all.0),
      each ms all.1,
    )

module _ {F E M Com WordCom InputProof WordProof : Type 0} (two : ℕ) (is_zero : F → Bool)
    (is_infinite : E → Bool)
    (p : FriParameters M) (batches : List (BatchClaim Com E))
    (proof : OpeningProof F E WordCom InputProof WordProof) where
  abbrev ms : List (MatrixClaim E)
  ms = all_matrices batches

  abbrev due : ℕ
  due = rounds_due p batches

  module _ (C A B : Type 0) where
    -- all parts pass
    pub record PartsPass : Type 0 where
      pub claims : AllPass
          (claims_part {C = C} {A = A} {B = B} two is_zero is_infinite p batches proof)
      pub parameters : AllPass
          (parameters_part {C = C} {A = A} {B = B} two is_zero is_infinite p batches proof)
      pub shape : AllPass
          (shape_part {C = C} {A = A} {B = B} two is_zero is_infinite p batches proof)
      pub final : AllPass
          (final_part {C = C} {A = A} {B = B} two is_zero is_infinite p batches proof)
      pub points : AllPass
          (points_part {C = C} {A = A} {B = B} two is_zero is_infinite p batches proof)

    pub known : PartsPass → IsTested two is_zero is_infinite p batches proof
    unfolding AllPass
    known parts =
        let domains =
        pass-front (domain_tests {C = C} {A = A} {B = B} p.log_final_poly_len (log_sizes ms)) _
        parts.claims.1 in
        let last =
        pass-back (domain_tests {C = C} {A = A} {B = B} p.log_final_poly_len (log_sizes ms)) _
        parts.claims.1 in
        let counted : length (log_sizes ms) ≡ length ms = length-map ms (λ m. m.log_n) in
        let some : length (log_sizes ms) ≢ 0 = eqb-false (length (log_sizes ms)) 0 parts.claims.0 in
        let sizes = domains-from C A B p.log_final_poly_len ms domains in
        let top = top_known ms sizes in
        let low = leb-false two (greatest (log_sizes ms) + p.log_blowup) last.0 in
        let shape = parts.shape in
        let lists = map (λ o. map (λ v. length v) o.entries) proof.rounds_opened in
        record {
          some_matrix = omega (arith, some, counted);
          large = All-from_recursion (λ m. p.log_final_poly_len + 1 ≤ m.log_n) ms sizes;
          in_group = let here = top (omega (arith, some, counted)) in omega (arith, here, low);
          batch_work = ltb-false 30 p.batch_proof_of_work_bits parts.parameters.0;
          commit_work = ltb-false 30 p.commit_proof_of_work_bits parts.parameters.1.0;
          query_work = ltb-false 30 p.query_proof_of_work_bits parts.parameters.1.1.0;
          queries = let some = eqb-false p.num_queries 0 parts.parameters.1.1.1.0 in
              omega (arith, some);
          blowup = let some = eqb-false p.log_blowup 0 parts.parameters.1.1.1.1.0 in
              omega (arith, some);
          arity = same-from p.max_log_arity 1 parts.parameters.1.1.1.1.1.0;
          commitments = same-from (length proof.commitments) due shape.0;
          witnesses = same-from (length proof.witnesses) due shape.1.0;
          opened = sym (length-map proof.rounds_opened (λ o. map (λ v. length v) o.entries))
              ∙ same-from (length lists) due shape.1.1.1.1.0;
          siblings =
              All-from_recursion (λ o. (length o.entries ≡ p.num_queries)
              × All (λ v. length v ≡ 1) o.entries) proof.rounds_opened
              (rounds-from C (InputError A B) (λ o. o.entries) p.num_queries 0 proof.rounds_opened
              shape.1.1.1.1.1);
          final_poly = same-from (length proof.final_poly) (2 ^ p.log_final_poly_len) parts.final.0;
          batch_zero = zero-from p.batch_proof_of_work_bits (is_zero proof.batch_witness)
              parts.points.0;
          commit_zero =
              λ none. AllPass-from_list_all is_zero proof.witnesses
              (zero-from p.commit_proof_of_work_bits (list_all is_zero proof.witnesses) shape.1.1.0
              none);
          query_zero = zero-from p.query_proof_of_work_bits (is_zero proof.query_witness)
              shape.1.1.1.0;
          finite = claims-from is_infinite ms parts.points.1.0;
        }
      where
        top_known : (ns : List (MatrixClaim E)) →
            AllByRecursion (λ m. p.log_final_poly_len + 1 ≤ m.log_n) ns → 1 ≤ length ns →
            log_max_height p.log_blowup ns ≡ greatest (log_sizes ns) + p.log_blowup
        top_known [] all some = absurd (omega (arith, some))
        top_known (n ∷ ns) all some =
            height_of_claims p.log_blowup (n ∷ ns) (let here = all.0 in omega (arith, here))

    pub all_pass : IsTested two is_zero is_infinite p batches proof → PartsPass
    unfolding AllPass
    all_pass k =
        let counted : length (log_sizes ms) ≡ length ms = length-map ms (λ m. m.log_n) in
        let sizes = recursion_from_All (λ m. p.log_final_poly_len + 1 ≤ m.log_n) ms k.large in
        let top = top_known ms sizes k.some_matrix in
        record {
          claims = (
            ne_eqb (length (log_sizes ms)) 0
                (λ none. absurd (let some = k.some_matrix in omega (arith, none, some, counted))),
            pass-both (domain_tests {C = C} {A = A} {B = B} p.log_final_poly_len (log_sizes ms)) _
                (domains-to C A B p.log_final_poly_len ms sizes) (
                  lt-leb two (greatest (log_sizes ms) + p.log_blowup) (let low = k.in_group in
                      omega (arith, low, top)),
                  tt,
                ),
          );
          parameters = (
            le-ltb 30 p.batch_proof_of_work_bits k.batch_work,
            (
              le-ltb 30 p.commit_proof_of_work_bits k.commit_work,
              (
                le-ltb 30 p.query_proof_of_work_bits k.query_work,
                (
                  ne_eqb p.num_queries 0
                      (λ none. absurd (let some = k.queries in omega (arith, none, some))),
                  (
                    ne_eqb p.log_blowup 0
                        (λ none. absurd (let some = k.blowup in omega (arith, none, some))),
                    (same-to p.max_log_arity 1 k.arity, tt),
                  ),
                ),
              ),
            ),
          );
          shape = (
            same-to (length proof.commitments) due k.commitments,
            (
              same-to (length proof.witnesses) due k.witnesses,
              (
                zero-to p.commit_proof_of_work_bits (list_all is_zero proof.witnesses)
                    (λ none. list_all-from_AllPass is_zero proof.witnesses (k.commit_zero none)),
                (
                  zero-to p.query_proof_of_work_bits (is_zero proof.query_witness) k.query_zero,
                  (
                    same-to (length (map (λ o. map (λ v. length v) o.entries) proof.rounds_opened))
                        due (length-map proof.rounds_opened (λ o. map (λ v. length v) o.entries)
                        ∙ k.opened),
                    rounds-to C (InputError A B) (λ o. o.entries) p.num_queries 0
                        proof.rounds_opened
                        (recursion_from_All (λ o. (length o.entries ≡ p.num_queries)
                        × All (λ v. length v ≡ 1) o.entries) proof.rounds_opened k.siblings),
                  ),
                ),
              ),
            ),
          );
          final = (same-to (length proof.final_poly) (2 ^ p.log_final_poly_len) k.final_poly, tt);
          points = (
            zero-to p.batch_proof_of_work_bits (is_zero proof.batch_witness) k.batch_zero,
            (claims-to is_infinite ms k.finite, tt),
          );
        }
      where
        top_known : (ns : List (MatrixClaim E)) →
            AllByRecursion (λ m. p.log_final_poly_len + 1 ≤ m.log_n) ns → 1 ≤ length ns →
            log_max_height p.log_blowup ns ≡ greatest (log_sizes ns) + p.log_blowup
        top_known [] all some = absurd (omega (arith, some))
        top_known (n ∷ ns) all some =
            height_of_claims p.log_blowup (n ∷ ns) (let here = all.0 in omega (arith, here))

    -- where the tests refuse nothing all is known, and where all is known they refuse nothing
    pub tested-of : {V : Type 0} (v w : V) →
        answer (all_parts {C = C} {A = A} {B = B} two is_zero is_infinite p batches proof) v ≡ Ok w
        → IsTested two is_zero is_infinite p batches proof
    tested-of v w is =
        let all =
        subst (AllPass {E = FriError C (InputError A B)})
        (parts-are two is_zero is_infinite p batches proof)
        (passed (all_parts two is_zero is_infinite p batches proof) v w is) in
        let rest = pass-back (claims_part two is_zero is_infinite p batches proof) _ all in
        let rest' = pass-back (parameters_part two is_zero is_infinite p batches proof) _ rest in
        let rest'' = pass-back (shape_part two is_zero is_infinite p batches proof) _ rest' in
        let last = final_part two is_zero is_infinite p batches proof in
        known (record {
          claims = pass-front (claims_part two is_zero is_infinite p batches proof) _ all;
          parameters = pass-front (parameters_part two is_zero is_infinite p batches proof) _ rest;
          shape = pass-front (shape_part two is_zero is_infinite p batches proof) _ rest';
          final = pass-front last (points_part two is_zero is_infinite p batches proof) rest'';
          points = pass-back last (points_part two is_zero is_infinite p batches proof) rest'';
        })

    pub answer-of : IsTested two is_zero is_infinite p batches proof →
        answer (all_parts {C = C} {A = A} {B = B} two is_zero is_infinite p batches proof) (tt {0})
        ≡ Ok (tt {0})
    answer-of t =
        let parts = all_pass t in
        passes (all_parts two is_zero is_infinite p batches proof) (tt {0})
        (subst (AllPass {E = FriError C (InputError A B)})
        (sym (parts-are two is_zero is_infinite p batches proof))
        (pass-both _ _ parts.claims
        (pass-both _ _ parts.parameters
        (pass-both _ _ parts.shape (pass-both _ _ parts.final parts.points)))))
