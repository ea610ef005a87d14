-- What is requested, returned, claimed and opened, side by side.
use Rattle.std.specs.Prelude.{◌≡◌, ℕ, ◌-◌, ◌≤◌, List, [], ◌∷◌, ◌++◌, length, map, flat_map, All}
use Rattle.std.specs.List.{AllByRecursion, AllZip}
use Rattle.std.proofs.Common.{refl, ◌∙◌, ap, subst, arith}
use Rattle.std.proofs.lemmas.List.{length-map}
use Rattle.std.proofs.lemmas.List.Elements.{recursion_from_All}
use Rattle.circle_commit.specs.Mmcs.{max_height}
use Rattle.circle_commit.specs.Pcs.{Openings}
use Rattle.circle_commit.specs.RowMajorMatrix.{height_of}
use Rattle.circle_commit.specs.declared.matrix.RowMajorMatrix.{RowMajorMatrix}
use Rattle.circle_commit.specs.declared.params.FriParameters.{FriParameters}
use Rattle.circle_commit.specs.declared.pcs.OpeningRequest.{OpeningRequest}
use Rattle.circle_domain.proofs.Twiddles.{map-map}
use Rattle.circle_relation.specs.Accepts.{Authenticates, Fields}
use Rattle.circle_relation.specs.Statement.{BatchClaim, Opened}
use Rattle.circle_codewords.specs.Words.{Committed}
use Rattle.circle_codewords.specs.Openings.{OpensRows, places_of}
use Rattle.circle_codewords.specs.Requests.{AreAnswers, HasBatchRows, IsFit, all_committed}
use Rattle.circle_codewords.specs.Requests.{batch_committed, claimed, log_of, points_of}
use Rattle.circle_completeness.specs.Claimed.{AreClaimed, IsClaimed}
use Rattle.circle_completeness.proofs.ReadRows.{HasReadRows}
use Rattle.circle_completeness.proofs.Items.{Item, claimed_of, committed_of, items-of, matrices_of}

-- what holds of all of two lists holds of each
first-known : {A : Type 0} (P : A → Type 0) (xs ys : List A) → AllByRecursion P (xs ++ ys) →
    AllByRecursion P xs
first-known P [] ys known = tt
first-known P (x ∷ xs) ys known = (known.0, first-known P xs ys known.1)

second-known : {A : Type 0} (P : A → Type 0) (xs ys : List A) → AllByRecursion P (xs ++ ys) →
    AllByRecursion P ys
second-known P [] ys known = known
second-known P (x ∷ xs) ys known = second-known P xs ys known.1

module _ {F E IC IP : Type 0} (k : Fields F E) (bits blowup top : ℕ)
    (Commits : List (RowMajorMatrix F) → IC → Type 0) (authenticates : Authenticates IC F IP)
    (queries : List ℕ) where
  -- the matrices of a batch, the claims on them, and what is opened of them at the queries
  pub record Part : Type 0 where
    pub items : List (Item k bits blowup top)
    pub batch : BatchClaim IC E
    pub opened : Opened (List (List F)) IP
    pub some : 1 ≤ length items
    pub commits : Commits (matrices_of k bits blowup top items) batch.commitment
    pub claims : batch.matrices ≡ map (claimed_of k bits blowup top) items
    pub opens :
        OpensRows Commits authenticates (matrices_of k bits blowup top items)
        (places_of (top - log_of (max_height (matrices_of k bits blowup top items))) queries)
        opened.entries opened.proof

  -- committed matrices, the claims on them and what is opened of them are those of parts
  pub record AreGathered (ms : List (Committed F E)) (batches : List (BatchClaim IC E))
      (inputs : List (Opened (List (List F)) IP)) : Type 0 where
    pub parts : List Part
    pub matrices : ms ≡ flat_map (λ part. map (committed_of k bits blowup top) part.items) parts
    pub batches_are : batches ≡ map (λ part. part.batch) parts
    pub inputs_are : inputs ≡ map (λ part. part.opened) parts

module _ {D F E M IC IP : Type 0} (k : Fields F E) (bits top : ℕ) (p : FriParameters M)
    (kept : D → List (RowMajorMatrix F)) (Commits : List (RowMajorMatrix F) → IC → Type 0)
    (authenticates : Authenticates IC F IP) (queries : List ℕ) where
  -- that of one request
  part_of : (r : OpeningRequest D E) (v : List (List (List E))) (b : BatchClaim IC E)
      (o : Opened (List (List F)) IP) → IsFit kept k p.log_blowup bits r →
      1 ≤ length (kept r.prover_data.now) →
      All (λ m. log_of (height_of m) ≤ top) (kept r.prover_data.now) →
      All (HasReadRows k p.log_blowup) (kept r.prover_data.now) →
      AllByRecursion (λ c. 1 ≤ length c.claims)
      (batch_committed k p.log_blowup (kept r.prover_data.now) (points_of kept r) v) →
      AreAnswers kept k p.log_blowup r v → IsClaimed k p kept Commits r v b →
      HasBatchRows kept Commits authenticates top queries r o →
      (part : Part k bits p.log_blowup top Commits authenticates queries)
      × (batch_committed k p.log_blowup (kept r.prover_data.now) (points_of kept r) v
      ≡ map (committed_of k bits p.log_blowup top) part.items)
      × (b ≡ part.batch) × (o ≡ part.opened)
  part_of r v b o fit some low read opened answers claims rows =
      let ms = kept r.prover_data.now in
      let items = items-of k bits p.log_blowup top ms (points_of kept r) v fit answers.0 opened
      (recursion_from_All (λ m. log_of (height_of m) ≤ top) ms low)
      (recursion_from_All (HasReadRows k p.log_blowup) ms read) in
      let part : Part k bits p.log_blowup top Commits authenticates queries = record {
        items = items.0;
        batch = b;
        opened = o;
        some =
            omega (
              arith,
              some,
              ap length items.1,
              length-map items.0 (λ (i : Item k bits p.log_blowup top). i.matrix),
            );
        commits = subst (λ l. Commits l b.commitment) items.1 claims.committed;
        claims = claims.matrices ∙ ap (map (claimed p.log_blowup)) items.2
            ∙ map-map (claimed p.log_blowup) (committed_of k bits p.log_blowup top) items.0;
        opens =
            subst
            (λ l. OpensRows Commits authenticates l
            (places_of (top - log_of (max_height l)) queries) o.entries o.proof) items.1 rows;
      } in
      (part, items.2, refl, refl)

  -- those of all requests
  pub gathered : (requests : List (OpeningRequest D E)) (values : Openings E)
      (batches : List (BatchClaim IC E)) (inputs : List (Opened (List (List F)) IP)) →
      AllByRecursion (IsFit kept k p.log_blowup bits) requests →
      AllByRecursion (λ r. 1 ≤ length (kept r.prover_data.now)) requests →
      AllByRecursion (λ r. All (λ m. log_of (height_of m) ≤ top) (kept r.prover_data.now))
      requests → AllByRecursion (λ r. All (HasReadRows k p.log_blowup) (kept r.prover_data.now))
      requests →
      AllByRecursion (λ c. 1 ≤ length c.claims)
      (flat_map (λ b. b) (all_committed kept k p.log_blowup requests values)) →
      AllZip (AreAnswers kept k p.log_blowup) requests values →
      AreClaimed k p kept Commits requests values batches →
      AllZip (HasBatchRows kept Commits authenticates top queries) requests inputs →
      AreGathered k bits p.log_blowup top Commits authenticates queries
      (flat_map (λ b. b) (all_committed kept k p.log_blowup requests values)) batches inputs
  gathered [] (v ∷ values) batches inputs fit some low read opened answers claims rows =
      absurd answers
  gathered (r ∷ requests) [] batches inputs fit some low read opened answers claims rows =
      absurd answers
  gathered [] [] batches (o ∷ inputs) fit some low read opened answers claims rows = absurd rows
  gathered [] [] (b ∷ batches) [] fit some low read opened answers claims rows = absurd claims
  gathered [] [] [] [] fit some low read opened answers claims rows =
      record { parts = []; matrices = refl; batches_are = refl; inputs_are = refl }
  gathered (r ∷ requests) (v ∷ values) batches [] fit some low read opened answers claims rows =
      absurd rows
  gathered (r ∷ requests) (v ∷ values) [] (o ∷ inputs) fit some low read opened answers claims
      rows = absurd claims
  gathered (r ∷ requests) (v ∷ values) (b ∷ batches) (o ∷ inputs) fit some low read opened answers
      claims rows =
      let here = batch_committed k p.log_blowup (kept r.prover_data.now) (points_of kept r) v in
      let others = flat_map (λ b. b) (all_committed kept k p.log_blowup requests values) in
      let IsOpened : Committed F E → Type 0 = λ c. 1 ≤ length c.claims in
      let one = part_of r v b o fit.0 some.0 low.0 read.0 (first-known IsOpened here others opened)
      answers.0 claims.0 rows.0 in
      let rest = gathered requests values batches inputs fit.1 some.1 low.1 read.1
      (second-known IsOpened here others opened) answers.1 claims.1 rows.1 in
      record {
        parts = one.0 ∷ rest.parts;
        matrices = ap (λ l. l ++ others) one.1
            ∙ ap (λ l. map (committed_of k bits p.log_blowup top) one.0.items ++ l) rest.matrices;
        batches_are = ap (λ x. x ∷ batches) one.2 ∙ ap (λ l. one.0.batch ∷ l) rest.batches_are;
        inputs_are = ap (λ x. x ∷ inputs) one.3 ∙ ap (λ l. one.0.opened ∷ l) rest.inputs_are;
      }
