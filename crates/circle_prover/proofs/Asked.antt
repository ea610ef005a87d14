-- Requested matrices as the claims of a run.
use Rattle.std.specs.Prelude.{◌≡◌, ℕ, ◌+◌, ◌-◌, ◌≤◌, List, [], ◌∷◌, ◌++◌, length, map, flat_map}
use Rattle.std.specs.Prelude.{zip, All}
use Rattle.std.specs.List.{AllByRecursion, AllZip}
use Rattle.std.proofs.Common.{refl, sym, ◌∙◌, ap, arith}
use Rattle.std.proofs.lemmas.List.{map-append}
use Rattle.std.proofs.lemmas.List.Elements.{recursion_from_All}
use Rattle.circle_commit.specs.Mmcs.{greatest}
use Rattle.circle_commit.specs.Pcs.{Openings}
use Rattle.circle_commit.specs.declared.matrix.RowMajorMatrix.{RowMajorMatrix}
use Rattle.circle_commit.specs.declared.pcs.OpeningRequest.{OpeningRequest}
use Rattle.circle_commit.specs.DotProduct.{pairwise}
use Rattle.circle_field.specs.Field.{FieldOps}
use Rattle.circle_relation.specs.Accepts.{Fields}
use Rattle.circle_relation.specs.Statement.{all_matrices, log_height, log_max_height}
use Rattle.circle_codewords.specs.Words.{Committed, claim_of}
use Rattle.circle_codewords.specs.Requests.{AreAnswers, AreValuesOf, all_committed, batch_committed}
use Rattle.circle_codewords.specs.Requests.{claimed, claimed_batch, points_of}
use Rattle.circle_relation.specs.Taken.{claims_taken, point_taken, widths_by}
use Rattle.circle_prover.specs.Words.{top_of}

claim-widths : {E : Type 0} (points : List E) (values : List (List E)) →
    length values ≡ length points → map (λ c. length c.values) (pairwise claim_of points values)
    ≡ map (λ v. length v) values
claim-widths [] [] same = refl
claim-widths (t ∷ points) [] same = absurd (omega (arith, same))
claim-widths [] (v ∷ values) same = absurd (omega (arith, same))
claim-widths (t ∷ points) (v ∷ values) same =
    ap (λ ws. length v ∷ ws) (claim-widths points values (omega (arith, same)))

module _ {F E : Type 0} (blowup : ℕ) where
  -- the matrices of all batches, claimed
  pub all-claimed : (batches : List (List (Committed F E))) →
      all_matrices (map (claimed_batch blowup) batches)
      ≡ map (claimed blowup) (flat_map (λ b. b) batches)
  all-claimed [] = refl
  all-claimed (b ∷ batches) = ap (λ ms. map (claimed blowup) b ++ ms) (all-claimed batches)
      ∙ sym (map-append (claimed blowup) b (flat_map (λ b. b) batches))

  points-taken : (l : FieldOps E) (ms : List (Committed F E)) →
      flat_map (λ m. map (point_taken l) m.claims) (map (claimed blowup) ms)
      ≡ flat_map (λ m. map (point_taken l) m.claims) ms
  points-taken l [] = refl
  points-taken l (m ∷ ms) = ap (λ cs. map (point_taken l) m.claims ++ cs) (points-taken l ms)

  -- what a transcript absorbs of them
  pub all-taken : (l : FieldOps E) (batches : List (List (Committed F E))) →
      claims_taken l (map (claimed_batch blowup) batches)
      ≡ flat_map (λ m. map (point_taken l) m.claims) (flat_map (λ b. b) batches)
  all-taken l batches = ap (flat_map (λ m. map (point_taken l) m.claims)) (all-claimed batches)
      ∙ points-taken l (flat_map (λ b. b) batches)

  heights-claimed : (ms : List (Committed F E)) → AllByRecursion (λ m. blowup ≤ m.log_height) ms →
      map (log_height blowup) (map (claimed blowup) ms) ≡ map (λ m. m.log_height) ms
  heights-claimed [] high = refl
  heights-claimed (m ∷ ms) high =
      let here : m.log_height - blowup + blowup ≡ m.log_height = omega (arith, high.0) in
      ap (λ n. n ∷ map (log_height blowup) (map (claimed blowup) ms)) here
      ∙ ap (λ ns. m.log_height ∷ ns) (heights-claimed ms high.1)

  -- their greatest height
  pub top-claimed : (batches : List (List (Committed F E))) →
      All (λ m. blowup ≤ m.log_height) (flat_map (λ b. b) batches) →
      log_max_height blowup (all_matrices (map (claimed_batch blowup) batches))
      ≡ top_of (flat_map (λ b. b) batches)
  top-claimed batches high =
      ap (λ ms. greatest (map (log_height blowup) ms)) (all-claimed batches)
      ∙ ap greatest
      (heights-claimed (flat_map (λ b. b) batches)
      (recursion_from_All (λ (m : Committed F E). blowup ≤ m.log_height)
      (flat_map (λ b. b) batches) high))

  batch-widths : (k : Fields F E) (ms : List (RowMajorMatrix F)) (points : List (List E))
      (values : List (List (List E))) →
      AllZip (λ m rest. AreValuesOf k blowup m rest.0 rest.1) ms (zip points values) →
      length values ≡ length points
      →
      map (λ m. map (λ c. length c.values) m.claims)
      (map (claimed blowup) (batch_committed k blowup ms points values))
      ≡ map (λ m. map (λ w. length w) m) values
  batch-widths k [] [] [] are same = refl
  batch-widths k [] [] (v ∷ values) are same = absurd (omega (arith, same))
  batch-widths k [] (t ∷ points) [] are same = absurd (omega (arith, same))
  batch-widths k [] (t ∷ points) (v ∷ values) are same = absurd are
  batch-widths k (m ∷ ms) [] [] are same = absurd are
  batch-widths k (m ∷ ms) [] (v ∷ values) are same = absurd are
  batch-widths k (m ∷ ms) (t ∷ points) [] are same = absurd are
  batch-widths k (m ∷ ms) (t ∷ points) (v ∷ values) are same =
      ap
      (λ ws. ws ∷ map (λ m. map (λ c. length c.values) m.claims)
      (map (claimed blowup) (batch_committed k blowup ms points values)))
      (claim-widths t v are.0.count)
      ∙ ap (λ ws. map (λ w. length w) v ∷ ws)
      (batch-widths k ms points values are.1 (omega (arith, same)))

  -- the numbers of their columns, claim after claim
  pub all-widths : {D : Type 0} (kept : D → List (RowMajorMatrix F)) (k : Fields F E)
      (requests : List (OpeningRequest D E)) (values : Openings E) →
      AllZip (AreAnswers kept k blowup) requests values
      → widths_by (map (claimed_batch blowup) (all_committed kept k blowup requests values))
      ≡ map (λ b. map (λ m. map (λ w. length w) m) b) values
  all-widths kept k [] [] are = refl
  all-widths kept k [] (v ∷ values) are = absurd are
  all-widths kept k (r ∷ requests) [] are = absurd are
  all-widths kept k (r ∷ requests) (v ∷ values) are =
      ap
      (λ ws. ws
      ∷ widths_by (map (claimed_batch blowup) (all_committed kept k blowup requests values)))
      (batch-widths k (kept r.prover_data.now) (points_of kept r) v are.0.0 are.0.1)
      ∙ ap (λ ws. map (λ m. map (λ w. length w) m) v ∷ ws) (all-widths kept k requests values are.1)
